-- A worker's job that nobody disturbs, and a round in which no entry came.
use Rattle.std.specs.Prelude.{◌≡◌, [], Some, None}
use Rattle.tree_types.specs.declared.fact.Fact.{Fact}
use Rattle.tree_types.specs.declared.entry.Key.{Key}
use Rattle.tree_types.specs.declared.entry.Key.TheVariants as of_key
use Rattle.meaning.specs.Answers.{Facts}
use Rattle.law.specs.Documents.{Text, Document}
use Rattle.law.specs.Contents.{Flow, PodObject, OfPod, Story, pod_of, HasFlow}
use Rattle.law.specs.Justified.{IsLawful}
use Rattle.law.specs.Due.{Matter, record_fact, due_of, IsTooLarge, IsIdle}
use Rattle.lawful.specs.Manifests.{HasValidWorkflows}
use Rattle.next_step.specs.Views.{Seen, Views, nothing}
use Rattle.next_step.specs.Next.{get, act, done, worker_next}
use Rattle.next_step.specs.Changes.{change_of, ShownAt}
use Rattle.next_step.specs.Replies.{Reply, conflict, ended, by_absence, after}
use Rattle.next_step.specs.Runner.{runner_next}
use Rattle.next_step.specs.Calls.{Got, Did, Undisturbed}
use Rattle.next_step.specs.Plays.{EndsJob}
use Rattle.next_laws.specs.Fresh.{Fresh}

abbrev pub IsConflict : Reply → Type 0
IsConflict (conflict expected there) = Unit {0}
IsConflict _ = ⊥

-- the history is lawful, its views are fresh, its next call meets no conflict, and where it is done nothing of its
-- workflow is due
pub record GoesWell (D : Document) (w : Text) (g : Story) (u : Views) : Type 0 where
  pub lawful : IsLawful D g
  pub fresh : Fresh g w u
  pub no_conflict :
      (m : Matter) (s : Seen Flow) (facts : Facts) (r : Reply) (i : Story) → worker_next D w u ≡ act m →
      u.flow ≡ Some s → Did g (change_of w u s facts m) r i → IsConflict r → ⊥
  pub nothing_due : (s : Seen Flow) → worker_next D w u ≡ done → u.flow ≡ Some s → due_of D g w s.content ≡ []

-- at each moment of a job that nobody disturbs, and that begins at a lawful history of a document of valid workflows
abbrev pub UndisturbedGoesWell : Type 0
UndisturbedGoesWell =
    (D : Document) (w : Text) (h g : Story) (u : Views) → HasValidWorkflows D → IsLawful D h →
    Undisturbed D w h nothing g u → GoesWell D w g u

-- ---- a round in which no entry came

-- how a worker's job ends then: it is done, or its next fact makes too large a tree, or what it reads is not there
pub data StillEnd (D : Document) (h : Story) (w : Text) (u : Views) : Type 0 where
  as_done : worker_next D w u ≡ done → StillEnd D h w u
  as_full :
      (s : Seen Flow) (x : Fact) → u.flow ≡ Some s → worker_next D w u ≡ act (record_fact x) →
      IsTooLarge s.content x → StillEnd D h w u
  as_absent :
      (k : Key) (r : Reply) → worker_next D w u ≡ get k → Got h k r → after u (get k) r ≡ ended by_absence →
      StillEnd D h w u

pub record WorkerRan (D : Document) (h : Story) (w : Text) : Type 0 where
  pub views : Views
  pub ran : Undisturbed D w h nothing h views
  pub end : StillEnd D h w views

-- a runner that ends its job without a write
pub record RunnerRan (D : Document) (h : Story) (w name : Text) : Type 0 where
  pub view : Seen PodObject
  pub shown : ShownAt h (of_key.Pod w name) view.number (OfPod view.content) view.tick
  pub rests : EndsJob (runner_next D w name (Some view))

-- each workflow and each unfinished pod had its job, and the history is as it was
pub record StillRound (D : Document) (h : Story) : Type 0 where
  pub workers : (w : Text) (f : Flow) → HasFlow h w f → WorkerRan D h w
  pub runners :
      (w name : Text) (pod : PodObject) → pod_of h w name ≡ Some pod → pod.outcome ≡ None → RunnerRan D h w name

abbrev pub StillRoundIsIdle : Type 0
StillRoundIsIdle = (D : Document) (h : Story) → IsLawful D h → StillRound D h → IsIdle D h
