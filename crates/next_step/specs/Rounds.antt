-- Rounds that nobody disturbs, and a run of them: each job is ended before the next begins.
use Rattle.std.specs.Prelude.{◌≡◌, ◌⊎◌, ℕ, ◌+◌, ◌<◌, List, [], ◌∷◌, ◌++◌, length, filter_map, Option, Some, None}
use Rattle.tree_types.specs.declared.fact.Fact.{Fact}
use Rattle.tree_types.specs.declared.outcome.Outcome.{Outcome}
use Rattle.tree_types.specs.declared.entry.Key.{Key}
use Rattle.tree_types.specs.declared.entry.Key.TheVariants as of_key
use Rattle.tree_types.specs.declared.entry.Entry.{Entry}
use Rattle.tree_types.specs.declared.entry.Entry.TheVariants.{Submit, Create}
use Rattle.meaning.specs.Answers.{Facts}
use Rattle.history.specs.History.{grown}
use Rattle.law.specs.Documents.{Text, Document}
use Rattle.law.specs.Contents.{Flow, PodObject, pod_in, Story, pod_of}
use Rattle.law.specs.Due.{Matter, record_fact, IsTooLarge}
use Rattle.next_step.specs.Views.{Seen, Views, nothing}
use Rattle.next_step.specs.Next.{get, act, done, worker_next}
use Rattle.next_step.specs.Changes.{change_of, AddsFor}
use Rattle.next_step.specs.Replies.{Reply, found, fault, Ending, ended, seen, after}
use Rattle.next_step.specs.Runner.{finish, runner_next, finish_change}
use Rattle.next_step.specs.Calls.{Got, Did, Undisturbed, calls_of}
use Rattle.next_step.specs.Ticks.{next_tick}
use Rattle.next_step.specs.Hands.{Given, for_flow, for_pod}
use Rattle.next_step.specs.Plays.{EndsJob, tick_event}

-- ---- the jobs of a round, of the state at its start

abbrev pub submitted_by : Entry → Option Given
submitted_by (Submit w old facts) = Some (for_flow w)
submitted_by _ = None

abbrev pub if_unfinished : Given → Option PodObject → Option Given
if_unfinished job None = None
if_unfinished job (Some pod) = elim pod.outcome [ None ↦ Some job | Some o ↦ None ]

abbrev pub created_by : Story → Entry → Option Given
created_by h (Create w name p begin) = if_unfinished (for_pod w name) (pod_of h w name)
created_by h _ = None

-- a worker's for each workflow in order of submission, then a runner's for each unfinished pod in order of creation
abbrev pub jobs_of : Story → List Given
jobs_of h =
    filter_map (λ e. submitted_by e.entry) h.events ++ filter_map (λ e. created_by h e.entry) h.events

-- ---- a job

abbrev pub faults_of : Reply → ℕ
faults_of fault = 1
faults_of _ = 0

-- how a worker's job ends at a history: after so many calls more, so many of which fail, with this history after it
pub data WorkerEnds (D : Document) (w : Text) (h : Story) (v : Views) : ℕ → ℕ → Story → Type 0 where
  by_done : worker_next D w v ≡ done → WorkerEnds D w h v 0 0 h
  by_full :
      (x : Fact) (s : Seen Flow) → worker_next D w v ≡ act (record_fact x) → v.flow ≡ Some s →
      IsTooLarge s.content x → WorkerEnds D w h v 0 0 h
  by_get :
      (k : Key) (r : Reply) (e : Ending) → worker_next D w v ≡ get k → Got h k r → after v (get k) r ≡ ended e →
      WorkerEnds D w h v 1 (faults_of r) h
  by_change :
      (m : Matter) (s : Seen Flow) (facts : Facts) (r : Reply) (g : Story) (e : Ending) → worker_next D w v ≡ act m →
      v.flow ≡ Some s → AddsFor s facts m → Did h (change_of w v s facts m) r g → after v (act m) r ≡ ended e →
      WorkerEnds D w h v 1 (faults_of r) g

-- what a runner has read of its pod
abbrev pub pod_of_reply : Reply → Option (Seen PodObject)
pod_of_reply (found x) =
    elim (pod_in (Some x.content)) [ None ↦ None | Some pod ↦ Some (seen x.number pod x.tick) ]
pod_of_reply _ = None

-- a whole job that nobody disturbs: how many calls it makes, how many of them fail, and the history after it
pub data JobRan (D : Document) (h : Story) : Given → ℕ → ℕ → Story → Type 0 where
  worker_ran :
      (w : Text) (i g : Story) (u : Views) (calls faults : ℕ) (ran : Undisturbed D w h nothing i u) →
      WorkerEnds D w i u calls faults g → JobRan D h (for_flow w) (calls_of ran + calls) faults g
  runner_missed :
      (w name : Text) (r : Reply) → Got h (of_key.Pod w name) r → pod_of_reply r ≡ None →
      JobRan D h (for_pod w name) 1 (faults_of r) h
  runner_rested :
      (w name : Text) (r : Reply) (x : Seen PodObject) → Got h (of_key.Pod w name) r → pod_of_reply r ≡ Some x →
      EndsJob (runner_next D w name (Some x)) → JobRan D h (for_pod w name) 1 0 h
  runner_finished :
      (w name : Text) (r s : Reply) (x : Seen PodObject) (o : Outcome) (g : Story) → Got h (of_key.Pod w name) r →
      pod_of_reply r ≡ Some x → runner_next D w name (Some x) ≡ finish o → Did h (finish_change w name x o) s g →
      JobRan D h (for_pod w name) 2 (faults_of s) g

-- some jobs, one after the other
pub data JobsRan (D : Document) : Story → List Given → ℕ → ℕ → Story → Type 0 where
  no_more : {h : Story} → JobsRan D h [] 0 0 h
  one_more :
      {h i g : Story} {job : Given} {others : List Given} {calls faults more fail : ℕ} →
      JobRan D h job calls faults i → JobsRan D i others more fail g →
      JobsRan D h (job ∷ others) (calls + more) (faults + fail) g

-- ---- a run

abbrev pub entries_in : Story → ℕ
entries_in h = length h.events

-- So many rounds, with so many calls that fail. After a round with an entry or a fault another follows. After one without,
-- the clock goes to the next tick, or there is none and the run is over; after a tick that fails another round follows.
pub data RunRan (D : Document) : Story → ℕ → ℕ → Story → Type 0 where
  last_round :
      {h : Story} {calls : ℕ} → JobsRan D h (jobs_of h) calls 0 h → next_tick D h ≡ None → RunRan D h 1 0 h
  next_round :
      {h i g : Story} {calls faults rounds fail : ℕ} → JobsRan D h (jobs_of h) calls faults i →
      (entries_in h < entries_in i) ⊎ (0 < faults) → RunRan D i rounds fail g →
      RunRan D h (rounds + 1) (faults + fail) g
  then_ticks :
      {h g : Story} {calls rounds fail : ℕ} (tick : ℕ) → JobsRan D h (jobs_of h) calls 0 h →
      next_tick D h ≡ Some tick → RunRan D (grown h (tick_event tick)) rounds fail g → RunRan D h (rounds + 1) fail g
  tick_fails :
      {h g : Story} {calls rounds fail : ℕ} (tick : ℕ) → JobsRan D h (jobs_of h) calls 0 h →
      next_tick D h ≡ Some tick → RunRan D h rounds fail g → RunRan D h (rounds + 1) (1 + fail) g
