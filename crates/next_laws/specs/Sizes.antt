-- How many calls a worker's job can still make: each that goes on leaves fewer, or the history has grown.
use Rattle.std.specs.Prelude.{◌≡◌, ℕ, ◌+◌, ◌*◌, ◌<◌, ◌≤◌, bytes_eq, List, length, filter_map, Option, Some, None, is_some, if◌then◌else◌}
use Rattle.std.specs.List.{list_any, sum_by}
use Rattle.tree_types.specs.declared.want.Want.{Want}
use Rattle.tree_types.specs.declared.want.Want.TheVariants as want
use Rattle.tree_types.specs.declared.entry.Key.{Key}
use Rattle.tree_types.specs.declared.entry.Key.TheVariants as of_key
use Rattle.meaning.specs.Answers.{Facts}
use Rattle.meaning.specs.Trees.{most_nodes}
use Rattle.history.specs.History.{Version, version_at}
use Rattle.law.specs.Documents.{Text, Command, Resume, Resubmit, Document}
use Rattle.law.specs.Contents.{Flow, Content, apply, Story}
use Rattle.law.specs.Justified.{tree_of, wants_of, IsLawful}
use Rattle.law.specs.Due.{Matter, node_name}
use Rattle.lawful.specs.Manifests.{HasValidWorkflows}
use Rattle.next_step.specs.Views.{Seen, Look, Views, nothing, look_at}
use Rattle.next_step.specs.Next.{get, act, worker_next}
use Rattle.next_step.specs.Changes.{change_of}
use Rattle.next_step.specs.Replies.{Reply, found, no_object, fault, goes_on, after}
use Rattle.next_step.specs.Calls.{Did, Undisturbed, calls_of}

-- 1 where there is no view
abbrev pub if_unseen : {A : Type 0} → Option A → ℕ
if_unseen None = 1
if_unseen (Some x) = 0

-- the names of the pods for which a workflow asks
abbrev pub pod_name : Flow → Want → Option Text
pod_name f (want.Pod p) = node_name f p.sels
pod_name f _ = None

abbrev pub pod_names : Flow → List Text
pod_names f = filter_map (pod_name f) (wants_of f)

-- one that was not looked at is read once; one that was noted as absent, and is there, is created in vain and read
abbrev pub pod_calls : Option (Version Content) → Option Look → ℕ
pod_calls o None = 1
pod_calls None (Some l) = 0
pod_calls (Some x) (Some l) = if is_some l.found then 0 else 2

abbrev pub calls_for_pod : Story → Text → Views → Text → ℕ
calls_for_pod h w v name = pod_calls (version_at apply h (of_key.Pod w name)) (look_at v name)

-- a resubmission is tried once
abbrev pub calls_for_command : Views → Command → ℕ
calls_for_command v (Resubmit c) = if list_any (bytes_eq c.name) v.tried then 0 else 1
calls_for_command v (Resume c) = 0

-- what is left to a job, with this view of its workflow, while the history stays as it is
abbrev pub calls_left : Document → Story → Text → Views → Flow → ℕ
calls_left D h w v f =
    if_unseen v.book + if_unseen v.saves + sum_by (calls_for_pod h w v) (pod_names f) +
    sum_by (calls_for_command v) D.commands

-- the job goes on with the same view of the workflow, and has fewer calls left
pub record HasFewer (D : Document) (h : Story) (w : Text) (v x : Views) (s : Seen Flow) : Type 0 where
  pub same : x.flow ≡ Some s
  pub fewer : calls_left D h w x s.content < calls_left D h w v s.content

-- a get may have answered this, perhaps with an older version
abbrev pub MayGet : Story → Key → Reply → Type 0
MayGet h k (found x) = Unit {0}
MayGet h k no_object = version_at apply h k ≡ None
MayGet h k fault = Unit {0}
MayGet h k _ = ⊥

-- by any views, over any history
abbrev pub ReadsLeaveFewer : Type 0
ReadsLeaveFewer =
    (D : Document) (h : Story) (w : Text) (v x : Views) (s : Seen Flow) (k : Key) (r : Reply) → v.flow ≡ Some s →
    worker_next D w v ≡ get k → MayGet h k r → after v (get k) r ≡ goes_on x → HasFewer D h w v x s

-- by any views, over any history that the call leaves as it was
abbrev pub RefusalsLeaveFewer : Type 0
RefusalsLeaveFewer =
    (D : Document) (h : Story) (w : Text) (v x : Views) (s : Seen Flow) (facts : Facts) (m : Matter) (r : Reply) →
    v.flow ≡ Some s → worker_next D w v ≡ act m → Did h (change_of w v s facts m) r h →
    after v (act m) r ≡ goes_on x → HasFewer D h w v x s

-- with a tree of so many nodes
abbrev pub most_calls : Document → ℕ → ℕ
most_calls D nodes = 2 + 2 * nodes + length D.commands

abbrev pub CallsAreBounded : Type 0
CallsAreBounded =
    (D : Document) (h : Story) (w : Text) (v : Views) (f : Flow) →
    calls_left D h w v f ≤ most_calls D (length (tree_of f))

-- A job that nobody disturbs, and in which so many entries come, makes at most so many calls, the first of which reads
-- the workflow. Where no entry comes the nodes are those of the tree that it has seen.
pub record IsBounded
    (D : Document) (w : Text) (h g : Story) (u : Views) (ran : Undisturbed D w h nothing g u) : Type 0 where
  pub bounded :
      (entries : ℕ) → length g.events ≡ length h.events + entries →
      calls_of ran ≤ (entries + 1) * (most_calls D most_nodes + 1)
  pub still :
      (s : Seen Flow) → u.flow ≡ Some s → length g.events ≡ length h.events →
      calls_of ran ≤ most_calls D (length (tree_of s.content)) + 1

abbrev pub UndisturbedEnds : Type 0
UndisturbedEnds =
    (D : Document) (w : Text) (h g : Story) (u : Views) (ran : Undisturbed D w h nothing g u) →
    HasValidWorkflows D → IsLawful D h → IsBounded D w h g u ran
