-- A hand with its jobs, and the notes of its calls.
use Rattle.std.specs.Prelude.{ℕ, zero, suc, List, [], Option, Some, None}
use Rattle.tree_types.specs.declared.entry.Key.{Key}
use Rattle.tree_types.specs.declared.entry.Entry.{Entry}
use Rattle.law.specs.Documents.{Text}
use Rattle.law.specs.Contents.{PodObject, pod_in}
use Rattle.next_step.specs.Views.{Seen, Views, nothing}
use Rattle.next_step.specs.Changes.{Change}
use Rattle.next_step.specs.Replies.{Reply, found, accepted, no_object, exists, conflict, fault, Job, goes_on, ended, seen}

-- ---- hands

-- a worker's job on a workflow, or a runner's on a pod
pub data Given : Type 0 where
  for_flow : Text → Given
  for_pod : Text → Text → Given

-- a hand does the oldest of its jobs: the views are a worker's in that job, the pod is a runner's
pub record Hand : Type 0 where
  pub jobs : List Given
  pub views : Views
  pub pod : Option (Seen PodObject)
  pub lag : ℕ

-- before the first call of its oldest job
abbrev pub fresh_hand : List Given → ℕ → Hand
fresh_hand jobs lag = record { jobs = jobs; views = nothing; pod = None; lag = lag }

-- it has forgotten all
abbrev pub idle_hand : Hand
idle_hand = fresh_hand [] 0

-- what a worker's job becomes: it goes on, or the next of the jobs begins
abbrev pub with_job : Job → List Given → List Given → ℕ → Hand
with_job (goes_on v) all others lag = record { jobs = all; views = v; pod = None; lag = lag }
with_job (ended e) all others lag = fresh_hand others lag

-- what a runner's job becomes, by the pod that was read; a content of another kind ends it
abbrev pub with_pod : ℕ → ℕ → Option PodObject → List Given → List Given → ℕ → Hand
with_pod n tick (Some pod) all others lag =
    record { jobs = all; views = nothing; pod = Some (seen n pod tick); lag = lag }
with_pod n tick None all others lag = fresh_hand others lag

abbrev pub with_reply : Reply → List Given → List Given → ℕ → Hand
with_reply (found x) all others lag = with_pod x.number x.tick (pod_in (Some x.content)) all others lag
with_reply _ all others lag = fresh_hand others lag

-- ---- notes

pub data Op : Type 0 where
  op_get : Key → Op
  op_create : Key → Entry → Op
  op_write : Key → Entry → Op
  op_tick : ℕ → Op

-- with the version that was read or accepted, or the new clock; a conflict has the version that was expected and the
-- one that was found, and a tick that is behind has the clock
pub data Answer : Type 0 where
  was_read : ℕ → Answer
  was_accepted : ℕ → Answer
  was_absent : Answer
  was_there : Answer
  was_moved : ℕ → ℕ → Answer
  was_behind : ℕ → Answer
  has_failed : Answer

pub record CallNote : Type 0 where
  pub hand : ℕ
  pub op : Op
  pub answer : Answer

abbrev pub note : ℕ → Op → Answer → CallNote
note i op answer = record { hand = i; op = op; answer = answer }

-- a change from version 0 is a create
abbrev pub op_from : ℕ → Key → Entry → Op
op_from zero k e = op_create k e
op_from (suc n) k e = op_write k e

abbrev pub op_of : Change → Op
op_of c = op_from c.number c.key c.event.entry

abbrev pub answer_of : Reply → Answer
answer_of (found x) = was_read x.number
answer_of (accepted x) = was_accepted x.number
answer_of no_object = was_absent
answer_of exists = was_there
answer_of (conflict expected there) = was_moved expected there
answer_of fault = has_failed
