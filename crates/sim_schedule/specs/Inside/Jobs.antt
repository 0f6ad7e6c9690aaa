-- The jobs of a round, and what is told of their ends, as the code has them.
use Rattle.std.specs.Prelude.{◌≡◌, Bool, true, false, List, [], ◌∷◌, map, filter_map, Option, Some, None, is_none}
use Rattle.tree_types.specs.declared.entry.Entry.{Entry}
use Rattle.law.specs.Documents.{Text, Document}
use Rattle.law.specs.Contents.{PodObject, Story, pod_of}
use Rattle.next_step.specs.Hands.{Given, for_flow, for_pod}
use Rattle.next_step.specs.Rounds.{if_unfinished, submitted_by, created_by}
use Rattle.run_laws.specs.Pods.{still_open}
use Rattle.rest_laws.specs.Pods.{EndsAt}
use Rattle.run_laws.specs.Whole.{Told, went, was_full, failed}
use Rattle.sim_schedule.specs.declared.jobs.Job.{Job}
use Rattle.sim_schedule.specs.declared.jobs.Job.TheVariants.{Workflow, Pod}
use Rattle.sim_schedule.specs.declared.round.JobEnd.{JobEnd}
use Rattle.sim_schedule.specs.declared.round.JobEnd.TheVariants as end

abbrev pub given : Job → Given
given (Workflow w) = for_flow w
given (Pod w name end) = for_pod w name

-- the end of a pod is that of its job
abbrev pub KnowsEnd : Document → Story → Job → Type 0
KnowsEnd D h (Workflow w) = Unit {0}
KnowsEnd D h (Pod w name end) = EndsAt D h w name end

abbrev pub KnowsEnds : Document → Story → List Job → Type 0
KnowsEnds D h [] = Unit {0}
KnowsEnds D h (j ∷ js) = KnowsEnd D h j × KnowsEnds D h js

abbrev pub is_unfinished : Option PodObject → Bool
is_unfinished None = false
is_unfinished (Some pod) = is_none pod.outcome

-- a pod stands that has not ended
abbrev pub is_open : Story → Text → Text → Bool
is_open h w name = is_unfinished (pod_of h w name)

abbrev pub if_left : Bool → Given → Option Given
if_left true job = Some job
if_left false job = None

-- the jobs on pods that have not ended, with their ends
pub record AreLeft (D : Document) (h : Story) (all left : List Job) : Type 0 where
  pub jobs : map given left ≡ filter_map (λ j. still_open h (given j)) all
  pub ends : KnowsEnds D h left

-- ---- what a job waits for

-- the pod of a runner's job has not ended
abbrev pub IsWaiting : Story → Given → Type 0
IsWaiting h (for_flow w) = Unit {0}
IsWaiting h (for_pod w name) = if_unfinished (for_pod w name) (pod_of h w name) ≡ Some (for_pod w name)

-- nor is its end another than its job's
abbrev pub Waits : Document → Story → Job → Type 0
Waits D h j = KnowsEnd D h j × IsWaiting h (given j)

abbrev pub AllWait : Document → Story → List Job → Type 0
AllWait D h [] = Unit {0}
AllWait D h (j ∷ js) = Waits D h j × AllWait D h js

-- the workers' jobs of these entries, and the runners'
abbrev pub flows_in : List Entry → List Given
flows_in es = filter_map submitted_by es

abbrev pub pods_in : Story → List Entry → List Given
pods_in h es = filter_map (created_by h) es

-- what is told of a job that ended so
abbrev pub told : JobEnd → Told
told end.Went = went
told end.Full = was_full
told end.Failed = failed
