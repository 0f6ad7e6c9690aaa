-- Hands as the code has them: the job that a hand does, and those that wait behind it.
use Rattle.std.specs.Prelude.{◌≡◌, ℕ, List, [], ◌∷◌, ◌++◌, map, Bool, true, false, Option, Some, None, Result, Ok, Err}
use Rattle.law.specs.Documents.{Text}
use Rattle.next_step.specs.Hands.{Given, for_flow, for_pod, Hand, fresh_hand}
use Rattle.reconcile_core.specs.Workers as working
use Rattle.reconcile_core.specs.Workers.{Working}
use Rattle.reconcile_core.specs.declared.answers.StepDone.{StepDone}
use Rattle.reconcile_core.specs.declared.answers.StepDone.TheVariants as step_done
use Rattle.reconcile_core.specs.declared.answers.ReconcileFault.{ReconcileFault}
use Rattle.pod_runner.specs.Running as running
use Rattle.pod_runner.specs.Running.{Running}
use Rattle.pod_runner.specs.declared.runner.PodJob.{PodJob}
use Rattle.pod_runner.specs.declared.answers.RunDone.{RunDone}
use Rattle.pod_runner.specs.declared.answers.RunDone.TheVariants as run_done
use Rattle.pod_runner.specs.declared.answers.RunFault.{RunFault}
use Rattle.sim_schedule.specs.declared.hand_job.Job.{Job}
use Rattle.sim_schedule.specs.declared.hand_job.Job.TheVariants as job
use Rattle.sim_schedule.specs.declared.hand_job.Doing.{Doing}
use Rattle.sim_schedule.specs.declared.hand_job.Doing.TheVariants.{Nothing, Workflow, Pod}
use Rattle.sim_schedule.specs.declared.hand_step.Left.{Left}

abbrev pub given : Job → Given
given (job.Workflow w) = for_flow w
given (job.Pod w name) = for_pod w name

-- ---- what a hand does

-- a worker or a runner has one job
pub record HasOne (k : Working) : Type 0 where
  pub job : Text
  pub only : k.jobs ≡ job ∷ []

pub record HasOnePod (r : Running) : Type 0 where
  pub job : PodJob
  pub only : r.jobs ≡ job ∷ []

-- the hand that has nothing else to do
abbrev pub alone : ℕ → Doing → Hand
alone lag Nothing = fresh_hand [] lag
alone lag (Workflow worker) = working.hand_of lag worker
alone lag (Pod runner) = running.hand_of lag runner

-- with these jobs behind its own
abbrev pub hand_with : Hand → List Given → Hand
hand_with a rest = record a { jobs = a.jobs ++ rest }

abbrev pub hand_in : Doing → List Job → ℕ → Hand
hand_in doing waiting lag = hand_with (alone lag doing) (map given waiting)

-- no job waits but behind another
abbrev pub IsBusyFirst : Doing → List Given → Type 0
IsBusyFirst Nothing waiting = waiting ≡ []
IsBusyFirst (Workflow worker) waiting = HasOne worker
IsBusyFirst (Pod runner) waiting = HasOnePod runner

-- a job begins
pub record IsBegun (job : Given) (doing : Doing) : Type 0 where
  pub fresh : (lag : ℕ) → alone lag doing ≡ fresh_hand (job ∷ []) lag
  pub one : (rest : List Given) → IsBusyFirst doing rest

-- the first of those that waited begins, and these still wait
pub record IsNext (waited : List Given) (doing : Doing) (waiting : List Given) : Type 0 where
  pub fresh : (lag : ℕ) → hand_with (alone lag doing) waiting ≡ fresh_hand waited lag
  pub first : IsBusyFirst doing waiting

-- ---- what a step leaves of it

-- the job goes on, or the next one begins
abbrev pub after_job : Option Doing → List Given → ℕ → Hand
after_job None rest lag = fresh_hand rest lag
after_job (Some doing) rest lag = hand_with (alone lag doing) rest

abbrev pub hand_after : Left → List Given → Hand
hand_after left rest = after_job left.doing rest left.lag

-- a worker's job goes on
abbrev pub is_called : Result StepDone ReconcileFault → Bool
is_called (Ok step_done.Called) = true
is_called _ = false

-- a runner's job goes on
abbrev pub is_running : Result RunDone RunFault → Bool
is_running (Ok run_done.Called) = true
is_running _ = false
