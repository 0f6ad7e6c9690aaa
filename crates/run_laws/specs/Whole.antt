-- A whole job that nobody disturbs, and what is told of its end.
use Rattle.std.specs.Prelude.{◌≡◌, ℕ}
use Rattle.law.specs.Documents.{Text, Document}
use Rattle.law.specs.Contents.{Story}
use Rattle.next_step.specs.Views.{Views}
use Rattle.next_step.specs.Replies.{Reply, conflict, fault}
use Rattle.next_step.specs.Hands.{Given}
use Rattle.next_step.specs.Rounds.{WorkerEnds, by_done, by_full, by_get, by_change, JobRan, worker_ran, runner_missed, runner_rested, runner_finished}

-- it was done, or what it looks for was not there; a fact would make too large a tree; its last call failed; or an object
-- had moved on
pub data Told : Type 0 where
  went : Told
  was_full : Told
  failed : Told
  was_moved : ℕ → ℕ → Told

-- of the call by which a job ends
abbrev pub told_by : Reply → Told
told_by fault = failed
told_by (conflict expected there) = was_moved expected there
told_by _ = went

abbrev pub told_of_end :
    {D : Document} {w : Text} {h : Story} {v : Views} {calls faults : ℕ} {g : Story} →
    WorkerEnds D w h v calls faults g → Told
told_of_end (by_done n) = went
told_of_end (by_full x s n viewed large) = was_full
told_of_end (by_get k r e n got ends) = told_by r
told_of_end (by_change m s facts r g e n viewed adds did ends) = told_by r

abbrev pub told_of_job :
    {D : Document} {h : Story} {job : Given} {calls faults : ℕ} {g : Story} → JobRan D h job calls faults g → Told
told_of_job (worker_ran w i g u calls faults ran end) = told_of_end end
told_of_job (runner_missed w name r got none) = told_by r
told_of_job (runner_rested w name r x got seen rests) = went
told_of_job (runner_finished w name r s x o g got seen next did) = told_by s

-- the job ran from one history to another, and this is told of its end
pub record Ran (D : Document) (h : Story) (job : Given) (told : Told) (g : Story) : Type 0 where
  pub calls : ℕ
  pub faults : ℕ
  pub ran : JobRan D h job calls faults g
  pub is_told : told ≡ told_of_job ran
