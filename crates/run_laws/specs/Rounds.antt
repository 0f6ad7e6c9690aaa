-- Some jobs, one after the other: which workflows were full, and whether a call failed.
use Rattle.std.specs.Prelude.{◌≡◌, ℕ, Bool, true, false, ◌||◌, nat_lt, List, [], ◌∷◌, ◌++◌}
use Rattle.law.specs.Documents.{Text, Document}
use Rattle.law.specs.Contents.{Story}
use Rattle.law.specs.Justified.{IsLawful}
use Rattle.lawful.specs.Manifests.{HasValidWorkflows}
use Rattle.next_step.specs.Views.{Views}
use Rattle.next_step.specs.Hands.{Given, for_flow}
use Rattle.next_step.specs.Rounds.{WorkerEnds, by_done, by_full, by_get, by_change, JobRan, worker_ran, runner_missed, runner_rested, runner_finished, JobsRan, no_more, one_more}
use Rattle.run_laws.specs.Whole.{Told, was_full, failed, was_moved, Ran}

-- ---- the full workflows

-- the workflow, where its next fact makes too large a tree
abbrev pub full_of_end :
    {D : Document} {w : Text} {h : Story} {v : Views} {calls faults : ℕ} {g : Story} →
    WorkerEnds D w h v calls faults g → List Text
full_of_end (by_done n) = []
full_of_end {w = w} (by_full x s n viewed large) = w ∷ []
full_of_end (by_get k r e n got ends) = []
full_of_end (by_change m s facts r g e n viewed adds did ends) = []

abbrev pub full_of_job :
    {D : Document} {h : Story} {job : Given} {calls faults : ℕ} {g : Story} → JobRan D h job calls faults g → List Text
full_of_job (worker_ran w i g u calls faults ran end) = full_of_end end
full_of_job (runner_missed w name r got none) = []
full_of_job (runner_rested w name r x got seen rests) = []
full_of_job (runner_finished w name r s x o g got seen next did) = []

-- of some jobs, in their order
abbrev pub full_in :
    {D : Document} {h : Story} {jobs : List Given} {calls faults : ℕ} {g : Story} →
    JobsRan D h jobs calls faults g → List Text
full_in no_more = []
full_in (one_more ran rest) = full_of_job ran ++ full_in rest

-- ---- as it is told of a job's end

abbrev pub full_by : Given → Told → List Text
full_by (for_flow w) was_full = w ∷ []
full_by _ _ = []

abbrev pub is_failed : Told → Bool
is_failed failed = true
is_failed _ = false

-- ---- some jobs

-- these jobs ran from one history to another; these workflows were full, and a call failed or none did
pub record JobsDone
    (D : Document) (h : Story) (jobs : List Given) (g : Story) (full : List Text) (failed : Bool) : Type 0 where
  pub calls : ℕ
  pub faults : ℕ
  pub ran : JobsRan D h jobs calls faults g
  pub is_full : full ≡ full_in ran
  pub has_failed : failed ≡ nat_lt 0 faults

pub record RoundsAreDone : Type 0 where
  -- no jobs
  pub none : (D : Document) (h : Story) → JobsDone D h [] h [] false
  -- and one job more
  pub more :
      (D : Document) (h i g : Story) (jobs : List Given) (job : Given) (told : Told) (full : List Text)
      (failed : Bool) → JobsDone D h jobs i full failed → Ran D i job told g →
      JobsDone D h (jobs ++ job ∷ []) g (full ++ full_by job told) (failed || is_failed told)

-- where nobody disturbs no object has moved on
abbrev pub NeverMoved : Type 0
NeverMoved =
    (D : Document) (h g : Story) (job : Given) (expected there : ℕ) → HasValidWorkflows D → IsLawful D h →
    Ran D h job (was_moved expected there) g → ⊥
