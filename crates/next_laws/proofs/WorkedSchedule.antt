-- Worked schedules: two hands on one workflow of one pod, of which the second's write meets a conflict; one with a lag and a
-- restart, whose late read leads to a conflict too; and one in which a runner waits for a tick. And what reads back.
use Rattle.std.proofs.Common.{◌≡◌, ℕ, lit≤, List, [], ◌∷◌, refl, Some, None, arith}
use Rattle.tree_types.specs.declared.fact.Fact.TheVariants as fact
use Rattle.tree_types.specs.declared.entry.Key.TheVariants.{Workflow, Pod, Caches}
use Rattle.tree_types.specs.declared.entry.Entry.{Entry}
use Rattle.tree_types.specs.declared.entry.Entry.TheVariants.{Write, Finish}
use Rattle.tree_types.specs.declared.outcome.Outcome.{Outcome}
use Rattle.meaning.specs.Trees.{closed}
use Rattle.history.specs.History.{event, grown}
use Rattle.history.specs.Versions.{back_of, lag_after}
use Rattle.law.specs.Documents.{ended_by}
use Rattle.law.specs.Contents.{OfWorkflow, OfPod, OfCaches, flow, begun_pod, finished, Story}
use Rattle.law.specs.Due.{record_fact}
use Rattle.next_step.specs.Views.{nothing}
use Rattle.next_step.specs.Replies.{found, accepted, conflict, seen}
use Rattle.next_step.specs.Backward.{read_back}
use Rattle.next_step.specs.Hands.{for_flow, for_pod, Hand, idle_hand, CallNote, note, op_get, op_write, op_tick, was_read, was_accepted, was_moved, was_behind}
use Rattle.next_step.specs.Plays.{Stepped, gets, changes, gets_pod, finishes, ends, ScheduleStep, give_job, make_step, restart, set_lag, set_clock, stage, tick_event, gave, stepped, restarted, lagged, ticked, stayed, Played, over, step}
use Rattle.next_laws.proofs.WorkedConflict.{w, m, D, h, g, at_first, has_read as view_read, has_written as view_written, main, plan, running}

-- ---- two hands

abbrev pub waits : Hand
waits = record { jobs = for_flow w ∷ []; views = nothing; pod = None; lag = 0 }

abbrev pub has_read : Hand
has_read = record waits { views = view_read }

abbrev pub has_written : Hand
has_written = record waits { views = view_written }

abbrev pub started : Entry
started = Write w 2 (fact.Started ∷ [])

-- a hand's read while the workflow stands at version 1
reads : (i : ℕ) → Stepped D h i waits (note i (op_get (Workflow w)) (was_read 1) ∷ []) h has_read
reads i = gets w [] (Workflow w) (found (seen 1 (OfWorkflow (flow m [])) 0)) refl refl refl

writes : Stepped D h 0 has_read (note 0 (op_write (Workflow w) started) (was_accepted 2) ∷ []) g has_written
writes = changes w [] (record_fact fact.Started) at_first (fact.Started ∷ []) (accepted (seen 2 (OfWorkflow (flow m (fact.Started ∷ []))) 0)) g refl refl refl
    record { beginnings = []; parts = refl; closes = closed refl; fits = omega arith; is_new = refl }
    record { unmoved = refl; grows = refl; shows = record { stood = refl; clock = refl } }

meets_conflict : Stepped D g 1 has_read (note 1 (op_write (Workflow w) started) (was_moved 1 2) ∷ []) g idle_hand
meets_conflict = changes w [] (record_fact fact.Started) at_first (fact.Started ∷ []) (conflict 1 2) g refl refl refl
    record { beginnings = []; parts = refl; closes = closed refl; fits = omega arith; is_new = refl }
    (lit≤ tt, refl, refl, lit≤ tt, refl)

abbrev pub two_steps : List ScheduleStep
two_steps =
    give_job 0 (for_flow w) ∷ give_job 1 (for_flow w) ∷ make_step 0 ∷ make_step 1 ∷ make_step 0 ∷ make_step 1 ∷ []

abbrev pub two_notes : List CallNote
two_notes =
    note 0 (op_get (Workflow w)) (was_read 1) ∷ note 1 (op_get (Workflow w)) (was_read 1)
    ∷ note 0 (op_write (Workflow w) started) (was_accepted 2) ∷ note 1 (op_write (Workflow w) started) (was_moved 1 2) ∷ []

pub two_hands : Played D (stage h (idle_hand ∷ idle_hand ∷ [])) two_steps two_notes (stage g (has_written ∷ idle_hand ∷ []))
two_hands =
    step (give_job 0 (for_flow w)) (gave 0 (for_flow w) idle_hand refl)
    (step (give_job 1 (for_flow w)) (gave 1 (for_flow w) idle_hand refl)
    (step (make_step 0) (stepped 0 waits has_read _ h refl (reads 0))
    (step (make_step 1) (stepped 1 waits has_read _ h refl (reads 1))
    (step (make_step 0) (stepped 0 has_read has_written _ g refl writes)
    (step (make_step 1) (stepped 1 has_read idle_hand _ g refl meets_conflict)
    over)))))

-- ---- a lag

-- the workflow stands at version 2: so many back there is none, and the first is read, with the tick at which it was made
reads_first : read_back g (Workflow w) 9 ≡ Some (seen 1 (OfWorkflow (flow m [])) 0)
reads_first = refl

reads_last : read_back g (Workflow w) 0 ≡ Some (seen 2 (OfWorkflow (flow m (fact.Started ∷ []))) 0)
reads_last = refl

-- the saves are read as they stand, and leave the lag
saves_stand : read_back g Caches (back_of Caches 9) ≡ Some (seen 1 (OfCaches []) 0)
saves_stand = refl

lag_stays : lag_after Caches 9 ≡ 9
lag_stays = refl

abbrev lags : Hand
lags = record waits { lag = 9 }

reads_late : Stepped D g 1 lags (note 1 (op_get (Workflow w)) (was_read 1) ∷ []) g has_read
reads_late = gets w [] (Workflow w) (found (seen 1 (OfWorkflow (flow m [])) 0)) refl refl refl

abbrev late_steps : List ScheduleStep
late_steps =
    restart 0 ∷ give_job 1 (for_flow w) ∷ set_lag 1 9 ∷ make_step 1 ∷ make_step 1 ∷ set_clock 0 ∷ []

abbrev late_notes : List CallNote
late_notes =
    note 1 (op_get (Workflow w)) (was_read 1) ∷ note 1 (op_write (Workflow w) started) (was_moved 1 2)
    ∷ note 2 (op_tick 0) (was_behind 0) ∷ []

late_read : Played D (stage g (has_written ∷ idle_hand ∷ [])) late_steps late_notes (stage g (idle_hand ∷ idle_hand ∷ []))
late_read =
    step (restart 0) (restarted 0 has_written refl)
    (step (give_job 1 (for_flow w)) (gave 1 (for_flow w) idle_hand refl)
    (step (set_lag 1 9) (lagged 1 9 waits refl)
    (step (make_step 1) (stepped 1 lags has_read _ g refl reads_late)
    (step (make_step 1) (stepped 1 has_read idle_hand _ g refl meets_conflict)
    (step (set_clock 0) (stayed 0 (omega arith))
    over)))))

-- ---- a runner, and a tick

abbrev runs : Hand
runs = record { jobs = for_pod w w ∷ []; views = nothing; pod = None; lag = 0 }

abbrev later : Story
later = grown running (tick_event 5)

abbrev o : Outcome
o = ended_by plan 0 5

abbrev ended : Story
ended = grown later (event (Finish w w o) None)

abbrev runner_steps : List ScheduleStep
runner_steps =
    give_job 0 (for_pod w w) ∷ make_step 0 ∷ make_step 0 ∷ set_clock 5 ∷ give_job 0 (for_pod w w) ∷ make_step 0
    ∷ make_step 0 ∷ []

abbrev runner_notes : List CallNote
runner_notes =
    note 0 (op_get (Pod w w)) (was_read 1) ∷ note 1 (op_tick 5) (was_accepted 5)
    ∷ note 0 (op_get (Pod w w)) (was_read 1) ∷ note 0 (op_write (Pod w w) (Finish w w o)) (was_accepted 2) ∷ []

abbrev sees_early : Hand
sees_early = record runs { pod = Some (seen 1 (begun_pod main 0) 0) }

abbrev sees_due : Hand
sees_due = record runs { pod = Some (seen 1 (begun_pod main 0) 5) }

waits_for_tick : Played D (stage running (idle_hand ∷ [])) runner_steps runner_notes (stage ended (idle_hand ∷ []))
waits_for_tick =
    step (give_job 0 (for_pod w w)) (gave 0 (for_pod w w) idle_hand refl)
    (step (make_step 0) (stepped 0 runs sees_early _ running refl
    (gets_pod w w [] (found (seen 1 (OfPod (begun_pod main 0)) 0)) refl refl refl))
    (step (make_step 0) (stepped 0 sees_early idle_hand _ running refl
    (ends w w [] (seen 1 (begun_pod main 0) 0) refl refl tt))
    (step (set_clock 5) (ticked 5 (lit≤ tt))
    (step (give_job 0 (for_pod w w)) (gave 0 (for_pod w w) idle_hand refl)
    (step (make_step 0) (stepped 0 runs sees_due _ later refl
    (gets_pod w w [] (found (seen 1 (OfPod (begun_pod main 0)) 5)) refl refl refl))
    (step (make_step 0) (stepped 0 sees_due idle_hand _ ended refl
    (finishes w w [] (seen 1 (begun_pod main 0) 5) o (accepted (seen 2 (OfPod (finished (begun_pod main 0) o)) 5)) ended refl refl refl
    record { unmoved = refl; grows = refl; shows = record { stood = refl; clock = refl } }))
    over))))))
