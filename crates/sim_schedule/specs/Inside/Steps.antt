-- The steps of a hand, and of the schedule, as the code makes them.
use Rattle.std.specs.Prelude.{ℕ, ◌+◌, ◌≤◌, List}
use Rattle.law.specs.Documents.{Document}
use Rattle.law.specs.Contents.{Story}
use Rattle.next_step.specs.Hands.{Hand, CallNote}
use Rattle.next_step.specs.Plays.{Stepped, ScheduleStep, Stage, Plays}
use Rattle.sim_schedule.specs.Simulating.{failures}

-- one step of the hand of a number; no more of its calls failed than the faults by which the outage rose
pub record HandMoved (D : Document) (h : Story) (a : Hand) (before : ℕ) (g : Story) (b : Hand) (after i : ℕ) : Type 0 where
  pub notes : List CallNote
  pub stepped : Stepped D h i a notes g b
  pub few : failures notes + before ≤ after

abbrev pub HandMoves : Document → Story → Hand → ℕ → Story → Hand → ℕ → Type 0
HandMoves D h a before g b after = (i : ℕ) → HandMoved D h a before g b after i

-- one step of a schedule
pub record StepPlayed (D : Document) (o : ScheduleStep) (p : Stage) (before : ℕ) (q : Stage) (after : ℕ) : Type 0 where
  pub notes : List CallNote
  pub plays : Plays D p o notes q
  pub few : failures notes + before ≤ after
