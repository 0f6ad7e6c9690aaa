-- What is left of a run that follows a schedule first.
use Rattle.std.specs.Prelude.{◌≢◌, ℕ, ◌+◌, ◌≤◌, List, [], ◌∷◌, map, replicate, Result, Ok, Err}
use Rattle.history.specs.History.{Extends}
use Rattle.item_reader.specs.declared.schedules.ScheduleStep.{ScheduleStep as SaidStep}
use Rattle.item_reader.specs.declared.schedules.ScheduleStep.TheVariants as said
use Rattle.law.specs.Documents.{Text, Document}
use Rattle.law.specs.Contents.{Story}
use Rattle.law.specs.Due.{IsPaced}
use Rattle.next_step.specs.Hands.{for_flow, for_pod, Hand, idle_hand, Answer, has_failed, CallNote}
use Rattle.next_step.specs.Plays.{ScheduleStep, give_job, make_step, restart, set_lag, set_clock, stage, Played}
use Rattle.next_step.specs.Rounds.{entries_in}
use Rattle.sim_schedule.specs.Sweeping.{with_submissions, IsOver}
use Rattle.sim_schedule.specs.declared.end.RunEnd.{RunEnd}
use Rattle.sim_schedule.specs.declared.end.RunEnd.TheVariants.{StoreFault, TooLarge, Memory}
use Rattle.wf_bundle.specs.declared.document.Schedule.{Schedule}

-- ---- schedules

-- a step that a document says, as it is played
abbrev pub step_of : SaidStep → ScheduleStep
step_of (said.Give hand workflow) = give_job hand (for_flow workflow)
step_of (said.GivePod hand workflow node) = give_job hand (for_pod workflow node)
step_of (said.Step hand) = make_step hand
step_of (said.Restart hand) = restart hand
step_of (said.Lag hand back) = set_lag hand back
step_of (said.Tick to) = set_clock to

abbrev pub steps_of : Schedule → List ScheduleStep
steps_of s = map step_of s.steps

-- the hands before the first step: none has a job
abbrev pub hands_of : Schedule → List Hand
hands_of s = replicate s.workers idle_hand

-- ---- calls that fail

abbrev pub failed : Answer → ℕ
failed has_failed = 1
failed _ = 0

-- how many of these calls failed
abbrev pub failures : List CallNote → ℕ
failures [] = 0
failures (n ∷ ns) = failed n.answer + failures ns

-- ---- a schedule is followed

-- From this history to that one: each step was played, and each of its calls answered, by the history that the steps before it
-- left. No more calls failed than the faults by which the outage rose.
pub record Followed (D : Document) (s : Schedule) (h : Story) (before : ℕ) (g : Story) (after : ℕ) : Type 0 where
  pub notes : List CallNote
  pub hands : List Hand
  pub played : Played D (stage h (hands_of s)) (steps_of s) notes (stage g hands)
  pub few : failures notes + before ≤ after

-- The workflows that were lacking are submitted, and the schedule is followed from there on. Behind it the pace is kept, up to an
-- end that is quiet but for these workflows, which are full.
pub record Simulated (D : Document) (s : Schedule) (h : Story) (before : ℕ) (g : Story) (after : ℕ) (full : List Text) : Type 0 where
  pub end : Story
  pub followed : Followed D s (with_submissions h D.workflows) before end after
  pub later : Extends g end
  pub paced : IsPaced D (entries_in end) g
  pub over : IsOver D g full

abbrev pub SimulationGives : Document → Schedule → Story → ℕ → Result Unit RunEnd → Story → ℕ → Type 0
SimulationGives D s h before (Ok _) g after = Simulated D s h before g after []
SimulationGives D s h before (Err (TooLarge full)) g after = Simulated D s h before g after full × (full ≢ [])
SimulationGives D s h before (Err StoreFault) g after = Unit {0}
SimulationGives D s h before (Err Memory) g after = Unit {0}
