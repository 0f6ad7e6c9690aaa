-- The parts of a run, as the code has them.
use Rattle.std.specs.Prelude.{◌≡◌, ◌≢◌, List, [], Option, Some, None, Result, Ok, Err}
use Rattle.law.specs.Documents.{Text, Document}
use Rattle.law.specs.Contents.{Story}
use Rattle.sim_schedule.specs.declared.end.RunEnd.{RunEnd}
use Rattle.sim_schedule.specs.declared.end.RunEnd.TheVariants.{TooLarge}
use Rattle.sim_schedule.specs.Sweeping.{IsOver}

-- one round, and what follows it: the run goes on, or it is over but for these workflows
abbrev pub TurnGives : Document → Option (List Text) → Story → Type 0
TurnGives D None g = Unit {0}
TurnGives D (Some full) g = IsOver D g full

-- the end of a run at which these workflows are full
abbrev pub EndGives : List Text → Result Unit RunEnd → Type 0
EndGives full (Ok _) = full ≡ []
EndGives full (Err (TooLarge names)) = (names ≡ full) × (full ≢ [])
EndGives full (Err _) = ⊥
