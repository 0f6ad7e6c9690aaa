-- The steps of schedules: each is of a form, and of a hand that is there.
use Rattle.std.specs.Prelude.{ℕ, suc, nat_lt, List, [], ◌∷◌, ◌++◌, Bool, true, false, Option, Some, None}
use Rattle.field_kinds.specs.Rules as rules
use Rattle.item_reader.specs.declared.schedules.ScheduleStep.{ScheduleStep}
use Rattle.item_reader.specs.declared.schedules.ScheduleStep.TheVariants as step
use Rattle.item_reader.specs.declared.items.Item.{Item}
use Rattle.item_reader.specs.declared.items.Item.TheVariants as item
use Rattle.bundle_rules.specs.declared.asked.Asked.{Asked}
use Rattle.bundle_rules.specs.Findings.{Found}
use Rattle.bundle_rules.specs.Names.{ask, first_broken, step_at}

-- hands are numbered from 0 and there are so many
abbrev pub is_of_hands : ℕ → ScheduleStep → Bool
is_of_hands workers (step.Give hand workflow) = nat_lt hand workers
is_of_hands workers (step.GivePod hand workflow node) = nat_lt hand workers
is_of_hands workers (step.Step hand) = nat_lt hand workers
is_of_hands workers (step.Restart hand) = nat_lt hand workers
is_of_hands workers (step.Lag hand back) = nat_lt hand workers
is_of_hands workers (step.Tick to) = true

abbrev pub is_step : ℕ → Option ScheduleStep → Bool
is_step workers None = false
is_step workers (Some s) = is_of_hands workers s

abbrev pub hands_asked : ℕ → ℕ → ℕ → List (Option ScheduleStep) → List Asked
hands_asked workers i j [] = []
hands_asked workers i j (s ∷ ss) = ask i (step_at j) (is_step workers s) ∷ hands_asked workers i (suc j) ss

abbrev pub schedule_asked : ℕ → Item → List Asked
schedule_asked i (item.Schedule s) = hands_asked s.workers i 0 s.steps
schedule_asked i _ = []

abbrev pub schedules_in : ℕ → List Item → List Asked
schedules_in i [] = []
schedules_in i (x ∷ xs) = schedule_asked i x ++ schedules_in (suc i) xs

abbrev pub schedules_asked : List Item → Found (Unit {0})
schedules_asked xs = first_broken rules.bad_schedule (schedules_in 0 xs)
