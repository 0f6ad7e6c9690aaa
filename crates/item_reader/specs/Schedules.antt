-- What a `Schedule` resource reads as. It is this project's own.
use Rattle.std.specs.Prelude.{ℕ, ◌-◌, ◌^◌, List, [], ◌∷◌, Bool, true, not, ◌&&◌, Option, Some, None, Ok, Err, if◌then◌else◌, codes}
use Rattle.serde_json.specs.Data.{Data}
use Rattle.base_types.specs.Limits.{latest_tick, most_workers, most_schedule_steps}
use Rattle.field_kinds.specs.Reading.{Read, ◌>>=◌, Kind, refuse_by}
use Rattle.field_kinds.specs.Rules as rules
use Rattle.field_kinds.specs.Kinds.{text, number_in, object_of}
use Rattle.field_kinds.specs.Fields.{required, default, default_list, has}
use Rattle.item_reader.specs.declared.schedules.ScheduleStep.{ScheduleStep}
use Rattle.item_reader.specs.declared.schedules.ScheduleStep.TheVariants as step
use Rattle.item_reader.specs.declared.schedules.Schedule.{Schedule}
use Rattle.item_reader.specs.declared.steps.PodSaid.{PodSaid}

-- ---- steps

-- the number of a hand, of 32 bits
abbrev pub hand : List ℕ → Kind ℕ
hand = required (number_in 0 (2 ^ 32 - 1))

-- a tick, or how many versions a get goes back
abbrev pub span : List ℕ → Kind ℕ
span = required (number_in 0 latest_tick)

unfoldable pub give : Kind ScheduleStep
give at d = do
  h ← hand (codes "give") at d
  workflow ← required text (codes "workflow") at d
  Ok (step.Give h workflow)

unfoldable pub pod_fields : Kind PodSaid
pod_fields at d = do
  workflow ← required text (codes "workflow") at d
  node ← required text (codes "node") at d
  Ok (record { workflow = workflow; node = node })

unfoldable pub give_pod : Kind ScheduleStep
give_pod at d = do
  h ← hand (codes "give") at d
  pod ← required (object_of pod_fields) (codes "pod") at d
  Ok (step.GivePod h pod.workflow pod.node)

unfoldable pub make_step : Kind ScheduleStep
make_step at d = do
  h ← hand (codes "step") at d
  Ok (step.Step h)

unfoldable pub restart : Kind ScheduleStep
restart at d = do
  h ← hand (codes "restart") at d
  Ok (step.Restart h)

unfoldable pub lag : Kind ScheduleStep
lag at d = do
  h ← hand (codes "lag") at d
  back ← span (codes "back") at d
  Ok (step.Lag h back)

unfoldable pub move_to : Kind ScheduleStep
move_to at d = do
  to ← span (codes "tick") at d
  Ok (step.Tick to)

-- these fields are there
abbrev pub has_all : List (List ℕ) → Data → Bool
has_all [] d = true
has_all (name ∷ names) d = has name d && has_all names d

-- none of these is
abbrev pub has_none : List (List ℕ) → Data → Bool
has_none [] d = true
has_none (name ∷ names) d = not (has name d) && has_none names d

abbrev pub is_give : Data → Bool
is_give d =
    has_all (codes "give" ∷ codes "workflow" ∷ []) d
    && has_none (codes "pod" ∷ codes "step" ∷ codes "restart" ∷ codes "lag" ∷ codes "back" ∷ codes "tick" ∷ []) d

abbrev pub is_give_pod : Data → Bool
is_give_pod d =
    has_all (codes "give" ∷ codes "pod" ∷ []) d
    && has_none (codes "workflow" ∷ codes "step" ∷ codes "restart" ∷ codes "lag" ∷ codes "back" ∷ codes "tick" ∷ []) d

abbrev pub is_lag : Data → Bool
is_lag d =
    has_all (codes "lag" ∷ codes "back" ∷ []) d
    && has_none (codes "give" ∷ codes "workflow" ∷ codes "pod" ∷ codes "step" ∷ codes "restart" ∷ codes "tick" ∷ []) d

abbrev pub has_no_more : Data → Bool
has_no_more d = has_none (codes "give" ∷ codes "workflow" ∷ codes "pod" ∷ codes "lag" ∷ codes "back" ∷ []) d

-- `step`, `restart` or `tick` stands alone
abbrev pub is_step : Data → Bool
is_step d = has (codes "step") d && has_none (codes "restart" ∷ codes "tick" ∷ []) d && has_no_more d

abbrev pub is_restart : Data → Bool
is_restart d = has (codes "restart") d && has_none (codes "step" ∷ codes "tick" ∷ []) d && has_no_more d

abbrev pub is_tick : Data → Bool
is_tick d = has (codes "tick") d && has_none (codes "step" ∷ codes "restart" ∷ []) d && has_no_more d

-- a step by the fields of which exactly those of one form are there
abbrev pub step_by : Kind ScheduleStep
step_by at d =
    if is_give d then give at d
    else (if is_give_pod d then give_pod at d
    else (if is_step d then make_step at d
    else (if is_restart d then restart at d
    else (if is_lag d then lag at d
    else (if is_tick d then move_to at d else refuse_by rules.bad_schedule at)))))

abbrev pub if_read : {A : Type 0} → Read A → Option A
if_read (Ok x) = Some x
if_read (Err refusal) = None

-- what is none of the forms is kept as none
abbrev pub step_said : Kind (Option ScheduleStep)
step_said at d = Ok (if_read (step_by at d))

-- ---- schedules

abbrev pub workers : Kind ℕ
workers = default 1 (number_in 1 most_workers) (codes "workers")

unfoldable pub schedule_fields : Kind Schedule
schedule_fields at d = do
  hands ← workers at d
  steps ← default_list most_schedule_steps step_said (codes "steps") at d
  Ok (record { workers = hands; steps = steps })
