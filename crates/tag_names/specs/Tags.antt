-- What the tag of a text names (Argo, "Workflow variables"). That no other tag is known is this project's own.
use Rattle.std.specs.Prelude.{ℕ, List, [], ◌∷◌, length, drop, Option, Some, None, option_map, if◌then◌else◌, ◌==◌, nat_eq, bytes_eq, codes}
use Rattle.std.specs.List.{starts_with}

-- what a tag asks of a step or task
pub data Field : Type 0 where
  result : Field
  status : Field
  parameter : List ℕ → Field

pub data TagName : Type 0 where
  workflow_name : TagName
  workflow_status : TagName
  workflow_parameter : List ℕ → TagName
  input_parameter : List ℕ → TagName
  step : List ℕ → Field → TagName
  task : List ℕ → Field → TagName
  item : TagName
  item_key : List ℕ → TagName
  unknown : TagName

-- what stands behind a text's front
abbrev pub behind : List ℕ → List ℕ → Option (List ℕ)
behind front text = if starts_with nat_eq text front then Some (drop (length front) text) else None

abbrev pub longer : ℕ → List ℕ × List ℕ → List ℕ × List ℕ
longer b halves = (b ∷ halves.0, halves.1)

-- what stands before and behind the first dot
abbrev pub at_dot : List ℕ → Option (List ℕ × List ℕ)
at_dot [] = None
at_dot (b ∷ bs) = if b == 46 then Some ([], bs) else option_map (longer b) (at_dot bs)

-- what is asked of a step or task
abbrev pub field_named : List ℕ → Option Field
field_named asked =
    if bytes_eq asked (codes "outputs.result") then Some result
    else (if bytes_eq asked (codes "status") then Some status
    else option_map parameter (behind (codes "outputs.parameters.") asked))

abbrev pub asked_of : (Field → TagName) → Option Field → TagName
asked_of of None = unknown
asked_of of (Some field) = of field

-- a name stands before the first dot, and what is asked stands behind it
abbrev pub asked : (List ℕ → Field → TagName) → Option (List ℕ × List ℕ) → TagName
asked of None = unknown
asked of (Some halves) = asked_of (of halves.0) (field_named halves.1)

-- what is made of the rest, where there is one, and what else is named
abbrev pub or_else : TagName → (List ℕ → TagName) → Option (List ℕ) → TagName
or_else other of None = other
or_else other of (Some rest) = of rest

abbrev pub named_task : List ℕ → TagName
named_task text = or_else unknown (λ rest. asked task (at_dot rest)) (behind (codes "tasks.") text)

abbrev pub named_call : List ℕ → TagName
named_call text = or_else (named_task text) (λ rest. asked step (at_dot rest)) (behind (codes "steps.") text)

abbrev pub named_key : List ℕ → TagName
named_key text = or_else (named_call text) item_key (behind (codes "item.") text)

abbrev pub named_input : List ℕ → TagName
named_input text = or_else (named_key text) input_parameter (behind (codes "inputs.parameters.") text)

-- by the front of the tag
abbrev pub named_behind : List ℕ → TagName
named_behind text = or_else (named_input text) workflow_parameter (behind (codes "workflow.parameters.") text)

-- what a tag names
abbrev pub named : List ℕ → TagName
named text =
    if bytes_eq text (codes "workflow.name") then workflow_name
    else (if bytes_eq text (codes "workflow.status") then workflow_status
    else (if bytes_eq text (codes "item") then item else named_behind text))
