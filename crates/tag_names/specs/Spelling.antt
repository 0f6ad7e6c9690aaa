-- How a tag is spelled.
use Rattle.std.specs.Prelude.{◌≡◌, ℕ, List, [], ◌++◌, codes, true, not, ◌==◌, Bool}
use Rattle.std.specs.List.{list_any}
use Rattle.tag_names.specs.Tags.{Field, result, status, parameter, TagName, workflow_name, workflow_status, workflow_parameter, input_parameter, step, task, item, item_key, unknown, named}

abbrev pub field_spelled : Field → List ℕ
field_spelled result = codes "outputs.result"
field_spelled status = codes "status"
field_spelled (parameter name) = codes "outputs.parameters." ++ name

-- the text of a tag; of an unknown one there is none
abbrev pub spelled : TagName → List ℕ
spelled workflow_name = codes "workflow.name"
spelled workflow_status = codes "workflow.status"
spelled (workflow_parameter name) = codes "workflow.parameters." ++ name
spelled (input_parameter name) = codes "inputs.parameters." ++ name
spelled (step name field) = codes "steps." ++ name ++ codes "." ++ field_spelled field
spelled (task name field) = codes "tasks." ++ name ++ codes "." ++ field_spelled field
spelled item = codes "item"
spelled (item_key key) = codes "item." ++ key
spelled unknown = []

-- a known tag spells back to its text
abbrev pub SpellsBack : List ℕ → TagName → Type 0
SpellsBack text unknown = Unit {0}
SpellsBack text tag = spelled tag ≡ text

abbrev pub has_no_dot : List ℕ → Bool
has_no_dot name = not (list_any (λ b. b == 46) name)

-- a tag that can be told from its text
abbrev pub IsTold : TagName → Type 0
IsTold (step name field) = has_no_dot name ≡ true
IsTold (task name field) = has_no_dot name ≡ true
IsTold unknown = ⊥
IsTold tag = Unit {0}

-- what is spelled is named
abbrev pub SpelledIsNamed : Type 0
SpelledIsNamed = (tag : TagName) → IsTold tag → named (spelled tag) ≡ tag
