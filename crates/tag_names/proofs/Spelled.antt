-- What a tag names is spelled as the tag, and named again.
use Rattle.std.proofs.Common.{◌≡◌, ℕ, true, cond, List, [], ◌∷◌, ◌++◌, length, drop, Option, Some, None, option_map, refl, sym, ap, ◌∙◌, subst, inl, inr, append_assoc, map, nat_eq}
use Rattle.std.specs.Prelude.{bytes_eq, codes}
use Rattle.std.specs.List.{starts_with}
use Rattle.std.proofs.lemmas.Bool.{cond_both}
use Rattle.std.proofs.lemmas.Slice.Eq.{bytes_eq-Decides}
use Rattle.tree_types.specs.declared.outcome.Param.{Param}
use Rattle.scopes.specs.Substitution.{workflow_tags, input_tags, parameter_tags}
use Rattle.tag_names.specs.Tags.{Field, result, status, parameter, TagName, workflow_name, workflow_status, workflow_parameter, input_parameter, step, task, item, item_key, unknown, behind, at_dot, field_named, asked_of, asked, or_else, named_task, named_call, named_key, named_input, named_behind, named}
use Rattle.tag_names.specs.Spelling.{field_spelled, SpellsBack, has_no_dot, SpelledIsNamed}
use Rattle.tag_names.proofs.Fronts.{starts_so, halves, dot_behind}

-- what is named by a front, or else
by_front : (front text : List ℕ) (other : TagName) (of : List ℕ → TagName) (P : TagName → Type 0) → ((rest : List ℕ) → text ≡ front ++ rest → P (of rest)) → P other → P (or_else other of (behind front text))
by_front front text other of P found else_ =
    cond_both (starts_with nat_eq text front) (Some (drop (length front) text)) None (λ o. P (or_else other of o)) (λ so. found (drop (length front) text) (starts_so text front so)) (λ _. else_)

-- what the whole text names, or else
by_whole : (whole text : List ℕ) (here other : TagName) (P : TagName → Type 0) → (text ≡ whole → P here) → P other → P (cond (bytes_eq text whole) here other)
by_whole whole text here other P found else_ =
    cond_both (bytes_eq text whole) here other P (λ so. found ((bytes_eq-Decides text whole).0 so)) (λ _. else_)

-- ---- a field

abbrev FieldSpells : List ℕ → Option Field → Type 0
FieldSpells text None = Unit {0}
FieldSpells text (Some field) = field_spelled field ≡ text

field_spells : (text : List ℕ) → FieldSpells text (field_named text)
field_spells text =
    cond_both (bytes_eq text (codes "outputs.result")) (Some result) (cond (bytes_eq text (codes "status")) (Some status) (option_map parameter (behind (codes "outputs.parameters.") text))) (FieldSpells text)
    (λ so. sym ((bytes_eq-Decides text (codes "outputs.result")).0 so))
    (λ _. cond_both (bytes_eq text (codes "status")) (Some status) (option_map parameter (behind (codes "outputs.parameters.") text)) (FieldSpells text)
    (λ so. sym ((bytes_eq-Decides text (codes "status")).0 so))
    (λ _. cond_both (starts_with nat_eq text (codes "outputs.parameters.")) (Some (drop (length (codes "outputs.parameters.")) text)) None (λ o. FieldSpells text (option_map parameter o))
    (λ so. sym (starts_so text (codes "outputs.parameters.") so))
    (λ _. tt)))

-- ---- what is asked of a step or task

-- the text of what is asked, in parts
in_parts : (front name askd field rest text : List ℕ) → text ≡ front ++ rest → rest ≡ name ++ (46 ∷ askd) → field ≡ askd → front ++ name ++ codes "." ++ field ≡ text
in_parts front name askd field rest text is split same =
    append_assoc (front ++ name) (codes ".") field
    ∙ append_assoc front name (46 ∷ field)
    ∙ ap (λ t. front ++ (name ++ (46 ∷ t))) same
    ∙ ap (λ t. front ++ t) (sym split)
    ∙ sym is

step_field : (text rest name askd : List ℕ) (field : Option Field) → text ≡ codes "steps." ++ rest → rest ≡ name ++ (46 ∷ askd) → FieldSpells askd field → SpellsBack text (asked_of (step name) field)
step_field text rest name askd None is split spells = tt
step_field text rest name askd (Some field) is split spells = in_parts (codes "steps.") name askd (field_spelled field) rest text is split spells

task_field : (text rest name askd : List ℕ) (field : Option Field) → text ≡ codes "tasks." ++ rest → rest ≡ name ++ (46 ∷ askd) → FieldSpells askd field → SpellsBack text (asked_of (task name) field)
task_field text rest name askd None is split spells = tt
task_field text rest name askd (Some field) is split spells = in_parts (codes "tasks.") name askd (field_spelled field) rest text is split spells

step_spells : (text rest : List ℕ) → text ≡ codes "steps." ++ rest → SpellsBack text (asked step (at_dot rest))
step_spells text rest is =
    elim (halves rest) [
      | inl none ↦ subst (λ o. SpellsBack text (asked step o)) (sym none) tt
      | inr (name, askd, some, split) ↦ subst (λ o. SpellsBack text (asked step o)) (sym some) (step_field text rest name askd (field_named askd) is split (field_spells askd))
    ]

task_spells : (text rest : List ℕ) → text ≡ codes "tasks." ++ rest → SpellsBack text (asked task (at_dot rest))
task_spells text rest is =
    elim (halves rest) [
      | inl none ↦ subst (λ o. SpellsBack text (asked task o)) (sym none) tt
      | inr (name, askd, some, split) ↦ subst (λ o. SpellsBack text (asked task o)) (sym some) (task_field text rest name askd (field_named askd) is split (field_spells askd))
    ]

-- ---- a tag

pub spells_back : (text : List ℕ) → SpellsBack text (named text)
spells_back text =
    by_whole (codes "workflow.name") text workflow_name _ P sym
    (by_whole (codes "workflow.status") text workflow_status _ P sym
    (by_whole (codes "item") text item (named_behind text) P sym
    (by_front (codes "workflow.parameters.") text (named_input text) workflow_parameter P (λ rest is. sym is)
    (by_front (codes "inputs.parameters.") text (named_key text) input_parameter P (λ rest is. sym is)
    (by_front (codes "item.") text (named_call text) item_key P (λ rest is. sym is)
    (by_front (codes "steps.") text (named_task text) (λ rest. asked step (at_dot rest)) P (step_spells text)
    (by_front (codes "tasks.") text unknown (λ rest. asked task (at_dot rest)) P (task_spells text) tt)))))))
  where
    P : TagName → Type 0
    P tag = SpellsBack text tag

field_is_named : (field : Field) → field_named (field_spelled field) ≡ Some field
field_is_named result = refl
field_is_named status = refl
field_is_named (parameter name) = refl

step_is_named : (name : List ℕ) (field : Field) → has_no_dot name ≡ true → asked step (at_dot (name ++ codes "." ++ field_spelled field)) ≡ step name field
step_is_named name field told =
    ap (λ t. asked step (at_dot t)) (append_assoc name (codes ".") (field_spelled field))
    ∙ ap (asked step) (dot_behind name (field_spelled field) told)
    ∙ ap (asked_of (step name)) (field_is_named field)

task_is_named : (name : List ℕ) (field : Field) → has_no_dot name ≡ true → asked task (at_dot (name ++ codes "." ++ field_spelled field)) ≡ task name field
task_is_named name field told =
    ap (λ t. asked task (at_dot t)) (append_assoc name (codes ".") (field_spelled field))
    ∙ ap (asked task) (dot_behind name (field_spelled field) told)
    ∙ ap (asked_of (task name)) (field_is_named field)

pub is_named : SpelledIsNamed
is_named workflow_name told = refl
is_named workflow_status told = refl
is_named (workflow_parameter name) told = refl
is_named (input_parameter name) told = refl
is_named (step name field) told = step_is_named name field told
is_named (task name field) told = task_is_named name field told
is_named item told = refl
is_named (item_key key) told = refl
is_named unknown told = absurd told

-- ---- the tags of scopes

workflow_parameters_named : (params : List Param) → map (λ e. named e.0) (parameter_tags (codes "workflow.parameters.") params) ≡ map (λ p. workflow_parameter p.name) params
workflow_parameters_named [] = refl
workflow_parameters_named (p ∷ ps) = ap (λ ts. workflow_parameter p.name ∷ ts) (workflow_parameters_named ps)

pub workflow_named : (name : List ℕ) (params : List Param) → map (λ e. named e.0) (workflow_tags name params) ≡ workflow_name ∷ map (λ p. workflow_parameter p.name) params
workflow_named name params = ap (λ ts. workflow_name ∷ ts) (workflow_parameters_named params)

pub inputs_named : (inputs : List Param) → map (λ e. named e.0) (input_tags inputs) ≡ map (λ i. input_parameter i.name) inputs
inputs_named [] = refl
inputs_named (i ∷ is) = ap (λ ts. input_parameter i.name ∷ ts) (inputs_named is)
