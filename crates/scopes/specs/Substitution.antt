-- Scopes, and what a text with tags says in a scope (Argo, "Workflow variables").
-- That a tag without a value makes its node Error, and that there is one pass of substitution, is this project's own.
use Rattle.std.specs.Prelude.{ℕ, List, [], ◌∷◌, ◌++◌, Bool, false, ◌||◌, Option, Some, None, Result, Ok, Err, if◌then◌else◌, bytes_eq, codes, nat_eq, map}
use Rattle.std.specs.List.{starts_with, list_any}
pub use Rattle.base_types.specs.Results.{◌>>=◌}
use Rattle.tree_types.specs.declared.node.Note.{Note}
use Rattle.tree_types.specs.declared.node.Note.TheVariants.{Unresolved}
use Rattle.tree_types.specs.declared.outcome.Param.{Param}
use Rattle.tag_text.specs.declared.part.Part.{Part}
use Rattle.tag_text.specs.declared.part.Part.TheVariants.{Plain, Tag}

-- a value, or the note of the fault that stands in its place
abbrev pub Found : Type 0 → Type 0
Found A = Result A Note

-- tags and their values: of two entries of one tag the first counts
abbrev pub Scope : Type 0
Scope = List (List ℕ × List ℕ)

abbrev pub value_in : Scope → List ℕ → Option (List ℕ)
value_in [] tag = None
value_in (e ∷ scope) tag = if bytes_eq e.0 tag then Some e.1 else value_in scope tag

abbrev pub found_value : List ℕ → Option (List ℕ) → Found (List ℕ)
found_value tag (Some v) = Ok v
found_value tag None = Err (Unresolved tag)

-- the value of a tag
abbrev pub tag_value : Scope → List ℕ → Found (List ℕ)
tag_value scope tag = found_value tag (value_in scope tag)

-- what a part says
abbrev pub part_said : Scope → Part → Found (List ℕ)
part_said scope (Plain t) = Ok t
part_said scope (Tag n) = tag_value scope n

-- each tag is replaced once by its value, from left to right; what is put in is not looked at again
abbrev pub said : Scope → List Part → Found (List ℕ)
said scope [] = Ok []
said scope (p ∷ ps) = part_said scope p >>= λ front. said scope ps >>= λ rest. Ok (front ++ rest)

-- the same of a text that may be absent
abbrev pub said_option : Scope → Option (List Part) → Found (Option (List ℕ))
said_option scope None = Ok None
said_option scope (Some t) = said scope t >>= λ v. Ok (Some v)

-- the entries of parameters under a prefix of their names
abbrev pub parameter_tags : List ℕ → List Param → Scope
parameter_tags prefix ps = map (λ p. (prefix ++ p.name, p.value)) ps

-- the tags of a workflow (Argo, "Workflow variables", Global)
abbrev pub workflow_tags : List ℕ → List Param → Scope
workflow_tags name params = (codes "workflow.name", name) ∷ parameter_tags (codes "workflow.parameters.") params

-- the tags of a template's inputs (Argo, "Workflow variables", All templates)
abbrev pub input_tags : List Param → Scope
input_tags inputs = parameter_tags (codes "inputs.parameters.") inputs

-- whether a tag is `item` or one of its members (Argo, "Loops")
abbrev pub is_item_tag : Part → Bool
is_item_tag (Plain t) = false
is_item_tag (Tag n) = bytes_eq n (codes "item") || starts_with nat_eq n (codes "item.")

abbrev pub has_item_tag : List Part → Bool
has_item_tag ps = list_any is_item_tag ps
