-- The positions of names, as a map keeps them, and the templates of a manifest with the names of their outputs.
use Rattle.std.specs.Prelude.{◌≡◌, ℕ, suc, ◌+◌, List, [], ◌∷◌, Bool, if◌then◌else◌, drop, map, length, bytes_eq, ◌==◌}
use Rattle.std.specs.List.{list_all}
use Rattle.std.specs.Option.{unwrap_or}
use Rattle.std.specs.Cmp.Lexicographic.{pointwise}
use Rattle.std.specs.declared.hash.FoldHasher.{FoldHasher}
use Rattle.std.specs.declared.hash.BuildHasherDefault.{BuildHasherDefault}
use Rattle.std.specs.HashMap.{get, HashMap}
use Rattle.wf_manifest.specs.declared.calls.Argument.{Argument}
use Rattle.wf_manifest.specs.declared.templates.Input.{Input}
use Rattle.wf_manifest.specs.declared.templates.Template.{Template}
use Rattle.wf_manifest.specs.Valid.{template_names, has_value}

-- the position of the first of this name, else how many names there are
abbrev pub first_of : List ℕ → List (List ℕ) → ℕ
first_of name [] = 0
first_of name (n ∷ ns) = if bytes_eq name n then 0 else suc (first_of name ns)

abbrev pub Positions : Type 0
Positions = HashMap (List ℕ) ℕ (BuildHasherDefault FoldHasher)

-- the position that is kept for a name, else the number of the names
abbrev pub position_in : Positions → List (List ℕ) → List ℕ → ℕ
position_in positions names name = unwrap_or (get (pointwise ◌==◌) positions name) (length names)

-- each name has the position of the first that is equal, from position i on
abbrev pub IsTable : Positions → List (List ℕ) → ℕ → Type 0
IsTable positions names i = (name : List ℕ) → position_in positions names name ≡ i + first_of name (drop i names)

-- ---- templates

abbrev pub output_names : Template → List (List ℕ)
output_names t = map (λ o. o.name) t.outputs

abbrev pub input_gives : List Argument → List Input → Bool
input_gives given inputs = list_all (has_value given) inputs

pub record AreTemplates (all : List Template) (names : List (List ℕ)) (outputs : List (List (List ℕ))) : Type 0 where
  pub names_are : names ≡ template_names all
  pub outputs_are : outputs ≡ map output_names all
