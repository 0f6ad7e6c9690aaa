-- The values of arguments by their names.
use Rattle.std.specs.Prelude.{◌≡◌, ℕ, List, ◌==◌}
use Rattle.std.specs.Cmp.Lexicographic.{pointwise}
use Rattle.std.specs.declared.hash.FoldHasher.{FoldHasher}
use Rattle.std.specs.declared.hash.BuildHasherDefault.{BuildHasherDefault}
use Rattle.std.specs.HashMap.{get, HashMap}
use Rattle.scopes.specs.Substitution.{Scope, value_in}

abbrev pub Given : Type 0
Given = HashMap (List ℕ) (List ℕ) (BuildHasherDefault FoldHasher)

-- each name has the value that the scope gives it
abbrev pub IsGiven : Given → Scope → Type 0
IsGiven given scope = (name : List ℕ) → get (pointwise ◌==◌) given name ≡ value_in scope name
