-- Where the last look at a name stands.
use Rattle.std.specs.Prelude.{◌≡◌, ℕ, ◌==◌, cond, List, [], ◌∷◌, length, Option, Some, None}
use Rattle.std.specs.Cmp.Lexicographic.{pointwise}
use Rattle.std.specs.declared.hash.FoldHasher.{FoldHasher}
use Rattle.std.specs.declared.hash.BuildHasherDefault.{BuildHasherDefault}
use Rattle.std.specs.HashMap.{get, HashMap}
use Rattle.looks.specs.declared.Look.{Look}
use Rattle.looks.specs.Named.{is_named}

abbrev pub Places : Type 0
Places = HashMap (List ℕ) ℕ (BuildHasherDefault FoldHasher)

module _ {T : Type 0} where
  -- the place of the last look at a name, where the last look stands first and the first look has place 0
  abbrev pub place_in : List (Look T) → List ℕ → Option ℕ
  place_in [] name = None
  place_in (l ∷ ls) name = cond (is_named name l) (Some (length ls)) (place_in ls name)

  -- each name has the place of its last look
  abbrev pub IsPlaced : Places → List (Look T) → Type 0
  IsPlaced places ls = (name : List ℕ) → get (pointwise ◌==◌) places name ≡ place_in ls name
