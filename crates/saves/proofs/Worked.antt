-- A worked cache: the last save of a key counts, unless it is too old.
use Rattle.std.specs.Prelude.{◌≡◌, ℕ, List, [], ◌∷◌, true, false, Option, Some, None, codes, refl}
use Rattle.tree_types.specs.declared.outcome.Outputs.{Outputs}
use Rattle.tree_types.specs.declared.entry.HolderKey.{HolderKey}
use Rattle.saves.specs.declared.Saved.{Saved}
use Rattle.saves.specs.Saves.{look, has_saved}

abbrev says : List ℕ → Outputs
says t = record { result = Some t; params = [] }

abbrev key : List ℕ → HolderKey
key w = record { workflow = w; path = record { sels = [] } }

abbrev saved : List ℕ → List ℕ → List ℕ → ℕ → Saved
saved cache w text tick = record { cache = cache; key = codes "k"; writer = key w; outputs = says text; tick = tick }

abbrev saves : List Saved
saves = saved (codes "c") (codes "a") (codes "old") 3 ∷ saved (codes "d") (codes "b") (codes "other") 4 ∷ saved (codes "c") (codes "e") (codes "new") 5 ∷ []

-- of this key at a moment
abbrev found : List ℕ → ℕ → Option ℕ → Option Outputs
found cache now age = look saves cache (codes "k") now age

the_last : found (codes "c") 9 None ≡ Some (says (codes "new"))
the_last = refl

of_its_cache : found (codes "d") 9 None ≡ Some (says (codes "other"))
of_its_cache = refl

of_no_cache : found (codes "e") 9 None ≡ None
of_no_cache = refl

of_another_key : look saves (codes "c") (codes "l") 9 None ≡ None
of_another_key = refl

just_in_time : found (codes "c") 15 (Some 10) ≡ Some (says (codes "new"))
just_in_time = refl

too_old : found (codes "c") 16 (Some 10) ≡ None
too_old = refl

has_one : has_saved (key (codes "b")) saves ≡ true
has_one = refl

has_none : has_saved (key (codes "c")) saves ≡ false
has_none = refl
