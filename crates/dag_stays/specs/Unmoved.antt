-- Tasks that do not stand behind one of them.
use Rattle.std.specs.Prelude.{◌≡◌, ◌≢◌, ℕ, List, [], Bool, true, false, Option, Some, None, get_or, slice_get}
use Rattle.std.specs.List.{list_all}

abbrev pub mark_or : Option Bool → Bool
mark_or None = false
mark_or (Some b) = b

abbrev pub is_marked : List Bool → ℕ → Bool
is_marked marks p = mark_or (slice_get marks p)

-- a marked task is not this one, and waits for marked tasks alone
pub record AreApart (rows : List (List ℕ)) (j : ℕ) (marks : List Bool) : Type 0 where
  pub other : (p : ℕ) → is_marked marks p ≡ true → p ≢ j
  pub above : (p : ℕ) → is_marked marks p ≡ true → list_all (is_marked marks) (get_or rows p []) ≡ true
