-- One more of a list is looked at.
use Rattle.std.proofs.Common.{◌≡◌, ℕ, ◌+◌, ◌||◌, Bool, true, false, List, drop, Some, sym, ap, ◌∙◌}
use Rattle.std.specs.Prelude.{slice_get}
use Rattle.std.specs.List.{list_any}
use Rattle.scopes.proofs.ValueIn.{drop_place}

module _ {A : Type 0} (test : A → Bool) (xs : List A) (i : ℕ) (x : A) (total : Bool) (at : slice_get xs i ≡ Some x) where
  -- the answer of what is left is that of the one and of what is left behind it
  split : (b : Bool) → test x ≡ b → list_any test (drop i xs) ≡ (b || list_any test (drop (i + 1) xs))
  split b is = ap (list_any test) (drop_place xs i x at) ∙ ap (λ c. c || list_any test (drop (i + 1) xs)) is

  pub any_here : test x ≡ true → list_any test (drop i xs) ≡ total → true ≡ total
  any_here is so_far = sym (split true is) ∙ so_far

  pub any_later : test x ≡ false → list_any test (drop i xs) ≡ total → list_any test (drop (i + 1) xs) ≡ total
  any_later is so_far = sym (split false is) ∙ so_far
