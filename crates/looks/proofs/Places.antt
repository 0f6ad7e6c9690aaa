-- What stands at the place of a name is the last look at it.
use Rattle.std.proofs.Common.{◌≡◌, refl, sym, subst, ap, ◌∙◌, ℕ, ◌+◌, ◌<◌, Bool, true, false, cond, List, [], ◌∷◌, ◌++◌, length, reverse, Bor, arith}
use Rattle.std.specs.Prelude.{Option, Some, None, find, slice_get, option_and_then, get_or, ◌==◌}
use Rattle.std.specs.Option.{option_copied}
use Rattle.std.specs.Slice.{IsItemAt}
use Rattle.std.specs.Cmp.Lexicographic.{pointwise}
use Rattle.std.specs.HashMap.{get}
use Rattle.std.proofs.lemmas.Option.{slice_get_within, slice_get-get_or, get_or_from_slice_get, slice_get_read, slice_get_past}
use Rattle.std.proofs.lemmas.List.{length-append, length-reverse, reverse-reverse, get_or_append_left}
use Rattle.std.proofs.lemmas.Grind.{reverse_onto}
use Rattle.std.proofs.Math.Seq.{get_or-append_seam}
use Rattle.looks.specs.declared.Look.{Look}
use Rattle.looks.specs.Named.{is_named}
use Rattle.looks.specs.Inside.{Places, place_in, IsPlaced}

-- what stands in the front stands there in the whole
front : {X : Type 0} (xs ys : List X) (i : ℕ) (x : X) → slice_get xs i ≡ Some x → slice_get (xs ++ ys) i ≡ Some x
front xs ys i x e =
    let within : i < length xs = slice_get_within xs i x e in
    let here : i < length (xs ++ ys) = subst (λ (n : ℕ). i < n) (sym (length-append xs ys)) (omega arith) in
    slice_get-get_or (xs ++ ys) i x here ∙ ap Some (get_or_append_left xs ys x i within ∙ get_or_from_slice_get xs i x x e)

-- the item behind others stands at their number
behind : {X : Type 0} (xs : List X) (y : X) → slice_get (xs ++ y ∷ []) (length xs) ≡ Some y
behind xs y =
    let here : length xs < length (xs ++ y ∷ []) = subst (λ (n : ℕ). length xs < n) (sym (length-append xs (y ∷ []))) (omega arith) in
    slice_get-get_or (xs ++ y ∷ []) (length xs) y here ∙ ap Some (get_or-append_seam xs y [] y)

module _ {T : Type 0} where
  -- a name has no look, or its last look stands at its place
  data Placed (ls : List (Look T)) (name : List ℕ) : Type 0 where
    none : place_in ls name ≡ None → find (is_named name) ls ≡ None → Placed ls name
    at :
        (i : ℕ) (l : Look T) → place_in ls name ≡ Some i → find (is_named name) ls ≡ Some l →
        slice_get (reverse ls) i ≡ Some l → Placed ls name

  looked :
      (l : Look T) (ls : List (Look T)) (name : List ℕ) (b : Bool) → is_named name l ≡ b → Placed ls name →
      Placed (l ∷ ls) name
  looked l ls name true e rest =
      at
      (length ls)
      l
      (ap (λ b. cond b (Some (length ls)) (place_in ls name)) e)
      (ap (λ b. cond b (Some l) (find (is_named name) ls)) e)
      (ap (λ xs. slice_get xs (length ls)) (reverse_onto ls l []) ∙ ap (slice_get (reverse ls ++ l ∷ [])) (sym (length-reverse ls)) ∙ behind (reverse ls) l)
  looked l ls name false e (none place found) =
      none
      (ap (λ b. cond b (Some (length ls)) (place_in ls name)) e ∙ place)
      (ap (λ b. cond b (Some l) (find (is_named name) ls)) e ∙ found)
  looked l ls name false e (at i m place found stands) =
      at
      i
      m
      (ap (λ b. cond b (Some (length ls)) (place_in ls name)) e ∙ place)
      (ap (λ b. cond b (Some l) (find (is_named name) ls)) e ∙ found)
      (ap (λ xs. slice_get xs i) (reverse_onto ls l []) ∙ front (reverse ls) (l ∷ []) i m stands)

  placed : (ls : List (Look T)) (name : List ℕ) → Placed ls name
  placed [] name = none refl refl
  placed (l ∷ ls) name = looked l ls name (is_named name l) refl (placed ls name)

  stands_at :
      (ls : List (Look T)) (name : List ℕ) → Placed ls name →
      option_and_then (slice_get (reverse ls)) (place_in ls name) ≡ find (is_named name) ls
  stands_at ls name (none place found) = ap (option_and_then (slice_get (reverse ls))) place ∙ sym found
  stands_at ls name (at i l place found stands) =
      ap (option_and_then (slice_get (reverse ls))) place ∙ stands ∙ sym found

  -- the looks themselves have the last one last
  pub last_found :
      (places : Places) (looks : List (Look T)) (name : List ℕ) → IsPlaced places (reverse looks) →
      option_and_then (slice_get looks) (get (pointwise ◌==◌) places name) ≡ find (is_named name) (reverse looks)
  last_found places looks name placed_all =
      ap (option_and_then (slice_get looks)) (placed_all name)
      ∙ ap (λ xs. option_and_then (slice_get xs) (place_in (reverse looks) name)) (sym (reverse-reverse looks))
      ∙ stands_at (reverse looks) name (placed (reverse looks) name)

  -- a name without a place has no look
  pub none_found :
      (places : Places) (looks now : List (Look T)) (name : List ℕ) → IsPlaced places (reverse looks) →
      reverse looks ≡ now → None ≡ get (pointwise ◌==◌) places name → None ≡ find (is_named name) now
  none_found places looks now name placed_all shown absent =
      ap (option_and_then (slice_get looks)) absent ∙ last_found places looks name placed_all ∙ ap (find (is_named name)) shown

  pub one_found :
      (places : Places) (looks now : List (Look T)) (name : List ℕ) (i : ℕ) → IsPlaced places (reverse looks) →
      reverse looks ≡ now → Some i ≡ get (pointwise ◌==◌) places name →
      slice_get looks i ≡ find (is_named name) now
  one_found places looks now name i placed_all shown present =
      ap (option_and_then (slice_get looks)) present ∙ last_found places looks name placed_all ∙ ap (find (is_named name)) shown

-- what a slice lends at a place is what stands there
pub lent : {X : Type 0} (xs : List X) (i : ℕ) (r : Option (Bor X)) → IsItemAt xs i r → option_copied r ≡ slice_get xs i
lent xs i None (_, _, _, past, _) = sym (slice_get_past xs i past)
lent xs i (Some x) (_, here, _, within, _) = sym (slice_get_read xs (length xs) i x.now refl within.0 here)
