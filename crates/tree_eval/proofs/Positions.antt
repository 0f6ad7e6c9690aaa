-- Where the first pod stands that passes a test, of two lists one behind the other.
use Rattle.std.proofs.Common.{◌≡◌, ℕ, suc, ◌+◌, ◌-◌, ◌<◌, ◌≤◌, nat_le, Bool, true, false, cond, ◌&&◌, List, [], ◌∷◌, ◌++◌, length, Option, Some, None, option_map, refl, sym, ap, ◌∙◌, arith}
use Rattle.std.specs.Option.{option_or}
use Rattle.std.proofs.lemmas.Bool.{leb-true, leb-false}
use Rattle.tree_types.specs.declared.want.Want.{Want}
use Rattle.tree_state.specs.Finding.{found_at, found_from}

abbrev pub Found : Type 0
Found = Option (ℕ × Want)

-- so many places further behind
abbrev pub moved : ℕ → Found → Found
moved s o = option_map (λ (f : ℕ × Want). (s + f.0, f.1)) o

module _ (t : Want → Bool) where
  same_test : (s from at : ℕ) (a b : Bool) → nat_le from (s + at) ≡ a → nat_le (from - s) at ≡ b → a ≡ b
  same_test s from at true true ea eb = refl
  same_test s from at false false ea eb = refl
  same_test s from at true false ea eb =
      let le : from ≤ s + at = leb-true from (s + at) ea in
      let lt : at < from - s = leb-false (from - s) at eb in
      absurd (omega (arith, le, lt))
  same_test s from at false true ea eb =
      let lt : s + at < from = leb-false from (s + at) ea in
      let le : from - s ≤ at = leb-true (from - s) at eb in
      absurd (omega (arith, lt, le))

  moved_by : (s from at : ℕ) (x : Want) (ws : List Want) (b : Bool) → found_at from (suc (s + at)) t ws ≡ moved s (found_at (from - s) (suc at) t ws) → cond b (Some (s + at, x)) (found_at from (suc (s + at)) t ws) ≡ moved s (cond b (Some (at, x)) (found_at (from - s) (suc at) t ws))
  moved_by s from at x ws true rest = refl
  moved_by s from at x ws false rest = rest

  -- behind so many others it stands so many places further behind
  found_moved : (s from at : ℕ) (ws : List Want) → found_at from (s + at) t ws ≡ moved s (found_at (from - s) at t ws)
  found_moved s from at [] = refl
  found_moved s from at (x ∷ ws) =
      let next : suc (s + at) ≡ s + suc at = omega arith in
      ap (λ (b : Bool). cond (b && t x) (Some (s + at, x)) (found_at from (suc (s + at)) t ws)) (same_test s from at (nat_le from (s + at)) (nat_le (from - s) at) refl refl)
      ∙ moved_by s from at x ws (nat_le (from - s) at && t x) (ap (λ (n : ℕ). found_at from n t ws) next ∙ found_moved s from (suc at) ws)

  append_by : (from at behind : ℕ) (x : Want) (xs ys : List Want) (b : Bool) → found_at from (suc at) t (xs ++ ys) ≡ option_or (found_at from (suc at) t xs) (found_at from behind t ys) → cond b (Some (at, x)) (found_at from (suc at) t (xs ++ ys)) ≡ option_or (cond b (Some (at, x)) (found_at from (suc at) t xs)) (found_at from behind t ys)
  append_by from at behind x xs ys true rest = refl
  append_by from at behind x xs ys false rest = rest

  found_append : (from at : ℕ) (xs ys : List Want) → found_at from at t (xs ++ ys) ≡ option_or (found_at from at t xs) (found_at from (at + length xs) t ys)
  found_append from at [] ys = let e : at ≡ at + 0 = omega arith in ap (λ (n : ℕ). found_at from n t ys) e
  found_append from at (x ∷ xs) ys =
      let e : suc at + length xs ≡ at + suc (length xs) = omega arith in
      append_by from at (at + suc (length xs)) x xs ys (nat_le from at && t x)
      (found_append from (suc at) xs ys ∙ ap (λ (n : ℕ). option_or (found_at from (suc at) t xs) (found_at from n t ys)) e)

  pub found_in_both : (n : ℕ) (xs ys : List Want) → found_from n t (xs ++ ys) ≡ option_or (found_from n t xs) (moved (length xs) (found_from (n - length xs) t ys))
  found_in_both n xs ys =
      let e : 0 + length xs ≡ length xs + 0 = omega arith in
      found_append n 0 xs ys
      ∙ ap (λ (o : Found). option_or (found_from n t xs) o) (ap (λ (k : ℕ). found_at n k t ys) e ∙ found_moved (length xs) n 0 ys)
