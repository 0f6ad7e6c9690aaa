-- Digits that are too many, and bytes that are none.
use Rattle.std.specs.Prelude.{◌≡◌, ℕ, zero, suc, ◌<◌, ◌+◌, ◌-◌, ◌*◌, List, [], ◌∷◌, length, drop, true, false, nat_le, slice_index_or, refl, Some, None}
use Rattle.std.proofs.Common.{ap, sym, ◌∙◌, arith, add-one}
use Rattle.std.specs.Char.{is_ascii_digit}
use Rattle.std.proofs.lemmas.Bool.{cond-true, cond-false, cond_both, lt-leb}
use Rattle.when_expr.specs.Truth.{digits_from, up_to_limit}

too_large : (v : ℕ) (ds : List ℕ) → 9223372036854775808 < v → None ≡ up_to_limit (digits_from v ds)
too_large v [] h = sym (cond-false (nat_le v 9223372036854775808) (Some v) None (lt-leb v 9223372036854775808 h))
too_large v (d ∷ ds) h = cond_both (is_ascii_digit d) (digits_from (10 * v + (d - 48)) ds) None (λ x. None ≡ up_to_limit x) (λ _. too_large (10 * v + (d - 48)) ds (omega arith)) (λ _. refl)

too_large_next : (v d : ℕ) (ds : List ℕ) → 922337203685477580 < v → None ≡ up_to_limit (digits_from v (d ∷ ds))
too_large_next v d ds h = cond_both (is_ascii_digit d) (digits_from (10 * v + (d - 48)) ds) None (λ x. None ≡ up_to_limit x) (λ _. too_large (10 * v + (d - 48)) ds (omega arith)) (λ _. refl)

-- the byte at a position, and what stands behind it
split : (all : List ℕ) (i b : ℕ) → i < length all → slice_index_or all i 0 ≡ b → drop i all ≡ b ∷ drop (i + 1) all
split [] i b h p = absurd (omega arith)
split (x ∷ xs) zero b h p = ap (λ y. y ∷ xs) p
split (x ∷ xs) (suc i) b h p = split xs i b (omega arith) p ∙ ap (λ n. b ∷ drop n (x ∷ xs)) (ap suc (add-one i) ∙ sym (add-one (suc i)))

pub grown_too_large : (all : List ℕ) (i v b : ℕ) → i < length all → slice_index_or all i 0 ≡ b → 922337203685477580 < v → digits_from v (drop i all) ≡ digits_from 0 all → None ≡ up_to_limit (digits_from 0 all)
grown_too_large all i v b h p l q = too_large_next v b (drop (i + 1) all) l ∙ ap up_to_limit (ap (λ ds. digits_from v ds) (sym (split all i b h p)) ∙ q)

pub no_digit : (all : List ℕ) (i v b : ℕ) → i < length all → slice_index_or all i 0 ≡ b → is_ascii_digit b ≡ false → digits_from v (drop i all) ≡ digits_from 0 all → None ≡ up_to_limit (digits_from 0 all)
no_digit all i v b h p f q = ap up_to_limit (sym (cond-false (is_ascii_digit b) (digits_from (10 * v + (b - 48)) (drop (i + 1) all)) None f) ∙ ap (λ ds. digits_from v ds) (sym (split all i b h p)) ∙ q)

pub one_digit : (all : List ℕ) (i v w b : ℕ) → i < length all → slice_index_or all i 0 ≡ b → is_ascii_digit b ≡ true → w ≡ 10 * v + (b - 48) → digits_from v (drop i all) ≡ digits_from 0 all → digits_from w (drop (i + 1) all) ≡ digits_from 0 all
one_digit all i v w b h p t e q = ap (λ n. digits_from n (drop (i + 1) all)) e ∙ sym (cond-true (is_ascii_digit b) (digits_from (10 * v + (b - 48)) (drop (i + 1) all)) None t) ∙ ap (λ ds. digits_from v ds) (sym (split all i b h p)) ∙ q
