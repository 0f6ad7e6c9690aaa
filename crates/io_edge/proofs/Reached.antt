-- How many of the numbers of a plan are reached: more at each number that is among them, and never more than there are.
use Rattle.std.proofs.Common.{◌≡◌, ℕ, ◌+◌, ◌≤◌, Bool, true, false, cond, List, [], ◌∷◌, length, refl, arith}
use Rattle.std.specs.Prelude.{nat_le, ◌==◌, ◌||◌}
use Rattle.std.specs.List.{list_any}
use Rattle.std.proofs.lemmas.Bool.Decides.{nat_tests}
use Rattle.io_edge.specs.Inside.Reached.{reached}

abbrev one : ℕ → ℕ → ℕ
one n calls = cond (nat_le n calls) 1 0

one_most : (n calls : ℕ) → one n calls ≤ 1
one_most n calls = elim (nat_le n calls) as (λ b. cond b 1 0 ≤ 1) [ true ↦ omega arith | false ↦ omega arith ]

one_more : (n calls : ℕ) → one n calls ≤ one n (calls + 1)
one_more n calls = grind (arith, nat_tests)

one_next : (n calls : ℕ) → (n == calls + 1) ≡ true → one n calls + 1 ≤ one n (calls + 1)
one_next n calls h = grind (arith, nat_tests)

pub reached_most : (failing : List ℕ) (calls : ℕ) → reached failing calls ≤ length failing
reached_most [] calls = omega arith
reached_most (n ∷ ns) calls = omega (arith, reached_most ns calls, one_most n calls)

pub reached_more : (failing : List ℕ) (calls : ℕ) → reached failing calls ≤ reached failing (calls + 1)
reached_more [] calls = omega arith
reached_more (n ∷ ns) calls = omega (arith, reached_more ns calls, one_more n calls)

next_by : (n : ℕ) (ns : List ℕ) (calls : ℕ) (b : Bool) → (n == calls + 1) ≡ b → (list_any (λ number. number == calls + 1) ns ≡ true → reached ns calls + 1 ≤ reached ns (calls + 1)) → (b || list_any (λ number. number == calls + 1) ns) ≡ true → reached (n ∷ ns) calls + 1 ≤ reached (n ∷ ns) (calls + 1)
next_by n ns calls true e rest any = omega (arith, reached_more ns calls, one_next n calls e)
next_by n ns calls false e rest any = omega (arith, rest any, one_more n calls)

pub reached_next : (failing : List ℕ) (calls : ℕ) → list_any (λ number. number == calls + 1) failing ≡ true → reached failing calls + 1 ≤ reached failing (calls + 1)
reached_next [] calls h = absurd (cc)
reached_next (n ∷ ns) calls h = next_by n ns calls (n == calls + 1) refl (λ any. reached_next ns calls any) h
