-- A measure that a connective raises by one at most is bounded by the nesting of the text.
use Rattle.std.specs.Prelude.{ℕ, suc, ◌≤◌, ◌+◌, ◌*◌, max}
use Rattle.std.proofs.Common.{arith}
use Rattle.base_types.specs.Limits.{most_levels}
use Rattle.connectives.specs.Grammar.{Text, Language, Or, one_and, more_or, And, one_not, more_and, Not, not_sign, group, operand, Says}

-- how many operands wait at most while what a text says is evaluated in postfix order
pub record Peaks {E : Type 0} (L : Language E) (peak : E → ℕ) : Type 0 where
  pub of_operand : (t r : Text) (e : E) → L.IsOperand t e r → peak e ≤ 1
  pub of_not : (e : E) → peak (L.joins.negated e) ≤ peak e
  pub of_and : (d e : E) → peak (L.joins.all_of d e) ≤ max (peak d) (suc (peak e))
  pub of_or : (d e : E) → peak (L.joins.any_of d e) ≤ max (peak d) (suc (peak e))

module _ {E : Type 0} (L : Language E) (peak : E → ℕ) (P : Peaks L peak) where
  mutual
    or_peak : {n : ℕ} {t r : Text} {e : E} → Or L n t e r → peak e ≤ 2 * n + 3
    or_peak (one_and h) = let p = and_peak h in omega (arith, p)
    or_peak (more_or {d = d} {e = e} g s h) = let p = or_peak g in let q = and_peak h in let o = P.of_or d e in omega (arith, p, q, o)

    and_peak : {n : ℕ} {t r : Text} {e : E} → And L n t e r → peak e ≤ 2 * n + 2
    and_peak (one_not h) = let p = not_peak h in omega (arith, p)
    and_peak (more_and {d = d} {e = e} g s h) = let p = and_peak g in let q = not_peak h in let o = P.of_and d e in omega (arith, p, q, o)

    not_peak : {n : ℕ} {t r : Text} {e : E} → Not L n t e r → peak e ≤ 2 * n + 1
    not_peak (not_sign {e = e} s h) = let p = not_peak h in let o = P.of_not e in omega (arith, p, o)
    not_peak (group s h q) = let p = or_peak h in omega (arith, p)
    not_peak (operand {t = t} {r = r} {e = e} h) = let p = P.of_operand t r e h in omega (arith, p)

  pub low : (text : Text) (e : E) → Says L text e → peak e ≤ 2 * most_levels + 3
  low text e (t, s, h) = or_peak h
