-- An operand and its `!`, one at a time.
use Rattle.std.specs.Prelude.{◌≡◌, ℕ, suc, ◌<◌, ◌+◌, ◌-◌}
use Rattle.std.proofs.Common.{ap, sym, ◌∙◌, arith}
use Rattle.connectives.specs.Grammar.{Joins}
use Rattle.connectives.specs.Reading.{negate}

pub one_less : {E : Type 0} (j : Joins E) (b n : ℕ) (e f x : E) → n < b → f ≡ j.negated e → negate j (b - n) e ≡ x → negate j (b - (n + 1)) f ≡ x
one_less j b n e f x h p q = let r : b - n ≡ suc (b - (n + 1)) = omega arith in ap (λ y. negate j (b - (n + 1)) y) p ∙ sym (ap (λ k. negate j k e) r) ∙ q

pub none_left : {E : Type 0} (j : Joins E) (b : ℕ) (e x : E) → negate j (b - b) e ≡ x → e ≡ x
none_left j b e x q = let r : b - b ≡ 0 = omega arith in sym (ap (λ k. negate j k e) r) ∙ q
