-- Numbers as a format writes them.
use Rattle.std.proofs.Common.{◌≡◌, ℕ, suc, ◌+◌, ◌-◌, ◌<◌, Bool, true, false, ℤ, ◌+ℤ◌, map, pos, negsuc, ◌<ℤ◌, ◌≤ℤ◌, List, [], ◌∷◌, ◌++◌, length, arith, refl, sym, ◌∙◌, ap, replicate, decimal, append_assoc, nat_abs}
use Rattle.std.specs.Prelude.{if◌then◌else◌}
use Rattle.fanout.specs.Inside.Rows.{number_from}
use Rattle.std.proofs.lemmas.Int.{ints}
use Rattle.fanout.specs.Sequences.{padded, written, numbers_from}
use Rattle.serde_json.specs.Data.{Data}
use Rattle.fanout.specs.Inside.Shapes.{plain, around}

pub written-plain : (t : List ℕ) (z : ℤ) → written (plain t) z ≡ t
written-plain [] z = refl
written-plain (b ∷ t) z = ap (λ x. b ∷ x) (written-plain t z)

-- text, the number and text
pub written-around : (before after : List ℕ) (w : ℕ) (z : ℤ) → written (around before w (plain after)) z ≡ (before ++ padded w z) ++ after
written-around [] after w z = ap (λ x. padded w z ++ x) (written-plain after z)
written-around (b ∷ before) after w z = ap (λ x. b ∷ x) (written-around before after w z)

pub padded-negative : (w : ℕ) (z : ℤ) → z <ℤ pos 0 → padded w z ≡ (45 ∷ []) ++ (replicate (w - 1 - length (decimal (nat_abs z))) 48 ++ decimal (nat_abs z))
padded-negative w (pos n) below = absurd (grind (arith, below))
padded-negative w (negsuc n) below = refl

pub padded-other : (w : ℕ) (z : ℤ) → pos 0 ≤ℤ z → padded w z ≡ replicate (w - length (decimal (nat_abs z))) 48 ++ decimal (nat_abs z)
padded-other w (pos n) above = refl
padded-other w (negsuc n) above = absurd (grind (arith, above))

-- one more number of a row is written
pub row_step : (f : ℤ → Data) (count counter : ℕ) (step z next : ℤ) (items new total : List Data) (x : Data) → counter < count →
    items ++ map f (numbers_from (count - counter) step z) ≡ total → x ≡ f z → new ≡ items ++ x ∷ [] → next ≡ z +ℤ step →
    new ++ map f (numbers_from (count - (counter + 1)) step next) ≡ total
row_step f count counter step z next items new total x at so_far is pushed goes_on =
    let left : count - counter ≡ suc (count - (counter + 1)) = omega arith in
    ap (λ l. l ++ map f (numbers_from (count - (counter + 1)) step next)) (pushed ∙ ap (λ y. items ++ y ∷ []) is)
    ∙ ap (λ n. (items ++ f z ∷ []) ++ map f (numbers_from (count - (counter + 1)) step n)) goes_on
    ∙ append_assoc items (f z ∷ []) (map f (numbers_from (count - (counter + 1)) step (z +ℤ step)))
    ∙ ap (λ n. items ++ map f (numbers_from n step z)) (sym left)
    ∙ so_far

-- the places of a row
pub number_from-next : (down : Bool) (first : ℤ) (place : ℕ) → number_from down first (place + 1) ≡ number_from down first place +ℤ (if down then negsuc 0 else pos 1)
number_from-next true first place = omega (arith, ints)
number_from-next false first place = omega (arith, ints)

number_from-zero : (down : Bool) (first : ℤ) → number_from down first 0 ≡ first
number_from-zero true first = omega (arith, ints)
number_from-zero false first = omega (arith, ints)

pub row_begins : (f : ℤ → Data) (count : ℕ) (down : Bool) (step first : ℤ) → map f (numbers_from (count - 0) step (number_from down first 0)) ≡ map f (numbers_from count step first)
row_begins f count down step first =
    let left : count - 0 ≡ count = omega arith in
    ap (λ n. map f (numbers_from n step (number_from down first 0))) left ∙ ap (λ z. map f (numbers_from count step z)) (number_from-zero down first)
