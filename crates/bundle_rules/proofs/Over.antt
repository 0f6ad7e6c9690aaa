-- The first of a list beyond a number.
use Rattle.std.proofs.Common.{◌≡◌, ℕ, zero, suc, ◌≤◌, List, [], ◌∷◌, length, drop, Some, Ok, refl, ap, arith}
use Rattle.std.specs.Prelude.{slice_get}
use Rattle.field_kinds.specs.Rules as rules
use Rattle.bundle_rules.specs.declared.claims.Spot.{Spot}
use Rattle.bundle_rules.specs.Findings.{refuse}
use Rattle.bundle_rules.specs.Counts.{none_over}

nothing_left : (n : ℕ) (ss : List Spot) → length ss ≤ n → drop n ss ≡ []
nothing_left zero [] few = refl
nothing_left zero (s ∷ ss) few = absurd (omega arith)
nothing_left (suc n) [] few = refl
nothing_left (suc n) (s ∷ ss) few = nothing_left n ss (omega arith)

pub few_enough : (n : ℕ) (ss : List Spot) → length ss ≤ n → none_over (drop n ss) ≡ Ok tt
few_enough n ss few = ap none_over (nothing_left n ss few)

pub too_many :
    (n : ℕ) (ss : List Spot) (s : Spot) → slice_get ss n ≡ Some s →
    none_over (drop n ss) ≡ refuse s.item rules.too_many s.path
too_many n [] s e = absurd cc
too_many zero (t ∷ ss) s e = let same : t ≡ s = cc e in ap (λ (x : Spot). refuse x.item rules.too_many x.path) same
too_many (suc n) (t ∷ ss) s e = too_many n ss s e
