-- The evaluation of steps in postfix order. A right side is evaluated even where it is not reached: its value is then not
-- looked at.
use Rattle.std.specs.Prelude.{ℕ, ◌+◌, ◌-◌, List, [], ◌∷◌, Bool, true, ◌&&◌, nat_lt, Option, None, Some}
use Rattle.when_expr.specs.declared.steps.Step.{Step}
use Rattle.when_expr.specs.declared.steps.Step.TheVariants.{Literal, Test, Not, And, Or}
use Rattle.when_expr.specs.Truth.{test_truth, not_then, and_then, or_then}
use Rattle.when_expr.specs.Inside.Postfix.{term_of, order_of}

-- what a step makes of the values so far, the latest first
abbrev pub value_of : Step → List (Option Bool) → List (Option Bool)
value_of (Literal b) bs = Some b ∷ bs
value_of (Test l o r) bs = test_truth (order_of o) (term_of l) (term_of r) ∷ bs
value_of Not (b ∷ bs) = not_then b ∷ bs
value_of And (b ∷ a ∷ bs) = and_then a b ∷ bs
value_of Or (b ∷ a ∷ bs) = or_then a b ∷ bs
value_of _ bs = bs

abbrev pub values : List Step → List (Option Bool) → List (Option Bool)
values [] bs = bs
values (s ∷ ss) bs = values ss (value_of s bs)

abbrev pub top_value : List (Option Bool) → Option Bool
top_value [] = None
top_value (b ∷ bs) = b

-- whether a step finds its operands among so many values, and room for its own
abbrev pub has_room : ℕ → Step → Bool
has_room d (Literal b) = nat_lt d 131
has_room d (Test l o r) = nat_lt d 131
has_room d Not = nat_lt 0 d && nat_lt d 132
has_room d And = nat_lt 1 d && nat_lt d 132
has_room d Or = nat_lt 1 d && nat_lt d 132

-- how many values there are behind it
abbrev pub values_after : ℕ → Step → ℕ
values_after d (Literal b) = d + 1
values_after d (Test l o r) = d + 1
values_after d Not = d
values_after d And = d - 1
values_after d Or = d - 1

abbrev pub fits : ℕ → List Step → Bool
fits d [] = true
fits d (s ∷ ss) = has_room d s && fits (values_after d s) ss
