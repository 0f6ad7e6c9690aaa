-- The evaluation of steps in postfix order.
use Rattle.std.specs.Prelude.{ℕ, ◌+◌, ◌-◌, List, [], ◌∷◌, Bool, true, false, not, ◌&&◌, ◌||◌, nat_lt, Option, None, Some, slice_get}
use Rattle.depends_expr.specs.declared.results.TaskResult.{TaskResult}
use Rattle.depends_expr.specs.declared.steps.Step.{Step}
use Rattle.depends_expr.specs.declared.steps.Step.TheVariants.{Bare, Has, Not, And, Or}
use Rattle.depends_expr.specs.Truth.{holds, bare_holds}
use Rattle.depends_expr.specs.Inside.Postfix.{word_of}

abbrev pub nothing : TaskResult
nothing = record {
  succeeded = false;
  failed = false;
  errored = false;
  skipped = false;
  omitted = false;
  any_succeeded = false;
  all_failed = false;
}

abbrev pub found_result : Option TaskResult → TaskResult
found_result None = nothing
found_result (Some r) = r

abbrev pub result_at : List TaskResult → ℕ → TaskResult
result_at rs i = found_result (slice_get rs i)

-- what a step makes of the values so far, the latest first
abbrev pub value_of : List TaskResult → Step ℕ → List Bool → List Bool
value_of rs (Bare i) bs = bare_holds (result_at rs i) ∷ bs
value_of rs (Has i w) bs = holds (result_at rs i) (word_of w) ∷ bs
value_of rs Not (b ∷ bs) = not b ∷ bs
value_of rs And (b ∷ a ∷ bs) = (a && b) ∷ bs
value_of rs Or (b ∷ a ∷ bs) = (a || b) ∷ bs
value_of rs _ bs = bs

abbrev pub values : List TaskResult → List (Step ℕ) → List Bool → List Bool
values rs [] bs = bs
values rs (s ∷ ss) bs = values rs ss (value_of rs s bs)

abbrev pub top_value : List Bool → Bool
top_value [] = false
top_value (b ∷ bs) = b

-- whether a step finds its operands among so many values, and room for its own
abbrev pub has_room : {A : Type 0} → ℕ → Step A → Bool
has_room d (Bare n) = nat_lt d 131
has_room d (Has n w) = nat_lt d 131
has_room d Not = nat_lt 0 d && nat_lt d 132
has_room d And = nat_lt 1 d && nat_lt d 132
has_room d Or = nat_lt 1 d && nat_lt d 132

-- how many values there are behind it
abbrev pub values_after : {A : Type 0} → ℕ → Step A → ℕ
values_after d (Bare n) = d + 1
values_after d (Has n w) = d + 1
values_after d Not = d
values_after d And = d - 1
values_after d Or = d - 1

abbrev pub fits : {A : Type 0} → ℕ → List (Step A) → Bool
fits d [] = true
fits d (s ∷ ss) = has_room d s && fits (values_after d s) ss
