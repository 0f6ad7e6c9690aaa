-- The value of a condition's steps is its truth, and finds room.
use Rattle.std.specs.Prelude.{◌≡◌, ℕ, ◌<◌, ◌≤◌, ◌+◌, ◌-◌, List, [], ◌∷◌, ◌++◌, map, Bool, true, ◌&&◌, nat_lt, IsTrue, refl}
use Rattle.std.proofs.Common.{ap, sym, ◌∙◌, arith, append_assoc, append-nil}
use Rattle.std.proofs.lemmas.Bool.{and_from, lt-ltb}
use Rattle.when_expr.specs.declared.steps.Step.{Step}
use Rattle.when_expr.specs.declared.steps.Step.TheVariants.{Literal, Test, Not, And, Or}
use Rattle.when_expr.specs.Expression.{Condition, literal, test, negated, all_of, any_of}
use Rattle.when_expr.specs.Truth.{truth}
use Rattle.when_expr.specs.Inside.Postfix.{postfix, build, built, condition_of, peak, IsWhole}
use Rattle.when_expr.specs.Inside.Values.{value_of, values, top_value, fits}
use Rattle.when_expr.proofs.Postfixes.{built_postfix}

step_value : (s : Step) (es : List Condition) → value_of s (map truth es) ≡ map truth (build s es)
step_value (Literal b) es = refl
step_value (Test l o r) es = refl
step_value Not [] = refl
step_value Not (e ∷ es) = refl
step_value And [] = refl
step_value And (e ∷ []) = refl
step_value And (e ∷ d ∷ es) = refl
step_value Or [] = refl
step_value Or (e ∷ []) = refl
step_value Or (e ∷ d ∷ es) = refl

steps_value : (ss : List Step) (es : List Condition) → values ss (map truth es) ≡ map truth (built ss es)
steps_value [] es = refl
steps_value (s ∷ ss) es = ap (λ bs. values ss bs) (step_value s es) ∙ steps_value ss (build s es)

pub whole_value : (ss : List Step) → IsWhole ss → top_value (values ss []) ≡ truth (condition_of ss)
whole_value ss h =
    let e = condition_of ss in
    let alone : built ss [] ≡ e ∷ [] = ap (λ x. built x []) (h.whole ∙ sym (append-nil (postfix e))) ∙ built_postfix e [] [] in
    ap top_value (steps_value ss []) ∙ ap (λ es. top_value (map truth es)) alone

-- ---- room

true_and : (b c : Bool) → b ≡ true → (b && c) ≡ c
true_and b c h = ap (λ x. x && c) h

some_peak : (e : Condition) → 0 < peak e
some_peak (literal b) = omega arith
some_peak (test l o r) = omega arith
some_peak (negated e) = some_peak e
some_peak (all_of d e) = omega arith
some_peak (any_of d e) = omega arith

between : (n d m : ℕ) → n < d → d < m → (nat_lt n d && nat_lt d m) ≡ true
between n d m g h = and_from _ _ (lt-ltb n d g) (lt-ltb d m h)

fits_postfix : (e : Condition) (rest : List Step) (d : ℕ) → d + peak e ≤ 131 → fits d (postfix e ++ rest) ≡ fits (d + 1) rest
fits_postfix (literal b) rest d h = let room : d < 131 = omega arith in true_and (nat_lt d 131) _ (lt-ltb d 131 room)
fits_postfix (test l o r) rest d h = let room : d < 131 = omega arith in true_and (nat_lt d 131) _ (lt-ltb d 131 room)
fits_postfix (negated e) rest d h =
    let some = some_peak e in
    let one : 0 < d + 1 = omega arith in
    let few : d + 1 < 132 = omega (arith, some) in
    ap (λ x. fits d x) (append_assoc (postfix e) (Not ∷ []) rest) ∙ fits_postfix e (Not ∷ rest) d h ∙ true_and (nat_lt 0 (d + 1) && nat_lt (d + 1) 132) _ (between 0 (d + 1) 132 one few)
fits_postfix (all_of d e) rest n h =
    let left : n + peak d ≤ 131 = omega arith in
    let right : (n + 1) + peak e ≤ 131 = omega arith in
    let some = some_peak e in
    let two : 1 < (n + 1) + 1 = omega arith in
    let few : (n + 1) + 1 < 132 = omega (arith, some) in
    let back : (n + 1) + 1 - 1 ≡ n + 1 = omega arith in
    ap (λ x. fits n x) (append_assoc (postfix d) (postfix e ++ And ∷ []) rest ∙ ap (λ x. postfix d ++ x) (append_assoc (postfix e) (And ∷ []) rest))
    ∙ fits_postfix d (postfix e ++ (And ∷ rest)) n left ∙ fits_postfix e (And ∷ rest) (n + 1) right
    ∙ true_and (nat_lt 1 ((n + 1) + 1) && nat_lt ((n + 1) + 1) 132) _ (between 1 ((n + 1) + 1) 132 two few) ∙ ap (λ x. fits x rest) back
fits_postfix (any_of d e) rest n h =
    let left : n + peak d ≤ 131 = omega arith in
    let right : (n + 1) + peak e ≤ 131 = omega arith in
    let some = some_peak e in
    let two : 1 < (n + 1) + 1 = omega arith in
    let few : (n + 1) + 1 < 132 = omega (arith, some) in
    let back : (n + 1) + 1 - 1 ≡ n + 1 = omega arith in
    ap (λ x. fits n x) (append_assoc (postfix d) (postfix e ++ Or ∷ []) rest ∙ ap (λ x. postfix d ++ x) (append_assoc (postfix e) (Or ∷ []) rest))
    ∙ fits_postfix d (postfix e ++ (Or ∷ rest)) n left ∙ fits_postfix e (Or ∷ rest) (n + 1) right
    ∙ true_and (nat_lt 1 ((n + 1) + 1) && nat_lt ((n + 1) + 1) 132) _ (between 1 ((n + 1) + 1) 132 two few) ∙ ap (λ x. fits x rest) back

pub whole_fits : (ss : List Step) → IsWhole ss → IsTrue (fits 0 ss)
whole_fits ss h =
    let e = condition_of ss in
    ap (λ x. fits 0 x) (h.whole ∙ sym (append-nil (postfix e))) ∙ (let low : 0 + peak e ≤ 131 = omega (arith, h.low) in fits_postfix e [] 0 low)
