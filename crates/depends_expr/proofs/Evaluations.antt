-- The value of an expression's steps is its truth, and finds room.
use Rattle.std.specs.Prelude.{◌≡◌, ℕ, zero, suc, ◌<◌, ◌≤◌, ◌+◌, ◌-◌, List, [], ◌∷◌, ◌++◌, length, map, Bool, true, ◌&&◌, nat_lt, IsTrue, refl, slice_get, slice_index_or}
use Rattle.std.proofs.Common.{ap, sym, ◌∙◌, arith, append_assoc, append-nil}
use Rattle.std.specs.List.{list_all}
use Rattle.std.proofs.lemmas.Bool.{and_parts, and_from, lt-ltb, ltb-true}
use Rattle.depends_expr.specs.declared.results.TaskResult.{TaskResult}
use Rattle.depends_expr.specs.declared.steps.Step.{Step}
use Rattle.depends_expr.specs.declared.steps.Step.TheVariants.{Bare, Has, Not, And, Or}
use Rattle.depends_expr.specs.Expression.{Expression, bare, has, negation, both, either}
use Rattle.depends_expr.specs.Truth.{holds, bare_holds, truth}
use Rattle.depends_expr.specs.Inside.Postfix.{word_of, postfix, build, built}
use Rattle.depends_expr.specs.Inside.View.{found, with_name, named_expression, is_position_below, peak, IsWhole}
use Rattle.depends_expr.specs.Inside.Values.{result_at, value_of, values, top_value, has_room, values_after, fits}
use Rattle.depends_expr.proofs.Postfixes.{built_postfix}

result_of_name : (of : List ℕ → TaskResult) (names : List (List ℕ)) (i : ℕ) → i < length names → result_at (map of names) i ≡ of (found (slice_get names i))
result_of_name of [] i h = absurd (omega arith)
result_of_name of (n ∷ ns) zero h = refl
result_of_name of (n ∷ ns) (suc i) h = result_of_name of ns i (omega arith)

step_value : (of : List ℕ → TaskResult) (names : List (List ℕ)) (s : Step ℕ) (es : List Expression) → IsTrue (is_position_below (length names) s) → value_of (map of names) s (map (truth of) es) ≡ map (truth of) (build (with_name names s) es)
step_value of names (Bare i) es h = ap (λ r. bare_holds r ∷ map (truth of) es) (result_of_name of names i (ltb-true _ _ h))
step_value of names (Has i w) es h = ap (λ r. holds r (word_of w) ∷ map (truth of) es) (result_of_name of names i (ltb-true _ _ h))
step_value of names Not [] h = refl
step_value of names Not (e ∷ es) h = refl
step_value of names And [] h = refl
step_value of names And (e ∷ []) h = refl
step_value of names And (e ∷ d ∷ es) h = refl
step_value of names Or [] h = refl
step_value of names Or (e ∷ []) h = refl
step_value of names Or (e ∷ d ∷ es) h = refl

steps_value : (of : List ℕ → TaskResult) (names : List (List ℕ)) (ss : List (Step ℕ)) (es : List Expression) → IsTrue (list_all (is_position_below (length names)) ss) → values (map of names) ss (map (truth of) es) ≡ map (truth of) (built (map (with_name names) ss) es)
steps_value of names [] es h = refl
steps_value of names (s ∷ ss) es h =
    let parts = and_parts (is_position_below (length names) s) (list_all (is_position_below (length names)) ss) h in
    ap (λ bs. values (map of names) ss bs) (step_value of names s es parts.0) ∙ steps_value of names ss (build (with_name names s) es) parts.1

one_value : (of : List ℕ → TaskResult) (names : List (List ℕ)) (ss : List (Step ℕ)) (results : List TaskResult) → IsWhole names ss → map of names ≡ results → values results ss [] ≡ truth of (named_expression names ss) ∷ []
one_value of names ss results h p =
    let e = named_expression names ss in
    let alone : built (map (with_name names) ss) [] ≡ e ∷ [] = ap (λ x. built x []) (h.whole ∙ sym (append-nil (postfix e))) ∙ built_postfix e [] [] in
    ap (λ rs. values rs ss []) (sym p) ∙ steps_value of names ss [] h.positions ∙ ap (λ es. map (truth of) es) alone

pub whole_value : (of : List ℕ → TaskResult) (names : List (List ℕ)) (ss : List (Step ℕ)) (results : List TaskResult) → IsWhole names ss → map of names ≡ results → top_value (values results ss []) ≡ truth of (named_expression names ss)
whole_value of names ss results h p = ap top_value (one_value of names ss results h p)

-- ---- room

fits_step : (names : List (List ℕ)) (s : Step ℕ) (d : ℕ) → (has_room d (with_name names s) ≡ has_room d s) × (values_after d (with_name names s) ≡ values_after d s)
fits_step names (Bare i) d = (refl, refl)
fits_step names (Has i w) d = (refl, refl)
fits_step names Not d = (refl, refl)
fits_step names And d = (refl, refl)
fits_step names Or d = (refl, refl)

fits_names : (names : List (List ℕ)) (ss : List (Step ℕ)) (d : ℕ) → fits d (map (with_name names) ss) ≡ fits d ss
fits_names names [] d = refl
fits_names names (s ∷ ss) d =
    let here = fits_step names s d in
    (λ i. here.0 i && fits (here.1 i) (map (with_name names) ss)) ∙ ap (λ b. has_room d s && b) (fits_names names ss (values_after d s))

true_and : (b c : Bool) → b ≡ true → (b && c) ≡ c
true_and b c h = ap (λ x. x && c) h

some_peak : (e : Expression) → 0 < peak e
some_peak (bare n) = omega arith
some_peak (has n w) = omega arith
some_peak (negation e) = some_peak e
some_peak (both d e) = omega arith
some_peak (either d e) = omega arith

between : (n d m : ℕ) → n < d → d < m → (nat_lt n d && nat_lt d m) ≡ true
between n d m g h = and_from _ _ (lt-ltb n d g) (lt-ltb d m h)

fits_postfix : (e : Expression) (rest : List (Step (List ℕ))) (d : ℕ) → d + peak e ≤ 131 → fits d (postfix e ++ rest) ≡ fits (d + 1) rest
fits_postfix (bare n) rest d h = let room : d < 131 = omega arith in true_and (nat_lt d 131) _ (lt-ltb d 131 room)
fits_postfix (has n w) rest d h = let room : d < 131 = omega arith in true_and (nat_lt d 131) _ (lt-ltb d 131 room)
fits_postfix (negation e) rest d h =
    let some = some_peak e in
    let one : 0 < d + 1 = omega arith in
    let few : d + 1 < 132 = omega (arith, some) in
    ap (λ x. fits d x) (append_assoc (postfix e) (Not ∷ []) rest) ∙ fits_postfix e (Not ∷ rest) d h ∙ true_and (nat_lt 0 (d + 1) && nat_lt (d + 1) 132) _ (between 0 (d + 1) 132 one few)
fits_postfix (both d e) rest n h =
    let left : n + peak d ≤ 131 = omega arith in
    let right : (n + 1) + peak e ≤ 131 = omega arith in
    let some = some_peak e in
    let two : 1 < (n + 1) + 1 = omega arith in
    let few : (n + 1) + 1 < 132 = omega (arith, some) in
    let back : (n + 1) + 1 - 1 ≡ n + 1 = omega arith in
    ap (λ x. fits n x) (append_assoc (postfix d) (postfix e ++ And ∷ []) rest ∙ ap (λ x. postfix d ++ x) (append_assoc (postfix e) (And ∷ []) rest))
    ∙ fits_postfix d (postfix e ++ (And ∷ rest)) n left ∙ fits_postfix e (And ∷ rest) (n + 1) right
    ∙ true_and (nat_lt 1 ((n + 1) + 1) && nat_lt ((n + 1) + 1) 132) _ (between 1 ((n + 1) + 1) 132 two few) ∙ ap (λ x. fits x rest) back
fits_postfix (either d e) rest n h =
    let left : n + peak d ≤ 131 = omega arith in
    let right : (n + 1) + peak e ≤ 131 = omega arith in
    let some = some_peak e in
    let two : 1 < (n + 1) + 1 = omega arith in
    let few : (n + 1) + 1 < 132 = omega (arith, some) in
    let back : (n + 1) + 1 - 1 ≡ n + 1 = omega arith in
    ap (λ x. fits n x) (append_assoc (postfix d) (postfix e ++ Or ∷ []) rest ∙ ap (λ x. postfix d ++ x) (append_assoc (postfix e) (Or ∷ []) rest))
    ∙ fits_postfix d (postfix e ++ (Or ∷ rest)) n left ∙ fits_postfix e (Or ∷ rest) (n + 1) right
    ∙ true_and (nat_lt 1 ((n + 1) + 1) && nat_lt ((n + 1) + 1) 132) _ (between 1 ((n + 1) + 1) 132 two few) ∙ ap (λ x. fits x rest) back

pub whole_fits : (names : List (List ℕ)) (ss : List (Step ℕ)) → IsWhole names ss → IsTrue (fits 0 ss)
whole_fits names ss h =
    let e = named_expression names ss in
    sym (fits_names names ss 0) ∙ ap (λ x. fits 0 x) (h.whole ∙ sym (append-nil (postfix e))) ∙ (let low : 0 + peak e ≤ 131 = omega (arith, h.low) in fits_postfix e [] 0 low)

pub result_got : (rs : List TaskResult) (i : ℕ) (r : TaskResult) → i < length rs → r ≡ slice_index_or rs i r → result_at rs i ≡ r
result_got [] i r h p = absurd (omega arith)
result_got (x ∷ xs) zero r h p = sym p
result_got (x ∷ xs) (suc i) r h p = result_got xs i r (omega arith) p
