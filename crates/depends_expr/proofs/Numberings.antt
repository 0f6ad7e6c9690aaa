-- Steps with positions build what the steps with names build.
use Rattle.std.specs.Prelude.{◌≡◌, ℕ, zero, suc, ◌<◌, ◌≤◌, ◌+◌, List, [], ◌∷◌, ◌++◌, length, map, bytes_eq, IsTrue, refl, slice_get, slice_index_or, take}
use Rattle.std.proofs.Common.{ap, sym, subst, ◌∙◌, arith, append_assoc, append-nil, length-append}
use Rattle.std.specs.List.{list_all, list_any}
use Rattle.std.proofs.lemmas.Bool.{and_parts, and_from, cond_both, lt-ltb, ltb-true}
use Rattle.std.proofs.lemmas.List.{map-append, take_more}
use Rattle.depends_expr.specs.declared.steps.Step.{Step}
use Rattle.depends_expr.specs.declared.steps.Step.TheVariants.{Bare, Has, Not, And, Or}
use Rattle.depends_expr.specs.Expression.{Expression, bare, has, negation, both, either}
use Rattle.depends_expr.specs.Truth.{add_name, add_names, named, names_of}
use Rattle.depends_expr.specs.Inside.Postfix.{postfix, expression_of}
use Rattle.depends_expr.specs.Inside.View.{found, with_name, named_expression, is_position_below, peak, IsWhole}
use Rattle.depends_expr.specs.Inside.Numbering.{leaf, leaves, NumbersStep, Numbers}
use Rattle.depends_expr.proofs.Postfixes.{AreSteps}

leaves_append : (xs ys : List (Step (List ℕ))) → leaves (xs ++ ys) ≡ leaves xs ++ leaves ys
leaves_append [] ys = refl
leaves_append (x ∷ xs) ys = ap (λ zs. leaf x ++ zs) (leaves_append xs ys) ∙ sym (append_assoc (leaf x) (leaves xs) (leaves ys))

two_leaves : (xs ys : List (Step (List ℕ))) (s : Step (List ℕ)) (ns ms : List (List ℕ)) → leaves xs ≡ ns → leaves ys ≡ ms → leaf s ≡ [] → leaves (xs ++ (ys ++ s ∷ [])) ≡ ns ++ ms
two_leaves xs ys s ns ms p q e =
    leaves_append xs (ys ++ s ∷ []) ∙ ap (λ zs. leaves xs ++ zs) (leaves_append ys (s ∷ []) ∙ ap (λ zs. leaves ys ++ (zs ++ [])) e ∙ append-nil (leaves ys)) ∙ λ i. p i ++ q i

pub leaves_postfix : (e : Expression) → leaves (postfix e) ≡ named e
leaves_postfix (bare n) = refl
leaves_postfix (has n w) = refl
leaves_postfix (negation e) = leaves_append (postfix e) (Not ∷ []) ∙ append-nil (leaves (postfix e)) ∙ leaves_postfix e
leaves_postfix (both d e) = two_leaves (postfix d) (postfix e) And (named d) (named e) (leaves_postfix d) (leaves_postfix e) refl
leaves_postfix (either d e) = two_leaves (postfix d) (postfix e) Or (named d) (named e) (leaves_postfix d) (leaves_postfix e) refl

add_names_append : (ns ms ks : List (List ℕ)) → add_names ns (ms ++ ks) ≡ add_names (add_names ns ms) ks
add_names_append ns [] ks = refl
add_names_append ns (m ∷ ms) ks = add_names_append (add_name ns m) ms ks

-- ---- more names leave the positions as they are

got_more : {A : Type 0} (xs ys : List A) (i : ℕ) → i < length xs → slice_get (xs ++ ys) i ≡ slice_get xs i
got_more [] ys i h = absurd (omega arith)
got_more (x ∷ xs) ys zero h = refl
got_more (x ∷ xs) ys (suc i) h = got_more xs ys i (omega arith)

-- ns are the names of ms, and perhaps more behind
abbrev Grows : List (List ℕ) → List (List ℕ) → Type 0
Grows ms ns = (more : List (List ℕ)) × (ns ≡ ms ++ more)

grows_by_one : (ns : List (List ℕ)) (n : List ℕ) → Grows ns (add_name ns n)
grows_by_one ns n = cond_both (list_any (bytes_eq n) ns) ns (ns ++ n ∷ []) (λ x. Grows ns x) (λ _. ([], sym (append-nil ns))) (λ _. (n ∷ [], refl))

grows_leaf : (ns : List (List ℕ)) (s : Step (List ℕ)) → Grows ns (add_names ns (leaf s))
grows_leaf ns (Bare n) = grows_by_one ns n
grows_leaf ns (Has n w) = grows_by_one ns n
grows_leaf ns Not = ([], sym (append-nil ns))
grows_leaf ns And = ([], sym (append-nil ns))
grows_leaf ns Or = ([], sym (append-nil ns))

grown_step : (ms ns : List (List ℕ)) (x : Step ℕ) → Grows ms ns → IsTrue (is_position_below (length ms) x) → (with_name ns x ≡ with_name ms x) × IsTrue (is_position_below (length ns) x)
grown_step ms ns (Bare i) g h =
    let below : i < length ms = ltb-true _ _ h in
    let longer : length ns ≡ length ms + length g.0 = ap length g.1 ∙ length-append ms g.0 in
    (ap (λ o. Bare (found o)) (ap (λ zs. slice_get zs i) g.1 ∙ got_more ms g.0 i below), lt-ltb _ _ (omega arith))
grown_step ms ns (Has i w) g h =
    let below : i < length ms = ltb-true _ _ h in
    let longer : length ns ≡ length ms + length g.0 = ap length g.1 ∙ length-append ms g.0 in
    (ap (λ o. Has (found o) w) (ap (λ zs. slice_get zs i) g.1 ∙ got_more ms g.0 i below), lt-ltb _ _ (omega arith))
grown_step ms ns Not g h = (refl, refl)
grown_step ms ns And g h = (refl, refl)
grown_step ms ns Or g h = (refl, refl)

grown_steps : (ms ns : List (List ℕ)) (xs : List (Step ℕ)) → Grows ms ns → IsTrue (list_all (is_position_below (length ms)) xs) → (map (with_name ns) xs ≡ map (with_name ms) xs) × IsTrue (list_all (is_position_below (length ns)) xs)
grown_steps ms ns [] g h = (refl, refl)
grown_steps ms ns (x ∷ xs) g h =
    let parts = and_parts (is_position_below (length ms) x) (list_all (is_position_below (length ms)) xs) h in
    let here = grown_step ms ns x g parts.0 in
    let there = grown_steps ms ns xs g parts.1 in
    ((λ i. here.0 i ∷ there.0 i), and_from _ _ here.1 there.1)

all_more : (n : ℕ) (xs : List (Step ℕ)) (x : Step ℕ) → IsTrue (list_all (is_position_below n) xs) → IsTrue (is_position_below n x) → IsTrue (list_all (is_position_below n) (xs ++ x ∷ []))
all_more n [] x h i = and_from _ _ i refl
all_more n (y ∷ ys) x h i =
    let parts = and_parts (is_position_below n y) (list_all (is_position_below n) ys) h in
    and_from _ _ parts.0 (all_more n ys x parts.1 i)

pub numbers_more : (old new : List (List ℕ)) (xs : List (Step ℕ)) (ys : List (Step (List ℕ))) (x : Step ℕ) (y : Step (List ℕ)) → Numbers old xs ys → NumbersStep old new x y → Numbers new (xs ++ x ∷ []) (ys ++ y ∷ [])
numbers_more old new xs ys x y h s =
    let grown : Grows old new = subst (λ zs. Grows old zs) (sym s.firsts) (grows_leaf old y) in
    let steps = grown_steps old new xs grown h.positions in
    record {
      firsts = s.firsts ∙ ap (λ zs. add_names zs (leaf y)) h.firsts ∙ sym (add_names_append [] (leaves ys) (leaf y)) ∙ ap (λ zs. add_names [] zs) (sym (leaves_append ys (y ∷ []) ∙ ap (λ zs. leaves ys ++ zs) (append-nil (leaf y))));
      same = map-append (with_name new) xs (x ∷ []) ∙ λ i. (steps.0 ∙ h.same) i ++ s.same i ∷ [];
      positions = all_more (length new) xs x steps.1 s.position;
    }

pub numbers_none : Numbers [] [] []
numbers_none = record { firsts = refl; same = refl; positions = refl }

pub numbers_whole : (names : List (List ℕ)) (xs : List (Step ℕ)) (ys : List (Step (List ℕ))) → AreSteps ys → Numbers names xs ys → peak (expression_of ys) ≤ 131 → IsWhole names xs × (named_expression names xs ≡ expression_of ys)
numbers_whole names xs ys a h l =
    let same : named_expression names xs ≡ expression_of ys = ap expression_of h.same in (
      record {
        whole = h.same ∙ a ∙ ap postfix (sym same);
        positions = h.positions;
        each_once = h.firsts ∙ ap (λ zs. add_names [] zs) (ap leaves a ∙ leaves_postfix (expression_of ys)) ∙ ap names_of (sym same);
        low = subst (λ e. peak e ≤ 131) (sym same) l;
      },
      same,
    )

pub numbers_next : (old new : List (List ℕ)) (xs zs : List (Step ℕ)) (all : List (Step (List ℕ))) (i : ℕ) (x : Step ℕ) (y : Step (List ℕ)) → Numbers old xs (take i all) → NumbersStep old new x y → zs ≡ xs ++ x ∷ [] → i < length all → y ≡ slice_index_or all i y → Numbers new zs (take (i + 1) all)
numbers_next old new xs zs all i x y h s p l q =
    let one : take i all ++ y ∷ [] ≡ take (i + 1) all = ap (λ v. take i all ++ v ∷ []) q ∙ sym (take_more all i y l) in
    subst (λ ys. Numbers new zs ys) one (subst (λ ws. Numbers new ws (take i all ++ y ∷ [])) (sym p) (numbers_more old new xs (take i all) x y h s))

pub draft_whole : (names table : List (List ℕ)) (xs : List (Step ℕ)) (ys zs : List (Step (List ℕ))) (draft : Expression) → names ≡ table → ys ≡ zs → AreSteps zs → draft ≡ expression_of zs → Numbers table xs ys → peak draft ≤ 131 → IsWhole names xs × (named_expression names xs ≡ draft)
draft_whole names table xs ys zs draft p q a v h l =
    let there : Numbers names xs zs = subst (λ ns. Numbers ns xs zs) (sym p) (subst (λ ws. Numbers table xs ws) q h) in
    let whole = numbers_whole names xs zs a there (subst (λ e. peak e ≤ 131) v l) in
    (whole.0, whole.1 ∙ sym v)
