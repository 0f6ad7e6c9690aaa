-- No two paths stand before each other, and common fronts do not matter.
use Rattle.std.proofs.Common.{◌≡◌, ℕ, ◌≤◌, refl, sym, ◌∙◌, ap, arith, true≢false}
use Rattle.std.proofs.lemmas.Bool.{lt-ltb, ltb-true}
use Rattle.std.specs.Prelude.{suc, [], ◌∷◌, ◌++◌, Bool, true, false, cond, nat_lt}
use Rattle.tree_types.specs.declared.path.Sel.{Sel}
use Rattle.tree_types.specs.declared.path.Sel.TheVariants.{Main, Exit, Group, Step, Task, Item, Attempt}
use Rattle.tree_types.specs.Places.{sel_eq}
use Rattle.tree_types.proofs.Sels.{sel_is, sel_same}
use Rattle.meaning.specs.Answers.{Sels}
use Rattle.growth.proofs.Lines.{is_exit}
use Rattle.tree_order.specs.Order.{sel_before, path_before}

-- ---- selectors

lt_apart : (i j : ℕ) → nat_lt i j ≡ true → nat_lt j i ≡ true → ⊥
lt_apart i j a b = let c = ltb-true i j a in let d = ltb-true j i b in absurd (omega (arith, c, d))

-- no two stand before each other
sels_apart : (s t : Sel) → sel_before s t ≡ true → sel_before t s ≡ true → ⊥
sels_apart (Group i) (Group j) a b = lt_apart i j a b
sels_apart (Step i) (Step j) a b = lt_apart i j a b
sels_apart (Task i) (Task j) a b = lt_apart i j a b
sels_apart (Item i) (Item j) a b = lt_apart i j a b
sels_apart (Attempt i) (Attempt j) a b = lt_apart i j a b
sels_apart Exit t a b = true≢false (sym a)
sels_apart s Exit a b = true≢false (sym b)
sels_apart _ _ a b = true≢false (sym a)

-- the one that stands before is another
before_differs : (s t : Sel) → sel_before s t ≡ true → (b : Bool) → sel_eq s t ≡ b → b ≡ false
before_differs s t a false e = refl
before_differs s t a true e =
    let same = sel_same s t e in
    absurd (sels_apart s t a (ap (λ (x : Sel). sel_before t x) same ∙ ap (λ (x : Sel). sel_before x t) (sym same) ∙ a))

-- ---- paths

pub behind_front : (p a b : Sels) → path_before (p ++ a) (p ++ b) ≡ path_before a b
behind_front [] a b = refl
behind_front (s ∷ p) a b = ap (λ (e : Bool). cond e (path_before (p ++ a) (p ++ b)) (sel_before s s)) (sel_is s) ∙ behind_front p a b

pub child_before : (s t : Sel) (a b : Sels) → sel_before s t ≡ true → path_before (s ∷ a) (t ∷ b) ≡ true
child_before s t a b e = ap (λ (x : Bool). cond x (path_before a b) (sel_before s t)) (before_differs s t e (sel_eq s t) refl) ∙ e

-- the two tests of two paths that begin with these selectors
at_first : (s t : Sel) (p q : Sels) (e : Bool) → sel_eq s t ≡ e → path_before (s ∷ p) (t ∷ q) ≡ cond e (path_before p q) (sel_before s t)
at_first s t p q e is = ap (λ (x : Bool). cond x (path_before p q) (sel_before s t)) is

one_way : (s t : Sel) → sel_eq s t ≡ true → sel_eq t s ≡ false → ⊥
one_way s t is not = true≢false (sym (ap (λ (x : Sel). sel_eq t x) (sel_same s t is) ∙ sel_is t) ∙ not)

firsts_apart : (s t : Sel) (p q : Sels) (e f : Bool) → sel_eq s t ≡ e → sel_eq t s ≡ f →
    (path_before p q ≡ true → path_before q p ≡ true → ⊥) →
    path_before (s ∷ p) (t ∷ q) ≡ true → path_before (t ∷ q) (s ∷ p) ≡ true → ⊥
firsts_apart s t p q true true is si rest a b = rest (sym (at_first s t p q true is) ∙ a) (sym (at_first t s q p true si) ∙ b)
firsts_apart s t p q false false is si rest a b = sels_apart s t (sym (at_first s t p q false is) ∙ a) (sym (at_first t s q p false si) ∙ b)
firsts_apart s t p q true false is si rest a b = one_way s t is si
firsts_apart s t p q false true is si rest a b = one_way t s si is

pub paths_apart : (p q : Sels) → path_before p q ≡ true → path_before q p ≡ true → ⊥
paths_apart p [] a b = true≢false (sym a)
paths_apart [] (t ∷ q) a b = true≢false (sym b)
paths_apart (s ∷ p) (t ∷ q) a b = firsts_apart s t p q (sel_eq s t) (sel_eq t s) refl refl (paths_apart p q) a b

-- the exit hook stands last
pub exit_last : (s : Sel) → is_exit s ≡ false → sel_before s Exit ≡ true
exit_last Main e = refl
exit_last Exit e = absurd (true≢false e)
exit_last (Group i) e = refl
exit_last (Step i) e = refl
exit_last (Task i) e = refl
exit_last (Item i) e = refl
exit_last (Attempt i) e = refl

pub less : (i j : ℕ) → suc i ≤ j → nat_lt i j ≡ true
less i j l = lt-ltb i j (omega (arith, l))
