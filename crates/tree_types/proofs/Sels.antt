-- The test by which code compares selectors and paths is that of the definitions, and what passes it is equal.
use Rattle.std.proofs.Common.{◌≡◌, Bool, true, false, ◌&&◌, List, [], ◌∷◌, refl, ◌∙◌, ap, ap₂}
use Rattle.std.specs.Cmp.Lexicographic.{pointwise}
use Rattle.std.proofs.lemmas.Bool.{eqb-true, eq-eqb}
use Rattle.tree_types.specs.declared.path.Sel.{Sel}
use Rattle.tree_types.specs.declared.path.Sel.TheVariants.{Main, Exit, Group, Step, Task, Item, Attempt}
use Rattle.tree_types.specs.contracts.path.SelPartialEq.TheImpl.{eq-value}
use Rattle.tree_types.specs.Places.{sel_eq, sels_eq}

-- ---- the test by which code compares

pub sel_tested : (a b : Sel) → eq-value.it a b ≡ sel_eq a b
sel_tested Main Main = refl
sel_tested Exit Exit = refl
sel_tested (Group i) (Group j) = refl
sel_tested (Step i) (Step j) = refl
sel_tested (Task i) (Task j) = refl
sel_tested (Item i) (Item j) = refl
sel_tested (Attempt i) (Attempt j) = refl
sel_tested _ _ = refl

pub sels_tested : (p q : List Sel) → pointwise eq-value.it p q ≡ sels_eq p q
sels_tested [] [] = refl
sels_tested [] (b ∷ q) = refl
sels_tested (a ∷ p) [] = refl
sels_tested (a ∷ p) (b ∷ q) = ap₂ (λ (x y : Bool). x && y) (sel_tested a b) (sels_tested p q)

-- ---- what is found equal is equal

both_true : (a b : Bool) → (a && b) ≡ true → (a ≡ true) × (b ≡ true)
both_true true b e = (refl, e)
both_true false b e = absurd (cc e)

pub sel_same : (a b : Sel) → sel_eq a b ≡ true → a ≡ b
sel_same Main Main e = refl
sel_same Exit Exit e = refl
sel_same (Group i) (Group j) e = ap Group (eqb-true i j e)
sel_same (Step i) (Step j) e = ap Step (eqb-true i j e)
sel_same (Task i) (Task j) e = ap Task (eqb-true i j e)
sel_same (Item i) (Item j) e = ap Item (eqb-true i j e)
sel_same (Attempt i) (Attempt j) e = ap Attempt (eqb-true i j e)
sel_same _ _ e = absurd (cc e)

pub sels_same : (p q : List Sel) → sels_eq p q ≡ true → p ≡ q
sels_same [] [] e = refl
sels_same [] (b ∷ q) e = absurd (cc e)
sels_same (a ∷ p) [] e = absurd (cc e)
sels_same (a ∷ p) (b ∷ q) e = let two = both_true (sel_eq a b) (sels_eq p q) e in ap₂ (λ (x : Sel) (xs : List Sel). x ∷ xs) (sel_same a b two.0) (sels_same p q two.1)

-- ---- and what is equal is found so

pub sel_is : (a : Sel) → sel_eq a a ≡ true
sel_is Main = refl
sel_is Exit = refl
sel_is (Group i) = eq-eqb i i refl
sel_is (Step i) = eq-eqb i i refl
sel_is (Task i) = eq-eqb i i refl
sel_is (Item i) = eq-eqb i i refl
sel_is (Attempt i) = eq-eqb i i refl

pub sels_are : (p : List Sel) → sels_eq p p ≡ true
sels_are [] = refl
sels_are (a ∷ p) = ap (λ (x : Bool). x && sels_eq p p) (sel_is a) ∙ sels_are p
