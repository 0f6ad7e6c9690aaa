-- Paths as lists of selectors, and the test of their equality.
use Rattle.std.specs.Prelude.{List, [], ◌∷◌, Bool, true, false, ◌&&◌, ◌==◌}
use Rattle.tree_types.specs.declared.path.Sel.{Sel}
use Rattle.tree_types.specs.declared.path.Sel.TheVariants.{Main, Exit, Group, Step, Task, Item, Attempt}

abbrev pub sel_eq : Sel → Sel → Bool
sel_eq Main Main = true
sel_eq Exit Exit = true
sel_eq (Group i) (Group j) = i == j
sel_eq (Step i) (Step j) = i == j
sel_eq (Task i) (Task j) = i == j
sel_eq (Item i) (Item j) = i == j
sel_eq (Attempt i) (Attempt j) = i == j
sel_eq _ _ = false

abbrev pub sels_eq : List Sel → List Sel → Bool
sels_eq [] [] = true
sels_eq (a ∷ p) (b ∷ q) = sel_eq a b && sels_eq p q
sels_eq _ _ = false
