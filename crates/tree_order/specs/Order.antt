-- The order of paths, in which the nodes of a tree stand.
use Rattle.std.specs.Prelude.{◌≡◌, List, [], ◌∷◌, Bool, true, false, nat_lt, map, if◌then◌else◌}
use Rattle.tree_types.specs.declared.path.Sel.{Sel}
use Rattle.tree_types.specs.declared.path.Sel.TheVariants.{Exit, Group, Step, Task, Item, Attempt}
use Rattle.tree_types.specs.declared.node.Node.{Node}
use Rattle.tree_types.specs.Places.{sel_eq}
use Rattle.wf_manifest.specs.declared.manifest.Manifest.{Manifest}
use Rattle.meaning.specs.Answers.{Sels, Answers}
use Rattle.meaning.specs.Trees.{lines, nodes_in}
use Rattle.growth.specs.Growth.{Among}

-- of two children of a node the first stands first: by their numbers, and the exit hook last
abbrev pub sel_before : Sel → Sel → Bool
sel_before (Group i) (Group j) = nat_lt i j
sel_before (Step i) (Step j) = nat_lt i j
sel_before (Task i) (Task j) = nat_lt i j
sel_before (Item i) (Item j) = nat_lt i j
sel_before (Attempt i) (Attempt j) = nat_lt i j
sel_before Exit s = false
sel_before s Exit = true
sel_before s t = false

-- a node stands before what is below it, and before what is below a later child of a node above it
abbrev pub path_before : Sels → Sels → Bool
path_before p [] = false
path_before [] (t ∷ q) = true
path_before (s ∷ p) (t ∷ q) = if sel_eq s t then path_before p q else sel_before s t

-- each of these stands before those behind it
abbrev pub InOrder : List Sels → Type 0
InOrder [] = Unit {0}
InOrder (p ∷ ps) = ((q : Sels) → Among q ps → path_before p q ≡ true) × InOrder ps

-- the paths of some nodes
abbrev pub paths_of : List Node → List Sels
paths_of ns = map (λ n. n.path.sels) ns

-- the nodes of a tree stand in the order of their paths
abbrev pub NodesInOrder : Type 0
NodesInOrder = (m : Manifest) (A : Answers) → InOrder (paths_of (nodes_in (lines m A)))
