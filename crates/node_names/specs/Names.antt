-- The names of nodes.
--
-- Argo shows a node's name in a workflow's status (field reference, NodeStatus), and forms it from the name of the node
-- above it as below. That a step is not called `onExit`, and that parentheses are dropped from an item's text, is this
-- project's own rule: it keeps the names of different nodes apart.
use Rattle.std.specs.Prelude.{◌≡◌, ◌≢◌, ℕ, ◌^◌, ◌<◌, Bool, true, ◌||◌, ◌&&◌, not, List, [], ◌∷◌, ◌++◌, Option, Some, None, codes, decimal, ◌==◌, bytes_eq, IsTrue}
use Rattle.std.specs.List.{list_all, AllByRecursion}
use Rattle.base_types.specs.Bytes.{is_name}
use Rattle.node_names.specs.declared.seg.Seg.{Seg}
use Rattle.node_names.specs.declared.seg.Seg.TheVariants.{Exit, Group, Call, Item, Attempt}

-- what stands in the name behind the name of the node above
abbrev pub suffix : Seg → List ℕ
suffix Exit = codes ".onExit"
suffix (Group i) = codes "[" ++ decimal i ++ codes "]"
suffix (Call name) = codes "." ++ name
suffix (Item i text) = codes "(" ++ decimal i ++ codes ":" ++ text ++ codes ")"
suffix (Attempt k) = codes "(" ++ decimal k ++ codes ")"

-- the name of the node that this way leads to
abbrev pub name_below : List ℕ → List Seg → List ℕ
name_below root [] = root
name_below root (seg ∷ way) = name_below (root ++ suffix seg) way

-- The name of a step or task, as a valid manifest has it: neither `onExit`, by which hooks are named, nor `hooks`. Its
-- grammar is this project's own; Argo asks that the names of a template's steps or tasks differ (field reference,
-- `WorkflowStep` and `DAGTask`).
abbrev pub is_step_name : List ℕ → Bool
is_step_name name = is_name name && not (bytes_eq name (codes "onExit")) && not (bytes_eq name (codes "hooks"))

abbrev pub is_no_parenthesis : ℕ → Bool
is_no_parenthesis b = not ((b == 40) || (b == 41))

-- a number of 32 bits, a name that is not `onExit`, and a text without a parenthesis
abbrev pub IsSound : Seg → Type 0
IsSound Exit = Unit {0}
IsSound (Group i) = i < 2 ^ 32
IsSound (Call name) = IsTrue (is_name name) × (name ≢ codes "onExit")
IsSound (Item i text) = (i < 2 ^ 32) × (list_all is_no_parenthesis text ≡ true)
IsSound (Attempt k) = k < 2 ^ 32

abbrev pub AreSound : List Seg → Type 0
AreSound way = AllByRecursion IsSound way

-- what stands where the way to a name is asked for: the way, and nothing where there is none
abbrev pub IsWay : List ℕ → List ℕ → Option (List Seg) → Type 0
IsWay root name None = (way : List Seg) → AreSound way → name_below root way ≢ name
IsWay root name (Some way) = AreSound way × (name_below root way ≡ name)
