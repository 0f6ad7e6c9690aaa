-- In which bucket of a table is what is filed under a text or a path.
use Rattle.std.specs.Prelude.{ℕ, ◌+◌, ◌*◌, ◌%◌, List, [], ◌∷◌}
use Rattle.tree_types.specs.declared.path.Sel.{Sel}
use Rattle.tree_types.specs.declared.path.Sel.TheVariants.{Main, Exit, Group, Step, Task, Item, Attempt}

-- how many there are
abbrev pub buckets : ℕ
buckets = 4096

abbrev pub code_of : Sel → ℕ
code_of Main = 1
code_of Exit = 2
code_of (Group i) = i + 401
code_of (Step i) = i + 809
code_of (Task i) = i + 1217
code_of (Item i) = i + 1627
code_of (Attempt i) = i + 2039

-- the bucket of what came before and a text behind it
abbrev pub with_text : ℕ → List ℕ → ℕ
with_text bucket [] = bucket
with_text bucket (b ∷ text) = with_text ((bucket * 2531 + b) % buckets) text

-- the bucket of what came before and selectors behind it
abbrev pub with_sels : ℕ → List Sel → ℕ
with_sels bucket [] = bucket
with_sels bucket (s ∷ sels) = with_sels ((bucket * 2531 + code_of s) % buckets) sels
