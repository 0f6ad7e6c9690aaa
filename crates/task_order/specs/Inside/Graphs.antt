-- Rows of places, gathered from the tasks of each name.
use Rattle.std.specs.Prelude.{◌≡◌, ℕ, List, [], ◌++◌, length, fold, replicate, Option, Some, None, slice_set}
use Rattle.depends_expr.specs.Truth.{add_names}
use Rattle.wf_manifest.specs.declared.calls.Task.{Task}
use Rattle.task_order.specs.Ancestors.{names}
use Rattle.task_order.specs.Orders.{place, places, waited, row}

abbrev pub with_more : List (List ℕ) → List ℕ → Option ℕ → List (List ℕ)
with_more waits more None = waits
with_more waits more (Some p) = slice_set waits p (row waits p ++ more)

-- the rows with what a task waits for
abbrev pub added : List (List ℕ) → List (List ℕ) → Task → List (List ℕ)
added table waits t = with_more waits (places table (waited t)) (place table t.call.name)

pub record IsGraph (tasks : List Task) (table : List (List ℕ)) (waits : List (List ℕ)) : Type 0 where
  pub table_is : table ≡ add_names [] (names tasks)
  pub waits_is : waits ≡ fold (added table) (replicate (length table) []) tasks
