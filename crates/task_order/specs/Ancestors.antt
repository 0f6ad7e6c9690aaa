-- Which task of a DAG waits, in the end, for which (Argo, "DAG" and "Enhanced depends logic").
use Rattle.std.specs.Prelude.{◌≡◌, ℕ, List, IsTrue, map}
use Rattle.std.specs.List.{Contains}
use Rattle.base_types.specs.Names.{is_among}
use Rattle.wf_manifest.specs.declared.calls.Task.{Task}
use Rattle.wf_manifest.specs.Valid.{waits_for}

abbrev pub names : List Task → List (List ℕ)
names tasks = map (λ t. t.call.name) tasks

-- a task of this name waits for a task of the other one
pub record Waits (tasks : List Task) (other name : List ℕ) : Type 0 where
  pub task : Task
  pub among : Contains tasks task
  pub is : task.call.name ≡ name
  pub waits : Contains (waits_for task) other
  pub there : IsTrue (is_among (names tasks) other)

-- it waits for the ancestor, or for a task that has this ancestor
pub data IsAncestor (tasks : List Task) (ancestor : List ℕ) : List ℕ → Type 0 where
  parent : {name : List ℕ} → Waits tasks ancestor name → IsAncestor tasks ancestor name
  above : {name : List ℕ} (other : List ℕ) →
      Waits tasks other name → IsAncestor tasks ancestor other → IsAncestor tasks ancestor name

-- some task is its own ancestor
abbrev pub HasOwnAncestor : List Task → Type 0
HasOwnAncestor tasks = (name : List ℕ) × IsAncestor tasks name name
