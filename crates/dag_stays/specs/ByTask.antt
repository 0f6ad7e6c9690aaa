-- What the tasks of a DAG made, found among the calls below its node.
use Rattle.std.specs.Prelude.{◌≡◌, ◌⊎◌, ℕ, zero, suc, ◌==◌, nat_lt, List, [], ◌∷◌, Bool, false, Option, Some, None, if◌then◌else◌, slice_get}
use Rattle.tree_types.specs.declared.path.Sel.{Sel}
use Rattle.tree_types.specs.declared.path.Sel.TheVariants.{Task as task_sel}
use Rattle.meaning.specs.Lines.{Made, Parts}
use Rattle.tree_state.specs.Replacing.{call_at}

abbrev pub task_is : ℕ → Option Sel → Bool
task_is i (Some (task_sel n)) = n == i
task_is i _ = false

-- the node stands at task i below a path of so many selectors
abbrev pub is_of_task : ℕ → ℕ → Made → Bool
is_of_task depth i m = task_is i (slice_get m.own.node.path.sels depth)

abbrev pub task_before : ℕ → Option Sel → Bool
task_before i (Some (task_sel n)) = nat_lt n i
task_before i _ = false

-- the node stands at a task in front of task i
abbrev pub is_in_front : ℕ → ℕ → Made → Bool
is_in_front depth i m = task_before i (slice_get m.own.node.path.sels depth)

-- no call of a task up to this one stands behind so many
abbrev pub IsBound : Parts → ℕ → ℕ → Type 0
IsBound parts j n = (n ≡ suc j) ⊎ (call_at parts n ≡ None)

abbrev pub task_if : ℕ → ℕ → Option Made → Option Made
task_if depth i None = None
task_if depth i (Some m) = if is_of_task depth i m then Some m else None

abbrev pub one_if : Option Made → ℕ
one_if None = 0
one_if (Some m) = 1

-- by position, from task i on, where the calls stand in the order of their tasks
abbrev pub by_task : ℕ → ℕ → ℕ → List Made → List (Option Made)
by_task depth i zero ms = []
by_task depth i (suc n) [] = None ∷ by_task depth (suc i) n []
by_task depth i (suc n) (m ∷ ms) =
    if is_of_task depth i m
    then Some m ∷ by_task depth (suc i) n ms
    else None ∷ by_task depth (suc i) n (m ∷ ms)
