-- Which task of a DAG waits, in the end, for which, as a test (Argo, "DAG" and "Enhanced depends logic").
use Rattle.std.specs.Prelude.{ℕ, zero, suc, List, length, Bool, false, ◌&&◌, ◌||◌, bytes_eq}
use Rattle.std.specs.List.{list_any}
use Rattle.base_types.specs.Names.{is_among}
use Rattle.wf_manifest.specs.declared.calls.Task.{Task}
use Rattle.wf_manifest.specs.Valid.{waits_for}
use Rattle.task_order.specs.Ancestors.{names}

abbrev pub is_waiting : List ℕ → List ℕ → Task → Bool
is_waiting name other t = bytes_eq t.call.name name && is_among (waits_for t) other

-- a task of this name waits for a task of the other one
abbrev pub waits : List Task → List ℕ → List ℕ → Bool
waits tasks name other = is_among (names tasks) other && list_any (is_waiting name other) tasks

-- it waits for the ancestor, or for a task that has this ancestor, in so many steps at most
abbrev pub is_ancestor_within : ℕ → List Task → List ℕ → List ℕ → Bool
is_ancestor_within zero tasks ancestor name = false
is_ancestor_within (suc n) tasks ancestor name =
    waits tasks name ancestor || list_any (λ other. waits tasks name other && is_ancestor_within n tasks ancestor other) (names tasks)

-- no way that passes each task once has more steps than there are tasks
abbrev pub is_ancestor : List Task → List ℕ → List ℕ → Bool
is_ancestor tasks ancestor name = is_ancestor_within (length tasks) tasks ancestor name

-- some task is its own ancestor
abbrev pub has_circle : List Task → Bool
has_circle tasks = list_any (λ name. is_ancestor tasks name name) (names tasks)
