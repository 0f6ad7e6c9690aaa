-- The tasks of a DAG in an order.
use Rattle.std.specs.Prelude.{◌≡◌, ◌≢◌, ℕ, suc, ◌<◌, List, [], ◌∷◌, length, take, get_or, slice_get, Option, Some, None, IfSome, option_map, bytes_eq, if◌then◌else◌}
use Rattle.std.specs.List.{All, AllByRecursion, AllPairs, Contains}
use Rattle.wf_manifest.specs.declared.calls.Task.{Task}
use Rattle.wf_manifest.specs.Valid.{waits_for}

-- the position of the first task of a name
abbrev pub first : List Task → List ℕ → Option ℕ
first [] n = None
first (t ∷ ts) n = if bytes_eq t.call.name n then Some 0 else option_map suc (first ts n)

-- the tasks that it waits for are among these positions, as far as there are such tasks
abbrev pub Follows : List Task → List ℕ → Task → Type 0
Follows ts before t = AllByRecursion (λ n. IfSome (first ts n) (Contains before)) (waits_for t)

-- all positions, each once and behind those that its task waits for
pub record IsOrder (ts : List Task) (order : List ℕ) : Type 0 where
  pub within : All (λ p. p < length ts) order
  pub whole : (p : ℕ) → p < length ts → Contains order p
  pub once : AllPairs ◌≢◌ order
  pub behind :
      (k : ℕ) (t : Task) → k < length order → slice_get ts (get_or order k 0) ≡ Some t → Follows ts (take k order) t
