-- Tasks by the places of their names, and places in an order in which each stands behind those that it waits for.
use Rattle.std.specs.Prelude.{◌≢◌, ℕ, ◌<◌, List, [], length, take, Option, Some, None, position, bytes_eq, get_or}
use Rattle.std.specs.List.{All, AllPairs, Contains, filter_map}
use Rattle.depends_expr.specs.Expression.{Expression}
use Rattle.depends_expr.specs.Truth.{names_of}
use Rattle.wf_manifest.specs.declared.calls.Task.{Task}

-- the place of a name
abbrev pub place : List (List ℕ) → List ℕ → Option ℕ
place table name = position (bytes_eq name) table

-- the places of those that are in the table
abbrev pub places : List (List ℕ) → List (List ℕ) → List ℕ
places table ns = filter_map (place table) ns

-- what a task waits for, where an expression tells each name once
abbrev pub waited_in : Option Expression → Option (List (List ℕ)) → List (List ℕ)
waited_in (Some depends) dependencies = names_of depends
waited_in None (Some dependencies) = dependencies
waited_in None None = []

abbrev pub waited : Task → List (List ℕ)
waited t = waited_in t.depends t.dependencies

-- the places that a place waits for
abbrev pub row : List (List ℕ) → ℕ → List ℕ
row waits v = get_or waits v []

-- rows name places alone
abbrev pub AreWithin : List (List ℕ) → Type 0
AreWithin waits = All (All (λ d. d < length waits)) waits

-- a place waits for the goal, or for one that reaches it
pub data Reaches (waits : List (List ℕ)) (goal : ℕ) : ℕ → Type 0 where
  at_once : {v : ℕ} → Contains (row waits v) goal → Reaches waits goal v
  over : {v : ℕ} (u : ℕ) → Contains (row waits v) u → Reaches waits goal u → Reaches waits goal v

-- each place stands behind those that it waits for
abbrev pub StandsBehind : List (List ℕ) → List ℕ → Type 0
StandsBehind waits order =
    (k : ℕ) → k < length order → All (Contains (take k order)) (row waits (get_or order k 0))

-- all places, each once
pub record IsOrder (waits : List (List ℕ)) (order : List ℕ) : Type 0 where
  pub behind : StandsBehind waits order
  pub within : All (λ v. v < length waits) order
  pub whole : (v : ℕ) → v < length waits → Contains order v
  pub once : AllPairs ◌≢◌ order
