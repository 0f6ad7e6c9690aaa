-- The snapshots that a job keeps, at most one of a key.
use Rattle.std.specs.Prelude.{List, Option}
use Rattle.std.specs.Map.{lookup}
use Rattle.tree_types.specs.declared.entry.Key.{Key}
use Rattle.history.specs.Keys.{same_key}
use Rattle.object_store.specs.declared.snapshot.Snapshot.{Snapshot}

-- the snapshot of a key
abbrev pub view_of : {C : Type 0} → List (Key × Snapshot C) → Key → Option (Snapshot C)
view_of views key = lookup (same_key key) views
