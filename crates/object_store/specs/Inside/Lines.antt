-- The index of objects, as what is kept of their versions by key.
use Rattle.std.specs.Prelude.{List, map, Option}
use Rattle.std.specs.Map.{lookup}
use Rattle.tree_types.specs.declared.entry.Key.{Key}
use Rattle.history.specs.Keys.{same_key}
use Rattle.object_store.specs.Inside.Rows.{Rows, first_of}

module _ {C : Type 0} where
  -- the line of a key's object
  abbrev pub line_at : List (Key × Rows C) → Key → Option (Rows C)
  line_at objects k = lookup (same_key k) objects

  -- the objects with their first contents, in the order in which they were made
  abbrev pub firsts : List (Key × Rows C) → List (Key × C)
  firsts objects = map (λ e. (e.0, (first_of e.1).content)) objects
