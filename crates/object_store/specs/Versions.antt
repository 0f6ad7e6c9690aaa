-- The versions that a ledger tells of an object, oldest first.
use Rattle.std.specs.Prelude.{ℕ, ◌+◌, List, [], ◌∷◌, length, Option, Some, None}
use Rattle.tree_types.specs.declared.entry.Key.{Key}
use Rattle.tree_types.specs.declared.entry.Entry.{Entry}
use Rattle.history.specs.History.{History, Version}
use Rattle.history.specs.Versions.{versions_of}
use Rattle.object_store.specs.declared.line.Made.{Made}

module _ {C : Type 0} where
  abbrev pub made : C → ℕ → Made C
  made content tick = record { content = content; tick = tick }

  -- its content, and the clock when it was made; its number is told by its place
  abbrev pub as_made : Version C → ℕ → Made C
  as_made v tick = made v.content tick

  abbrev pub last_of : Made C → List (Made C) → Made C
  last_of m [] = m
  last_of m (n ∷ ms) = last_of n ms

  -- the present one: the last of them, numbered by how many they are
  abbrev pub present : List (Made C) → Option (Version C)
  present [] = None
  present (m ∷ ms) = Some record { number = length ms + 1; content = (last_of m ms).content }

abbrev pub versions : {C : Type 0} → (C → Entry → Option C) → History C → Key → List (Made C)
versions apply h k = versions_of apply as_made h k
