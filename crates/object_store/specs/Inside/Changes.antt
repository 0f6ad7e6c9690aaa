-- What changes the index of objects.
use Rattle.std.specs.Prelude.{◌≡◌, ℕ, ◌+◌, ◌<◌, cond, List, [], ◌∷◌, ◌++◌, Option, Some, Result, Ok, Err}
use Rattle.tree_types.specs.declared.entry.Key.{Key}
use Rattle.history.specs.Keys.{same_key}
use Rattle.history.specs.History.{Version, number_of}
use Rattle.object_store.specs.declared.line.Made.{Made}
use Rattle.object_store.specs.declared.line.Change.{Change}
use Rattle.object_store.specs.declared.snapshot.Snapshot.{Snapshot}
use Rattle.object_store.specs.declared.refused.StoreRefused.{StoreRefused}
use Rattle.object_store.specs.declared.refused.StoreRefused.TheVariants.{Conflict, Memory}
use Rattle.object_store.specs.Answers.{ShowsObject}
use Rattle.object_store.specs.Versions.{made}
use Rattle.object_store.specs.Inside.Rows.{Rows, OneMore, fresh}
use Rattle.object_store.specs.Inside.Lines.{line_at, firsts}

module _ {C : Type 0} where
  -- the key's object has one version more, which came so
  pub record Appends (old : List (Key × Rows C)) (key : Key) (m : Made C) (c : Change) (new : List (Key × Rows C)) : Type 0 where
    pub from : Rows C
    pub to : Rows C
    pub was : line_at old key ≡ Some from
    pub more : OneMore from m c to
    pub lines : (j : Key) → line_at new j ≡ cond (same_key j key) (Some to) (line_at old j)
    pub same : firsts new ≡ firsts old

  -- there is a new object, behind the others
  pub record Inserts (old : List (Key × Rows C)) (key : Key) (content : C) (tick : ℕ) (new : List (Key × Rows C)) : Type 0 where
    pub lines : (j : Key) → line_at new j ≡ cond (same_key j key) (Some (fresh (made content tick))) (line_at old j)
    pub behind : firsts new ≡ firsts old ++ (key, content) ∷ []

  -- the number that comes next, of the key's object
  abbrev pub NextGives : Snapshot C → Option (Version C) → Result ℕ StoreRefused → Type 0
  NextGives from object (Ok number) = ShowsObject from object × (number ≡ from.version + 1)
  NextGives from object (Err (Conflict expected found)) =
      (expected ≡ from.version) × (found ≡ number_of object) × (expected < found)
  NextGives from object (Err Memory) = ShowsObject from object
  NextGives from object (Err _) = ⊥
