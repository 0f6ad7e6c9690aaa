-- The history that a ledger stands for, and what its fields keep of it.
use Rattle.std.specs.Prelude.{◌≡◌, ℕ, ◌+◌, cond, List, [], ◌∷◌, length, take, drop, Option, Some, None}
use Rattle.tree_types.specs.declared.entry.Key.{Key}
use Rattle.tree_types.specs.declared.entry.Entry.{Entry}
use Rattle.history.specs.History.{History, Event, event, clock_of}
use Rattle.object_store.specs.Entries.{is_making}
use Rattle.object_store.specs.Versions.{versions}
use Rattle.object_store.specs.Inside.Rows.{Rows, Held}

module _ {C : Type 0} where
  abbrev pub first_in : List (Key × C) → Option C
  first_in [] = None
  first_in (o ∷ os) = Some o.1

  abbrev pub rest_in : List (Key × C) → List (Key × C)
  rest_in [] = []
  rest_in (o ∷ os) = os

  -- the entries, each that makes an object with the next object's first content
  abbrev pub paired : List Entry → List (Key × C) → List (Event C)
  paired [] os = []
  paired (e ∷ es) os =
      cond (is_making e) (event e (first_in os) ∷ paired es (rest_in os)) (event e None ∷ paired es os)

  -- it began with the first objects, and its entries made the others
  abbrev pub history_of : ℕ → List (Key × C) → List Entry → History C
  history_of begun firsts entries = record { start = take begun firsts; events = paired entries (drop begun firsts) }

-- how many of them make an object
abbrev pub making_in : List Entry → ℕ
making_in [] = 0
making_in (e ∷ es) = cond (is_making e) (making_in es + 1) (making_in es)

module _ {C : Type 0} (apply : C → Entry → Option C) where
  -- each object that was not there at first was made by an entry, the versions of each object can be made again, and
  -- the clock is the history's
  pub record Kept (begun : ℕ) (firsts : List (Key × C)) (line : Key → Option (Rows C)) (entries : List Entry) (clock : ℕ) : Type 0 where
    pub counted : length firsts ≡ begun + making_in entries
    pub held : (k : Key) → Held apply entries (line k) (versions apply (history_of begun firsts entries) k)
    pub clock_is : clock ≡ clock_of (history_of begun firsts entries)
