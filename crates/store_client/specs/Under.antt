-- What contracts see of a store under a turn, and of a seat at such a turn.
use Rattle.std.specs.Prelude.{◌≡◌, ℕ, List, [], Option, Some, None}
use Rattle.tree_types.specs.declared.entry.Key.{Key}
use Rattle.history.specs.History.{History, Event}
use Rattle.object_store.specs.Stored.{Stored}
use Rattle.atomic_table.specs.Seated.{TableId}
use Rattle.store_turn.specs.Seats.{AsSeat}

-- a store, and the law of its history
pub record UnderLaw (C O L : Type 0) : Type 0 where
  pub store : Stored C O
  pub law : L

-- where a client under a turn calls from: the borrow of its seat, and the turn and the share of the seat
pub record AtTurn : Type 0 where
  pub borrow : ℕ
  pub turn : TableId
  pub share : ℕ

module _ {C L : Type 0} where
  abbrev pub start_in : Option (List (Key × C) × L) → List (Key × C)
  start_in None = []
  start_in (Some b) = b.0

  -- the history that a seat has seen
  abbrev pub seen_of : AsSeat (Event C) (List (Key × C) × L) → History C
  seen_of s = record { start = start_in s.base; events = s.seen }

  -- the seat is of a store under this law
  pub record LawIs (s : AsSeat (Event C) (List (Key × C) × L)) (law : L) : Type 0 where
    pub start : List (Key × C)
    pub base : s.base ≡ Some (start, law)
