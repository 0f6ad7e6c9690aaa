-- Calls at a store under a turn, each answered at one history.
use Rattle.std.specs.Prelude.{ℕ, Option, None, Result}
use Rattle.tree_types.specs.declared.entry.Key.{Key}
use Rattle.tree_types.specs.declared.entry.Entry.{Entry}
use Rattle.tree_types.specs.declared.entry.Entry.TheVariants.{Tick}
use Rattle.history.specs.History.{History, Event, event, Extends, clock_of, version_at}
use Rattle.object_store.specs.declared.snapshot.Snapshot.{Snapshot}
use Rattle.object_store.specs.declared.refused.StoreRefused.{StoreRefused}
use Rattle.object_store.specs.Answers.{WriteGives, CreateGives, TickGives, Adds}

module _ {C : Type 0} (apply : C → Entry → Option C) where
  -- a create is answered at one history, which goes on from what was seen; an accepted one adds just its entry
  pub record CreatedAt
      (k : Key) (c : C) (e : Event C) (seen : History C) (r : Result (Snapshot C) StoreRefused) (now : History C)
      : Type 0 where
    pub at : History C
    pub later : Extends at seen
    pub adds : Adds at e r now
    pub gives : CreateGives k c (clock_of at) (version_at apply at k) r

  -- so is a write
  pub record WroteAt
      (from : Snapshot C) (next : C) (e : Event C) (seen : History C) (r : Result (Snapshot C) StoreRefused)
      (now : History C) : Type 0 where
    pub at : History C
    pub later : Extends at seen
    pub adds : Adds at e r now
    pub gives : WriteGives from next (clock_of at) (version_at apply at from.key) r

-- and a tick
pub record TickedAt {C : Type 0} (to : ℕ) (seen : History C) (r : Result Unit StoreRefused) (now : History C) : Type 0 where
  pub at : History C
  pub later : Extends at seen
  pub adds : Adds at (event (Tick to) None) r now
  pub gives : TickGives to (clock_of at) r
