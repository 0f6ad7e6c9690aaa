-- What a client's calls promise, of the histories that it has seen before and after. Each call is answered as the store
-- would answer it at one history, which goes on from what was seen.
use Rattle.std.specs.Prelude.{◌≡◌, ℕ, zero, suc, ◌+◌, ◌<◌, length, List, Option, None, Result}
use Rattle.tree_types.specs.declared.entry.Key.{Key}
use Rattle.tree_types.specs.declared.entry.Entry.{Entry}
use Rattle.tree_types.specs.declared.entry.Entry.TheVariants.{Tick}
use Rattle.history.specs.History.{History, Event, event, Extends, clock_of, version_at, Lawful}
use Rattle.history.specs.Sometime.{StillJustified}
use Rattle.object_store.specs.declared.snapshot.Snapshot.{Snapshot}
use Rattle.object_store.specs.declared.refused.StoreRefused.{StoreRefused}
use Rattle.object_store.specs.Versions.{versions}
use Rattle.object_store.specs.Answers.{GetGives, GetBackGives, CreateGives, WriteGives, TickGives, Adds}
use Rattle.object_store.specs.LawfulHistories.{IsLawful}

-- entries of others are what the history at which a call is answered has beyond what was seen
abbrev pub CountsOthers : {C : Type 0} → History C → History C → ℕ → ℕ → Type 0
CountsOthers seen at before after = after + length seen.events ≡ before + length at.events

module _ {C : Type 0} (apply : C → Entry → Option C) where
  -- a get without a lag gives what stands, any other an older version
  abbrev pub ReadGives : Key → ℕ → History C → Result (Snapshot C) StoreRefused → Type 0
  ReadGives key zero at r = GetGives key (clock_of at) (version_at apply at key) r
  ReadGives key (suc lag) at r = GetBackGives key (suc lag) (versions apply at key) r

  pub record Got
      (key : Key) (lag : ℕ) (seen : History C) (r : Result (Snapshot C) StoreRefused) (now : History C)
      (others_before others_now : ℕ) : Type 0 where
    pub later : Extends now seen
    pub others : CountsOthers seen now others_before others_now
    pub gives : ReadGives key lag now r

  -- an accepted call adds just its change behind that history
  pub record Created
      (key : Key) (content : C) (e : Event C) (seen : History C) (r : Result (Snapshot C) StoreRefused) (now : History C)
      (others_before others_now : ℕ) : Type 0 where
    pub at : History C
    pub later : Extends at seen
    pub others : CountsOthers seen at others_before others_now
    pub gives : CreateGives key content (clock_of at) (version_at apply at key) r
    pub adds : Adds at e r now

  pub record Wrote
      (from : Snapshot C) (next : C) (e : Event C) (seen : History C) (r : Result (Snapshot C) StoreRefused)
      (now : History C) (others_before others_now : ℕ) : Type 0 where
    pub at : History C
    pub later : Extends at seen
    pub others : CountsOthers seen at others_before others_now
    pub gives : WriteGives from next (clock_of at) (version_at apply at from.key) r
    pub adds : Adds at e r now

pub record Ticked
    {C : Type 0} (to : ℕ) (seen : History C) (r : Result Unit StoreRefused) (now : History C)
    (others_before others_now : ℕ) : Type 0 where
  pub at : History C
  pub later : Extends at seen
  pub others : CountsOthers seen at others_before others_now
  pub gives : TickGives to (clock_of at) r
  pub adds : Adds at (event (Tick to) None) r now

module _ {L C : Type 0} (begins : L → List (Key × C) → Type 0) (justified : L → History C → Event C → Type 0) (law : L) where
  -- The change is justified after every lawful history that goes on from what was seen, and in which the object has this
  -- version.
  abbrev pub WillBeJustified : (C → Entry → Option C) → History C → Key → ℕ → Event C → Type 0
  WillBeJustified apply seen key number e = begins law seen.start → StillJustified apply (justified law) seen key number e

  -- the same of a tick, while the clock is below it
  abbrev pub TickWillBeJustified : History C → ℕ → Type 0
  TickWillBeJustified seen to =
      begins law seen.start → (h : History C) → Extends h seen → Lawful (justified law) h → clock_of h < to →
      justified law h (event (Tick to) None)

  abbrev pub StaysLawful : History C → History C → Type 0
  StaysLawful seen now = IsLawful begins justified law seen → IsLawful begins justified law now
