-- The laws that carry over histories, for any properties of them and any rules by which entries are justified.
use Rattle.std.specs.Prelude.{◌≤◌, List, []}
use Rattle.tree_types.specs.declared.entry.Key.{Key}
use Rattle.history.specs.History.{History, Event, Extends, grown, clock_of, Lawful}
use Rattle.history.specs.Sometime.{Sometime, Stood, TicksRise}

-- a store before its first entry
abbrev pub empty : {C : Type 0} → List (Key × C) → History C
empty start = record { start = start; events = [] }

-- the property stays with each justified entry
abbrev pub StaysWithEach : {C : Type 0} → (History C → Event C → Type 0) → (History C → Type 0) → Type 0
StaysWithEach {C} justified P =
    (k : History C) (e : Event C) → Lawful justified k → justified k e → P k → P (grown k e)

-- what held at some moment of a history held at some moment of each longer one
abbrev pub SometimeLater : {A C : Type 0} → (A → History C → Type 0) → Type 0
SometimeLater {A} {C} P = (a : A) (h g : History C) → Extends g h → Sometime (P a) h → Sometime (P a) g

-- ---- for each of some laws

module _ {L C : Type 0} (justified : L → History C → Event C → Type 0) where
  -- what begins a lawful history is lawful
  abbrev pub BeginsLawful : Type 0
  BeginsLawful =
      (law : L) (h k : History C) → Extends h k → Lawful (justified law) h → Lawful (justified law) k

  -- each entry of a lawful history was justified when it was accepted
  abbrev pub WasJustified : Type 0
  WasJustified =
      (law : L) (h k : History C) (e : Event C) → Stood h k e → Lawful (justified law) h → justified law k e

  -- where each tick is above the clock, the clock never falls
  abbrev pub ClockRises : Type 0
  ClockRises =
      (law : L) → TicksRise (justified law) →
      (h k : History C) → Extends h k → Lawful (justified law) h → clock_of k ≤ clock_of h

  module _ {A : Type 0} (P : A → History C → Type 0) where
    -- what holds at the start and stays with each entry holds of each lawful history
    abbrev pub ByEntries : Type 0
    ByEntries =
        (law : L) (a : A) → StaysWithEach (justified law) (P a) →
        (h : History C) → Lawful (justified law) h → P a (empty h.start) → P a h

    -- and what held at a moment holds of each longer lawful history
    abbrev pub GoesOnward : Type 0
    GoesOnward =
        (law : L) (a : A) → StaysWithEach (justified law) (P a) →
        (h k : History C) → Extends h k → Lawful (justified law) h → P a k → P a h
