-- A history stays lawful over the calls of a client.
use Rattle.std.proofs.Common.{◌≡◌, ℕ, ap, subst, sym}
use Rattle.std.specs.Prelude.{List, Option, None, Result, Ok, Err}
use Rattle.tree_types.specs.declared.entry.Key.{Key}
use Rattle.tree_types.specs.declared.entry.Entry.{Entry}
use Rattle.tree_types.specs.declared.entry.Entry.TheVariants.{Tick}
use Rattle.history.specs.History.{History, Event, event, number_of, grown, clock_of, version_at}
use Rattle.history.proofs.Extends.{extends_itself, lawful-grown}
use Rattle.object_store.specs.declared.snapshot.Snapshot.{Snapshot}
use Rattle.object_store.specs.declared.refused.StoreRefused.{StoreRefused}
use Rattle.object_store.specs.Answers.{CreateGives, WriteGives, TickGives, Adds}
use Rattle.object_store.specs.LawfulHistories.{IsLawful}
use Rattle.store_client.specs.Calls.{WillBeJustified, TickWillBeJustified, StaysLawful}

module _ {L C : Type 0} (begins : L → List (Key × C) → Type 0) (justified : L → History C → Event C → Type 0) (law : L) (apply : C → Entry → Option C) (h g : History C) where
  same : g ≡ h → StaysLawful begins justified law h g
  same adds lawful = subst (IsLawful begins justified law) (sym adds) lawful

  more : (e : Event C) → g ≡ grown h e → justified law h e → StaysLawful begins justified law h g
  more e adds j lawful = subst (IsLawful begins justified law) (sym adds) record { start = lawful.start; each = lawful-grown (justified law) h e lawful.each j }

  pub create_lawful : (k : Key) (c : C) (e : Event C) (r : Result (Snapshot C) StoreRefused) → WillBeJustified begins justified law apply h k 0 e → CreateGives k c (clock_of h) (version_at apply h k) r → Adds h e r g → StaysLawful begins justified law h g
  create_lawful k c e (Ok s) will gives adds lawful = more e adds (will lawful.start h (extends_itself h) lawful.each (ap number_of gives.0)) lawful
  create_lawful k c e (Err x) will gives adds lawful = same adds lawful

  pub write_lawful : (from : Snapshot C) (next : C) (e : Event C) (r : Result (Snapshot C) StoreRefused) → WillBeJustified begins justified law apply h from.key from.version e → WriteGives from next (clock_of h) (version_at apply h from.key) r → Adds h e r g → StaysLawful begins justified law h g
  write_lawful from next e (Ok s) will gives adds lawful = more e adds (will lawful.start h (extends_itself h) lawful.each (ap number_of gives.0)) lawful
  write_lawful from next e (Err x) will gives adds lawful = same adds lawful

  pub tick_lawful : (to : ℕ) (r : Result Unit StoreRefused) → TickWillBeJustified begins justified law h to → TickGives to (clock_of h) r → Adds h (event (Tick to) None) r g → StaysLawful begins justified law h g
  tick_lawful to (Ok s) will gives adds lawful = more (event (Tick to) None) adds (will lawful.start h (extends_itself h) lawful.each gives) lawful
  tick_lawful to (Err x) will gives adds lawful = same adds lawful
