-- The answers of the store's calls, each exactly where it comes.
use Rattle.std.specs.Prelude.{◌≡◌, ◌≢◌, ℕ, ◌+◌, ◌-◌, ◌<◌, ◌≤◌, Bool, true, false, List, [], length, slice_get, Option, Some, None, Result, Ok, Err, IsSome}
use Rattle.tree_types.specs.declared.entry.Key.{Key}
use Rattle.tree_types.specs.declared.entry.Entry.{Entry}
use Rattle.history.specs.History.{History, Event, Version, number_of, grown, IsVersionOf}
use Rattle.history.specs.Versions.{lowered}
use Rattle.object_store.specs.declared.line.Made.{Made}
use Rattle.object_store.specs.declared.snapshot.Snapshot.{Snapshot}
use Rattle.object_store.specs.declared.refused.StoreRefused.{StoreRefused}
use Rattle.object_store.specs.declared.refused.StoreRefused.TheVariants.{NoObject, Exists, Conflict, Behind, Fault, Memory}
use Rattle.object_store.specs.Versions.{made}

abbrev pub is_fault : {T : Type 0} → Result T StoreRefused → Bool
is_fault (Err Fault) = true
is_fault _ = false

-- the answer of a tick, of the clock
abbrev pub TickGives : ℕ → ℕ → Result Unit StoreRefused → Type 0
TickGives to clock (Ok _) = clock < to
TickGives to clock (Err (Behind told)) = (told ≡ clock) × (to ≤ clock)
TickGives to clock (Err Fault) = Unit {0}
TickGives to clock (Err Memory) = clock < to
TickGives to clock (Err _) = ⊥

module _ {C : Type 0} where
  abbrev pub snapshot : Key → ℕ → C → ℕ → Snapshot C
  snapshot key version content tick = record { key = key; version = version; content = content; tick = tick }

  -- the object stands as the snapshot shows it
  abbrev pub ShowsObject : Snapshot C → Option (Version C) → Type 0
  ShowsObject s object = object ≡ Some record { number = s.version; content = s.content }

  -- the answer of a get, of the clock and the key's object
  abbrev pub GetGives : Key → ℕ → Option (Version C) → Result (Snapshot C) StoreRefused → Type 0
  GetGives key clock object (Ok s) = ShowsObject s object × (s.key ≡ key) × (s.tick ≡ clock)
  GetGives key clock object (Err NoObject) = object ≡ None
  GetGives key clock object (Err Fault) = Unit {0}
  GetGives key clock object (Err Memory) = IsSome object
  GetGives key clock object (Err _) = ⊥

  -- the answer of a get of an older version, of the versions that the key's object had
  abbrev pub GetBackGives : Key → ℕ → List (Made C) → Result (Snapshot C) StoreRefused → Type 0
  GetBackGives key back versions (Ok s) =
      (slice_get versions (s.version - 1) ≡ Some (made s.content s.tick))
      × (s.version ≡ lowered (length versions) back) × (s.key ≡ key)
  GetBackGives key back versions (Err NoObject) = versions ≡ []
  GetBackGives key back versions (Err Fault) = Unit {0}
  GetBackGives key back versions (Err Memory) = versions ≢ []
  GetBackGives key back versions (Err _) = ⊥

  -- the answer of a create, of the clock and the key's object
  abbrev pub CreateGives : Key → C → ℕ → Option (Version C) → Result (Snapshot C) StoreRefused → Type 0
  CreateGives key content clock object (Ok s) = (object ≡ None) × (s ≡ snapshot key 1 content clock)
  CreateGives key content clock object (Err Exists) = IsSome object
  CreateGives key content clock object (Err Fault) = Unit {0}
  CreateGives key content clock object (Err Memory) = object ≡ None
  CreateGives key content clock object (Err _) = ⊥

  -- the answer of a write, of the clock and the key's object
  abbrev pub WriteGives : Snapshot C → C → ℕ → Option (Version C) → Result (Snapshot C) StoreRefused → Type 0
  WriteGives from next clock object (Ok s) =
      ShowsObject from object × (s ≡ snapshot from.key (from.version + 1) next clock)
  WriteGives from next clock object (Err (Conflict expected found)) =
      (expected ≡ from.version) × (found ≡ number_of object) × (expected < found)
  WriteGives from next clock object (Err Fault) = Unit {0}
  WriteGives from next clock object (Err Memory) = ShowsObject from object
  WriteGives from next clock object (Err _) = ⊥

  -- the history after a call: one entry more where it was accepted
  abbrev pub Adds : {T : Type 0} → History C → Event C → Result T StoreRefused → History C → Type 0
  Adds old e (Ok _) new = new ≡ grown old e
  Adds old e (Err _) new = new ≡ old

  -- the snapshot shows an object of the history, as it stood at some moment
  abbrev pub IsOf : (C → Entry → Option C) → Snapshot C → History C → Type 0
  IsOf apply s h = IsVersionOf apply h s.key s.version s.content s.tick
