-- The laws of snapshots and versions, by which callers go from one history to a longer one.
use Rattle.std.specs.Prelude.{◌≡◌, ℕ, ◌+◌, ◌≤◌, slice_get, Option, Some}
use Rattle.tree_types.specs.declared.entry.Key.{Key}
use Rattle.tree_types.specs.declared.entry.Entry.{Entry}
use Rattle.history.specs.History.{History, Event, Version, Extends, version_at, grown, Lawful, IsVersionOf}
use Rattle.object_store.specs.declared.line.Made.{Made}
use Rattle.object_store.specs.Versions.{versions, present}

-- what stands under the key of a snapshot: its version or a later one, and with the same number the same content
pub record Stands {C : Type 0} (object : Option (Version C)) (number : ℕ) (content : C) : Type 0 where
  pub now : Version C
  pub is_now : object ≡ Some now
  pub risen : number ≤ now.number
  pub same : now.number ≡ number → now.content ≡ content

abbrev pub SeenStands : Type 0 → Type 0
SeenStands C =
    (apply : C → Entry → Option C) (h : History C) (k : Key) (n : ℕ) (c : C) (t : ℕ) →
    IsVersionOf apply h k n c t → Stands (version_at apply h k) n c

-- a snapshot of a history is one of each longer history
abbrev pub StaysOf : Type 0 → Type 0
StaysOf C =
    (apply : C → Entry → Option C) (h g : History C) (k : Key) (n : ℕ) (c : C) (t : ℕ) →
    Extends g h → IsVersionOf apply h k n c t → IsVersionOf apply g k n c t

-- the present version is the last
abbrev pub LastIsPresent : Type 0 → Type 0
LastIsPresent C =
    (apply : C → Entry → Option C) (h : History C) (k : Key) → present (versions apply h k) ≡ version_at apply h k

-- each version that an object had is one of the history
abbrev pub EachWasThere : Type 0 → Type 0
EachWasThere C =
    (apply : C → Entry → Option C) (h : History C) (k : Key) (i : ℕ) (m : Made C) →
    slice_get (versions apply h k) i ≡ Some m → IsVersionOf apply h k (i + 1) m.content m.tick

-- a history goes on from itself, one entry more goes on from it, and what goes on from a longer one goes on from it
pub record GoesOn (C : Type 0) : Type 0 where
  pub itself : (h : History C) → Extends h h
  pub grows : (h : History C) (e : Event C) → Extends (grown h e) h
  pub later : (h k l : History C) → Extends h k → Extends k l → Extends h l

-- a lawful history with one justified entry more is lawful
abbrev pub GrowsLawful : {L C : Type 0} → (L → History C → Event C → Type 0) → Type 0
GrowsLawful {L} {C} justified =
    (law : L) (h : History C) (e : Event C) →
    Lawful (justified law) h → justified law h e → Lawful (justified law) (grown h e)
