-- What a get is answered that reads so many versions back.
use Rattle.std.specs.Prelude.{◌≡◌, ℕ, zero, suc, ◌-◌, List, length, Option, Some, None, slice_get}
use Rattle.tree_types.specs.declared.entry.Key.{Key}
use Rattle.history.specs.History.{Version, clock_of, version_at}
use Rattle.history.specs.Versions.{versions_of, lowered}
use Rattle.law.specs.Contents.{Content, apply, Story}
use Rattle.next_step.specs.Views.{Seen}
use Rattle.next_step.specs.Replies.{Reply, found, no_object, fault, seen}

-- a version as it is read at a tick
abbrev pub as_seen : Version Content → ℕ → Seen Content
as_seen v tick = seen v.number v.content tick

abbrev pub seen_at : ℕ → Option (Version Content) → Option (Seen Content)
seen_at tick None = None
seen_at tick (Some v) = Some (as_seen v tick)

-- the versions that an object had, oldest first, each with the clock when it was made
abbrev pub versions : Story → Key → List (Seen Content)
versions h k = versions_of apply as_seen h k

-- the object as it stands, with the clock; or the version that many back, but at least the first, with the tick at which
-- it was made
abbrev pub read_back : Story → Key → ℕ → Option (Seen Content)
read_back h k zero = seen_at (clock_of h) (version_at apply h k)
read_back h k (suc back) = slice_get (versions h k) (lowered (length (versions h k)) (suc back) - 1)

-- a get
abbrev pub GotBack : Story → ℕ → Key → Reply → Type 0
GotBack h back k (found x) = read_back h k back ≡ Some x
GotBack h back k no_object = version_at apply h k ≡ None
GotBack h back k fault = Unit {0}
GotBack h back k _ = ⊥
