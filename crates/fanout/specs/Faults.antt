-- What an answer of a call tells of what is meant.
use Rattle.std.specs.Prelude.{◌≡◌, Result, Ok, Err}
use Rattle.tree_types.specs.declared.node.Note.TheVariants as note
use Rattle.fanout.specs.declared.refused.FanRefused.{FanRefused}
use Rattle.fanout.specs.declared.refused.FanRefused.TheVariants.{NotList, BadItem, BadNumber, BadFormat, TooManyItems, Unresolved, Memory}
use Rattle.scopes.specs.Substitution.{Found}

-- the value or the fault is the one that is meant; want of memory tells nothing
abbrev pub Tells : {A B : Type 0} → (A → B) → Result A FanRefused → Found B → Type 0
Tells see (Ok x) meant = meant ≡ Ok (see x)
Tells see (Err NotList) meant = meant ≡ Err note.NotList
Tells see (Err BadItem) meant = meant ≡ Err note.BadItem
Tells see (Err BadNumber) meant = meant ≡ Err note.BadNumber
Tells see (Err BadFormat) meant = meant ≡ Err note.BadFormat
Tells see (Err TooManyItems) meant = meant ≡ Err note.TooManyItems
Tells see (Err (Unresolved tag)) meant = meant ≡ Err (note.Unresolved tag)
Tells see (Err Memory) meant = Unit {0}
