-- What an answer of a call tells of what is meant.
use Rattle.std.specs.Prelude.{◌≡◌, List, Bool, true, false, Option, Some, None, Result, Ok, Err}
use Rattle.tree_types.specs.declared.phase.Phase.TheVariants.{Skipped, Error}
use Rattle.tree_types.specs.declared.node.Kind.{Kind}
use Rattle.tree_types.specs.declared.node.Kind.TheVariants as kind
use Rattle.tree_types.specs.declared.node.Note.TheVariants as note
use Rattle.tag_text.specs.declared.part.Part.{Part}
use Rattle.scopes.specs.Substitution.{Found, Scope}
use Rattle.meaning.specs.declared.lines.Place.{Place}
use Rattle.meaning.specs.Lines.{Made, alone}
use Rattle.meaning.specs.Calls.{stopped_before_loop, stopped_at_item}
use Rattle.call_texts.specs.declared.halt.Halt.{Halt}
use Rattle.call_texts.specs.declared.halt.Halt.TheVariants.{Fault, Memory}

-- the fault is the one that is meant; want of memory tells nothing
abbrev pub Halts : {A : Type 0} → Halt → Found A → Type 0
Halts (Fault fault) meant = meant ≡ Err fault
Halts Memory meant = Unit {0}

-- the value is the one that is meant, or else the fault
abbrev pub Says : {A : Type 0} → Result A Halt → Found A → Type 0
Says (Ok x) meant = meant ≡ Ok x
Says (Err halt) meant = Halts halt meant

-- a value is meant, and this one stands for it
pub record StandsFor {A B : Type 0} (Is : A → B → Type 0) (x : A) (meant : Found B) : Type 0 where
  pub value : B
  pub found : meant ≡ Ok value
  pub stands : Is x value

-- the value stands for the one that is meant, or else the fault is that which is meant
abbrev pub Tells : {A B : Type 0} → (A → B → Type 0) → Result A Halt → Found B → Type 0
Tells Is (Ok x) meant = StandsFor Is x meant
Tells Is (Err halt) meant = Halts halt meant

-- ---- conditions

-- the node that stands in the place of a call, for each of its items or before its loop
abbrev pub stopped_when : Bool → Place → Kind → Scope → Option (List Part) → Option Made
stopped_when true = stopped_at_item
stopped_when false = stopped_before_loop

-- the call goes on, or the node that stands in its place is the one that is meant
abbrev pub Stops : Place → Kind → Result Bool Halt → Option Made → Type 0
Stops place k (Ok true) stop = stop ≡ None
Stops place k (Ok false) stop = stop ≡ Some (alone place kind.Skipped Skipped note.WhenFalse)
Stops place k (Err (Fault fault)) stop = stop ≡ Some (alone place k Error fault)
Stops place k (Err Memory) stop = Unit {0}
