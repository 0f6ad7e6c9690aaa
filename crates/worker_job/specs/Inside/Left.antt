-- What is left to be done of what a workflow asks for, by an object that was read.
use Rattle.std.specs.Prelude.{◌≡◌, Bool, List, Option, Some}
use Rattle.tree_types.specs.declared.want.Want.{Want}
use Rattle.tree_state.specs.declared.kinds.WantKind.{WantKind}
use Rattle.ahead.specs.Left.{AheadOf}
use Rattle.law.specs.Contents.{Flow}
use Rattle.law.specs.Justified.{wants_of}
use Rattle.next_step.specs.Views.{Seen}

-- of a workflow, by the object where it was read
pub record LeftOf {C : Type 0} (k : WantKind) (left : C → Want → Bool) (ahead : Option (List Want)) (f : Flow) (view : Option (Seen C)) : Type 0 where
  pub fits : (c : Seen C) → view ≡ Some c → AheadOf k (left c.content) ahead (wants_of f)

-- the same of the workflow, where it was read
abbrev pub LeftFits : {C : Type 0} → WantKind → (C → Want → Bool) → Option (List Want) → Option (Seen Flow) → Option (Seen C) → Type 0
LeftFits k left ahead flow view = (s : Seen Flow) → flow ≡ Some s → LeftOf k left ahead s.content view
