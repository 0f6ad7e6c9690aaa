-- When a suspended node ends (Argo, "Suspending"; field reference, `SuspendTemplate`).
-- The ticks of arming and of commands are this project's own.
use Rattle.std.specs.Prelude.{◌≡◌, ℕ, List, Bool, ◌&&◌, ◌||◌, nat_le, Option, None}
use Rattle.tree_types.specs.declared.phase.Phase.{Phase}
use Rattle.wf_manifest.specs.declared.templates.OutputDecl.{OutputDecl}
use Rattle.meaning.specs.declared.lines.Place.{Place}
use Rattle.meaning.specs.Outputs.{defaulted}
use Rattle.meaning.specs.Suspends.{suspend_by}

-- the phase of each suspended node that lacks no declared output
abbrev pub IsPhase : Bool → Bool → Phase → Type 0
IsPhase due resumed phase =
    (place : Place) (declared : List OutputDecl) (seconds armed : Option ℕ) → (defaulted declared).lack ≡ None →
    (suspend_by place declared seconds armed (due || resumed)).own.node.phase ≡ phase

-- a resumption reaches the nodes that were armed at its tick or before, once the clock has reached its tick
abbrev pub reaches : ℕ → ℕ → ℕ → Bool
reaches armed at clock = nat_le armed at && nat_le at clock
