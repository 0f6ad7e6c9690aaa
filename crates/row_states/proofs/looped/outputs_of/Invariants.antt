-- The outputs so far, and those of the items that are left.
use Rattle.std.proofs.Common.{◌≡◌, ◌++◌, drop, Bor}
use Rattle.std.specs.Prelude.{map}
use Rattle.tree_types.specs.declared.outcome.Outputs.{Outputs}
use Rattle.meaning.specs.Lines.{Made}
use Rattle.row_states.proofs.looped.outputs_of.Given as goal

abbrev pub invariant-loop-i : goal.invariant-loop-i
invariant-loop-i l =
    map (λ (o : Bor Outputs). o.now) l.items.items ++ map (λ (m : Made). m.own.node.outputs) (drop l.i l.states)
    ≡ map (λ (m : Made). m.own.node.outputs) l.states
