-- The items that are left decide.
use Rattle.std.proofs.Common.{◌≡◌, drop}
use Rattle.std.specs.List.{list_any}
use Rattle.tree_types.specs.Phases.{is_succeeded}
use Rattle.meaning.specs.Lines.{Made}
use Rattle.row_states.proofs.looped.any_succeeded.Given as goal

abbrev pub invariant-loop-i : goal.invariant-loop-i
invariant-loop-i l =
    list_any (λ (m : Made). is_succeeded m.own.node.phase) (drop l.i l.states)
    ≡ list_any (λ (m : Made). is_succeeded m.own.node.phase) l.states
