-- The items that are left decide.
use Rattle.std.proofs.Common.{◌≡◌, drop}
use Rattle.std.specs.List.{list_all}
use Rattle.tree_types.specs.Phases.{is_failed}
use Rattle.meaning.specs.Lines.{Made}
use Rattle.row_states.proofs.looped.all_failed.Given as goal

abbrev pub invariant-loop-i : goal.invariant-loop-i
invariant-loop-i l =
    list_all (λ (m : Made). is_failed m.own.node.phase) (drop l.i l.states)
    ≡ list_all (λ (m : Made). is_failed m.own.node.phase) l.states
