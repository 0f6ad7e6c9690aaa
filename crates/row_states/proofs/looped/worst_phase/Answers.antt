use Rattle.std.proofs.Common.{Some, sym, ap, ◌∙◌, arith}
use Rattle.tree_types.specs.declared.phase.Phase.{Phase}
use Rattle.tree_types.specs.Phases.{worst}
use Rattle.row_states.proofs.Turns.{worst_with}
use Rattle.row_states.proofs.looped.worst_phase.Goals as goal

pub loop-left-preserved : goal.loop-left-preserved
loop-left-preserved c = record {
  within = omega (arith, c.loop-left.invariant.within);
  told =
      worst_with c.args.states.now c.loop-left.left c.state.result.now c.loop-left.phase c.worst-phase.result c.loop-left-test.true (c.get.ensures ∙ ap Some (sym c.state.ensures))
      (c.worst-phase.ensures ∙ ap (λ (p : Phase). worst p c.loop-left.phase) c.phase.ensures) c.loop-left.invariant.told;
}
