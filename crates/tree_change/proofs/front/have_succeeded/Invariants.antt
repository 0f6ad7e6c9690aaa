use Rattle.std.proofs.Common.{◌≡◌, drop}
use Rattle.meaning.specs.Steps.{steps_phase}
use Rattle.tree_change.proofs.front.have_succeeded.Given as goal

abbrev pub invariant-loop-state : goal.invariant-loop-state
invariant-loop-state l = steps_phase (drop l.state-index l.state-items) ≡ steps_phase l.state-items
