-- Each node below this state stands in the whole.
use Rattle.tree_state.specs.Finding.{IsWithin}
use Rattle.tree_state.proofs.state.State.on_way.Given as goal

abbrev pub invariant-loop : goal.invariant-loop
invariant-loop l = IsWithin l.state l.self
