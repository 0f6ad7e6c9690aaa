-- What is carried over so far, and what the nodes that are left carry over.
use Rattle.std.proofs.Common.{◌≡◌, filter_map, take}
use Rattle.law.specs.Justified.{carried_by}
use Rattle.wf_object.proofs.carrying.carried_in.Given as goal

abbrev pub invariant-loop-node : goal.invariant-loop-node
invariant-loop-node l = l.facts ≡ filter_map (carried_by l.state.facts) (take l.node-index l.nodes)
