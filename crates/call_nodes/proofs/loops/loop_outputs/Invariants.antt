-- The parameters so far, and those of the declared outputs that are left.
use Rattle.std.proofs.Common.{◌≡◌, ◌++◌, drop, map}
use Rattle.call_nodes.specs.Inside.Loops.{output}
use Rattle.call_nodes.proofs.loops.loop_outputs.Given as goal

abbrev pub invariant-loop-i : goal.invariant-loop-i
invariant-loop-i l =
    let os = map (λ o. o.now) l.items in
    l.params ++ map (output os) (drop l.i l.declared) ≡ map (output os) l.declared
