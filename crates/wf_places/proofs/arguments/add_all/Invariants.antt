-- The places so far, and those of the arguments that are left.
use Rattle.std.proofs.Common.{◌≡◌, ◌++◌, drop}
use Rattle.wf_places.specs.Calls.{argument_places}
use Rattle.wf_places.specs.Inside.Views.{around_of}
use Rattle.wf_places.proofs.arguments.add_all.Given as goal

abbrev pub invariant-loop-i : goal.invariant-loop-i
invariant-loop-i l = l.out.items ++ argument_places (around_of l.inside l.spot) l.names l.at l.i (drop l.i l.arguments) ≡ l.initial.out.items ++ argument_places (around_of l.inside l.spot) l.names l.at 0 l.arguments
