-- The places so far, and those of the outputs that are left.
use Rattle.std.proofs.Common.{◌≡◌, ◌++◌, drop}
use Rattle.wf_places.specs.Places.{output_places}
use Rattle.wf_places.specs.Inside.Views.{around_of}
use Rattle.wf_places.proofs.templates.add_all_outputs.Given as goal

abbrev pub invariant-loop-i : goal.invariant-loop-i
invariant-loop-i l = l.out.items ++ output_places (around_of l.inside l.spot) l.names l.at l.i (drop l.i l.outputs) ≡ l.initial.out.items ++ output_places (around_of l.inside l.spot) l.names l.at 0 l.outputs
