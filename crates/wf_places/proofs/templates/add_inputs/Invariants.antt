-- The places so far, and those of the inputs that are left.
use Rattle.std.proofs.Common.{◌≡◌, ◌++◌, drop}
use Rattle.wf_places.specs.Places.{input_places}
use Rattle.wf_places.specs.Inside.Views.{around_of}
use Rattle.wf_places.proofs.templates.add_inputs.Given as goal

abbrev pub invariant-loop-i : goal.invariant-loop-i
invariant-loop-i l = l.out.items ++ input_places (around_of l.inside l.spot) l.inside.inputs l.at l.i (drop l.i l.inputs) ≡ l.initial.out.items ++ input_places (around_of l.inside l.spot) l.inside.inputs l.at 0 l.inputs
