-- What was said, and what is said of the rest, is what is said of the whole.
use Rattle.std.proofs.Common.{◌≡◌, ◌++◌, map, drop}
use Rattle.call_texts.specs.Inside.Params.{param_in}
use Rattle.call_texts.proofs.tops.params_said.Given as goal

abbrev pub invariant-loop-i : goal.invariant-loop-i
invariant-loop-i l = l.params ++ map (param_in l.scope) (drop l.i l.arguments) ≡ map (param_in l.scope) l.arguments
