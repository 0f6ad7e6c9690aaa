use Rattle.std.proofs.Common.{◌≡◌, take, map}
use Rattle.history_text.specs.Inside.Parts.{parts_of}
use Rattle.history_text.specs.Lines.{param_data}
use Rattle.history_text.proofs.parts.params_value.Given as goal

abbrev pub invariant-loop-param : goal.invariant-loop-param
invariant-loop-param l = parts_of l.items ≡ map param_data (take l.param-index l.params)
