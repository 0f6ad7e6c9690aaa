use Rattle.std.proofs.Common.{◌≡◌, Some, take, map}
use Rattle.serde_json.specs.View.{view}
use Rattle.history_text.specs.Inside.Reading.{all_of, param_of}
use Rattle.history_text.proofs.read_parts.params_of.Given as goal

abbrev pub invariant-loop-part : goal.invariant-loop-part
invariant-loop-part l = all_of param_of (map view (take l.part-index l.parts)) ≡ Some l.params
