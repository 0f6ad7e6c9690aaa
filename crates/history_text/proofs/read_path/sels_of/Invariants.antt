use Rattle.std.proofs.Common.{◌≡◌, Some, take, map}
use Rattle.history_text.specs.Inside.Reading.{all_of, sel_of}
use Rattle.history_text.proofs.read_path.sels_of.Given as goal

abbrev pub invariant-loop-part : goal.invariant-loop-part
invariant-loop-part l = all_of sel_of (map (λ part. part.now) (take l.part-index l.parts)) ≡ Some l.sels
