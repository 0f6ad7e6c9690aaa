-- What is left of the text decides.
use Rattle.std.proofs.Common.{◌≡◌, drop}
use Rattle.wf_places.specs.Broken as broken
use Rattle.wf_places.proofs.broken.has_tag.Given as goal

abbrev pub invariant-loop-i : goal.invariant-loop-i
invariant-loop-i l = broken.has_tag (drop l.i l.text) ≡ broken.has_tag l.text
