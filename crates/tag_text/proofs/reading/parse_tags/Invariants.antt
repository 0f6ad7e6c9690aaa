use Rattle.std.proofs.Common.{◌≡◌, length}
use denote.Text.{Utf8}
use denote.Shadow.{shadow}
use Rattle.tag_text.specs.Parts.{followed, parsed}
use Rattle.tag_text.proofs.reading.parse_tags.Given as goal

-- the parts so far and those of what is left are those of the whole
abbrev pub invariant-loop-before : goal.invariant-loop-before
invariant-loop-before l = shadow (Utf8 l.rest) × (followed l.parts (parsed l.rest) ≡ parsed l.fn.text)

abbrev pub decreases-loop-before : goal.decreases-loop-before
decreases-loop-before l = length l.rest
