use Rattle.std.proofs.Common.{◌≡◌, length}
use denote.Text.{Utf8}
use denote.Shadow.{shadow}
use Rattle.tag_text.specs.Parts.{without_trailing_spaces}
use Rattle.tag_text.proofs.reading.trim_end.Given as goal

-- what is left has the same text between its spaces
abbrev pub invariant-loop-shorter : goal.invariant-loop-shorter
invariant-loop-shorter l = shadow (Utf8 l.rest) × (without_trailing_spaces l.rest ≡ without_trailing_spaces l.fn.text)

abbrev pub decreases-loop-shorter : goal.decreases-loop-shorter
decreases-loop-shorter l = length l.rest
