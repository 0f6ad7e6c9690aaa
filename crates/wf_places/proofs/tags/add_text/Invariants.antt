-- The places so far, and those of the parts that are left.
use Rattle.std.proofs.Common.{◌≡◌, ◌++◌, drop}
use Rattle.wf_places.specs.Tags.{text_places}
use Rattle.wf_places.specs.Inside.Views.{around_of}
use Rattle.wf_places.proofs.tags.add_text.Given as goal

abbrev pub invariant-loop-i : goal.invariant-loop-i
invariant-loop-i l = l.out.items ++ text_places (around_of l.inside l.spot) l.path (drop l.i l.text) ≡ l.initial.out.items ++ text_places (around_of l.inside l.spot) l.path l.text
