use Rattle.std.proofs.Common.{rules, ap, ◌∙◌, ◌++◌, ◌∷◌, []}
use Rattle.tag_text.specs.Parts.{followed, parsed}
use Rattle.tag_text.proofs.Parsed.{goes_on}
use Rattle.tag_text.proofs.reading.parse_tags.Goals as goal

pub loop-before-preserved : goal.loop-before-preserved
loop-before-preserved c =
    let tag = c.in_ok-tag.ensures (λ e. absurd (cc)) in
    let h = goes_on c.loop-before.parts c.loop-before.rest.now c.in-Some.before.now c.in-Some.more.now c.in-Some-cut_at.inside.now c.in-Some-cut_at.after.now c.in_ok-tag.tag _ c.in-Some.ensures.cut c.in-Some-cut_at.ensures.cut tag c.loop-before.invariant.1 in
    let before = c.in_ok-push_plain.ensures in
    let pushed = c.in_ok-push.ensures.ok in
    (search rules, ap (λ ps. followed ps (parsed c.in-Some-cut_at.after.now)) (pushed ∙ ap (λ ps. ps ++ c.in_ok-tag.tag ∷ []) before) ∙ h)
