use Rattle.std.proofs.Common.{◌∙◌, ap, sym, nat_eq}
use Rattle.std.specs.Prelude.{codes}
use Rattle.std.specs.List.{starts_with}
use Rattle.wf_places.proofs.Positions.{all_left, tag_later}
use Rattle.wf_places.proofs.broken.has_tag.Goals as goal

pub loop-i-preserved : goal.loop-i-preserved
loop-i-preserved c =
    let text = c.args.text.now in
    let left = ap (λ t. starts_with nat_eq t (codes "{{")) (all_left text c.loop-i.i) in
    tag_later text c.loop-i.i 0 c.loop-i-test.true (sym left ∙ sym c.if-starts_with.ensures.value) ∙ c.loop-i.invariant
