-- One part more is looked at.
use Rattle.std.proofs.Common.{sym, ◌∙◌}
use Rattle.tag_text.specs.Pieces.{part_of}
use Rattle.scopes.specs.Substitution.{has_item_tag}
use Rattle.call_texts.proofs.Reading.{tag_here, tag_later}
use Rattle.call_texts.proofs.conditions.has_item_tag.Goals as goal

pub returns-then-is_item_tag : goal.returns-then-is_item_tag
returns-then-is_item_tag c =
    let text = c.args.text.now in
    tag_here text c.loop-i.i (part_of c.piece.result) (has_item_tag text) c.piece.ensures (sym c.is_item_tag.ensures ∙ c.if-is_item_tag.true) c.loop-i.invariant

pub loop-i-preserved : goal.loop-i-preserved
loop-i-preserved c =
    let text = c.args.text.now in
    tag_later text c.loop-i.i (part_of c.piece.result) (has_item_tag text) c.piece.ensures (sym c.is_item_tag.ensures ∙ c.if-is_item_tag.false) c.loop-i.invariant
