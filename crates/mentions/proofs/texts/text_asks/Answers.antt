-- One part more is looked at.
use Rattle.std.proofs.Common.{sym, ◌∙◌}
use Rattle.tag_text.specs.Pieces.{part_of}
use Rattle.mentions.specs.Mentions.{part_asks, text_asks}
use Rattle.mentions.proofs.Looked.{any_here, any_later}
use Rattle.mentions.proofs.texts.text_asks.Goals as goal

pub returns-then-piece_asks : goal.returns-then-piece_asks
returns-then-piece_asks c =
    let prefix = c.args.prefix.now in
    let text = c.args.text.now in
    any_here (part_asks prefix) text c.loop-i.i (part_of c.piece.result) (text_asks prefix text) c.piece.ensures
    (sym c.piece_asks.ensures ∙ c.if-piece_asks.true) c.loop-i.invariant

pub loop-i-preserved : goal.loop-i-preserved
loop-i-preserved c =
    let prefix = c.args.prefix.now in
    let text = c.args.text.now in
    any_later (part_asks prefix) text c.loop-i.i (part_of c.piece.result) (text_asks prefix text) c.piece.ensures
    (sym c.piece_asks.ensures ∙ c.if-piece_asks.false) c.loop-i.invariant
