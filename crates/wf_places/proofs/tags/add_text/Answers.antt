use Rattle.wf_places.specs.Inside.Views.{around_of}
use Rattle.tag_text.specs.Pieces.{part_of}
use Rattle.wf_places.specs.Tags.{text_places}
use Rattle.std.proofs.Common.{◌++◌}
use Rattle.wf_places.proofs.Positions.{text_more}
use Rattle.wf_places.proofs.tags.add_text.Goals as goal

pub loop-i-preserved : goal.loop-i-preserved
loop-i-preserved c = text_more (around_of c.args.inside.now c.args.spot) c.args.path.now c.args.text.now c.loop-i.i (part_of c.piece.result) c.loop-i.out.items c.add_piece.new.out.items (c.args.out.now.items ++ text_places (around_of c.args.inside.now c.args.spot) c.args.path.now c.args.text.now) c.piece.ensures c.in_ok-add_piece.ensures c.loop-i.invariant
