use Rattle.std.proofs.Common.{◌∙◌}
use Rattle.call_nodes.specs.Endings.{ending}
use Rattle.call_nodes.proofs.DeclByDecl.{next_decl}
use Rattle.call_nodes.proofs.endings.ended_from.Goals as goal

pub loop-i-preserved : goal.loop-i-preserved
loop-i-preserved c =
    next_decl (ending c.loop-i.made) (ending c.add_from.new.made) c.args.source.now c.args.declared.now c.loop-i.i c.get.result.now c.get.ensures c.in_ok-add_from.ensures
    ∙ c.loop-i.invariant
