use Rattle.depends_expr.specs.Truth.{names_of}
use Rattle.wf_places.specs.Tags.{call_names}
use Rattle.wf_places.proofs.Positions.{known_more}
use Rattle.wf_places.proofs.dags.all_named.Goals as goal

pub loop-i-preserved : goal.loop-i-preserved
loop-i-preserved c = known_more (call_names c.args.known.now) (names_of c.args.depends.now) c.loop-i.i c.name.result.now c.loop-i.all c.in_ok-one.one c.both-all.result c.name.ensures c.in_ok-one.ensures c.both-all.ensures c.loop-i.invariant
