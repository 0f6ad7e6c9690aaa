-- The name at the position of this turn is found before those behind it.
use Rattle.std.proofs.Common.{arith}
use Rattle.wf_places.proofs.Positions.{table_step}
use Rattle.wf_places.proofs.names.positions_of.Goals as goal

pub loop-i-preserved : goal.loop-i-preserved
loop-i-preserved c = record {
  within = omega arith;
  found = table_step (λ name. name.now) c.loop-i.positions c.insert.new.self c.args.names.now c.loop-i.i c.index-names-i.result c.in_ok-name.name c.loop-i-test.true c.loop-i.invariant.within c.index-names-i.is c.in_ok-name.ensures c.in_ok-insert.ensures.updates.0 c.loop-i.invariant.found;
}
