-- The template at the position of this turn is found, before those behind it.
use Rattle.std.proofs.Common.{◌≡◌, suc, ◌-◌, arith}
use Rattle.tree_walk.proofs.Index.{index_more}
use Rattle.tree_walk.proofs.templates.index_of.Goals as goal

pub loop-i-preserved : goal.loop-i-preserved
loop-i-preserved c =
    let next : suc (c.loop-i.i - 1) ≡ c.loop-i.i = omega arith in
    record {
      within = omega arith;
      found = index_more c.loop-i.index c.insert.new.self c.args.manifest.now.templates c.loop-i.i (c.loop-i.i - 1) c.get.result.now c.in_ok-name.name next c.get.ensures c.in_ok-name.ensures c.in_ok-insert.ensures.updates.0 c.loop-i.invariant.found;
    }
