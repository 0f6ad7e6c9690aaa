use Rattle.generator.proofs.OneDraw.{draws_more}
use Rattle.generator.proofs.draws.draw.Goals as goal

pub loop-position-preserved : goal.loop-position-preserved
loop-position-preserved c =
    draws_more c.loop-position.drawn c.push.new.self c.loop-position.state c.next-state.result c.loop-position.position c.args.size c.drawn_by.result _
    c.loop-position-test.true c.next-state.ensures c.drawn_by.ensures c.in_ok-push.ensures.ok c.loop-position.invariant
