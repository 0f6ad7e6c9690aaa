-- All stand before the position.
use Rattle.std.proofs.Common.{◌+◌, ◌≤◌, length, sym, arith}
use Rattle.meaning.specs.Lines.{lines_in}
use Rattle.tree_state.proofs.Positions.{pods_among, found_skips}
use Rattle.tree_state.proofs.state.State.find_pod_from.Goals as goal

pub returns-then-pods-from : goal.returns-then-pods-from
returns-then-pods-from g c =
    let all = pods_among (lines_in c.args.self.now) in
    let before : 0 + length all ≤ c.args.from = omega (arith, c.pods.ensures, c.if-pods-from.true) in
    sym (found_skips c.args.from (g.T.WantTest.accepts c.args.test.now) 0 all before)
