-- What is kept of the kid's line, and then of its call.
use Rattle.tree_state.proofs.Sums.{kid_summed}
use Rattle.tree_state.proofs.state.Kid.sum.Goals as goal

pub returns-in_ok-both-in-Some : goal.returns-in_ok-both-in-Some
returns-in_ok-both-in-Some c =
    kid_summed c.args.self.now.line c.args.self.now.state c.in_ok-own-in-Some.own c.call_sum-call.result c.in_ok-both-in-Some.both c.in_ok-own-in-Some.ensures c.call_sum-call.ensures c.in_ok-both-in-Some.ensures
