-- Each request has a state.
use Rattle.std.proofs.Common.{arith}
use Rattle.sync_locks.proofs.Stands.{length_seen}
use Rattle.sync_locks.proofs.requests.Requests.len.Goals as goal

pub returns : goal.returns
returns c = omega (arith, c.len.ensures, length_seen c.self.inside.asked c.self.inside.states c.args.self.now c.self.invariant.kept.each_stands c.self.view_is)
