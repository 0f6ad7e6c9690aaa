use Rattle.std.proofs.Common.{◌≡◌, ◌+◌, ◌==◌, true, arith, rules, subst, ◌≤◌, length}
use Rattle.std.specs.List.{list_any}
use Rattle.io_edge.specs.Outages.{Plan}
use Rattle.io_edge.proofs.Reached.{reached_most, reached_more, reached_next}
use Rattle.io_edge.proofs.outage.PlannedOutageOutage.pass.Goals as goal
use Rattle.io_edge.proofs.outage.PlannedOutageOutage.pass.Goals.{then-fails, else-fails}

pub invariant_of-self : goal.invariant_of-self
invariant_of-self c =
    let failing = c.self.inside.failing in
    let calls = c.self.inside.calls in
    let any : list_any (λ number. number == calls + 1) failing ≡ true = search rules in
    (omega (arith, c.self.invariant.0), omega (arith, reached_next failing calls any, c.self.invariant.1))

pub invariant_of-self-else-fails : goal.invariant_of-self-else-fails
invariant_of-self-else-fails c =
    (omega (arith, c.self.invariant.0), omega (arith, reached_more c.self.inside.failing c.self.inside.calls, c.self.invariant.1))

pub returns-then-self-clause-bound : goal.returns-then-self-clause-bound
returns-then-self-clause-bound c =
    let most = reached_most c.self.inside.failing c.self.inside.calls in
    subst (λ (p : Plan). p.faults ≤ length p.failing) c.self.view_is (omega (arith, most, c.self.invariant.1))

pub returns-clause-bound : goal.returns-clause-bound
returns-clause-bound c =
    let failing = c.self.inside.failing in
    let calls = c.self.inside.calls in
    let most = reached_most failing (calls + 1) in
    elim c.if-fails.branch [
      | then-fails w ↦
          let any : list_any (λ number. number == calls + 1) failing ≡ true = search rules in
          rw w.self-is (omega (arith, most, reached_next failing calls any, c.self.invariant.1))
      | else-fails w ↦ rw w.self-is (omega (arith, most, reached_more failing calls, c.self.invariant.1))
    ]
