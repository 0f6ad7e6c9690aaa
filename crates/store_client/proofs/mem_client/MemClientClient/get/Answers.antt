use Rattle.std.proofs.Common.{◌≡◌, ◌≤◌, subst}
use Rattle.object_store.specs.Stored.{FailedBy}
use Rattle.store_client.proofs.Faults.{no_fault, one_fault, never_falls}
use Rattle.store_client.proofs.mem_client.MemClientClient.get.Goals as goal
use Rattle.store_client.proofs.mem_client.MemClientClient.get.Goals.{then-lag-eq0, else-lag-eq0}

pub returns-clause-faults : goal.returns-clause-faults
returns-clause-faults g c =
    let faults = g.O.Outage.faults in
    let from = c.take_lag-lag.new.self.store.now in
    let store = c.take_lag-lag.ensures.store in
    elim c.if-lag-eq0.branch [
      | then-lag-eq0 w ↦
          rw w.self-is (subst (λ s. faults s.outage ≤ faults w.get-answer.new.self.outage) store (never_falls faults g.O.Outage.most g.O.Outage.asked from w.get-answer.new.self w.get-answer.result w.get-answer.ensures.outage w.get-answer.ensures.row))
      | else-lag-eq0 w ↦
          rw w.self-is (subst (λ s. faults s.outage ≤ faults w.get_back-answer.new.self.outage) store (never_falls faults g.O.Outage.most g.O.Outage.asked from w.get_back-answer.new.self w.get_back-answer.result w.get_back-answer.ensures.outage w.get_back-answer.ensures.row))
    ]

pub returns-clause-still : goal.returns-clause-still
returns-clause-still g c =
    let faults = g.O.Outage.faults in
    let from = c.take_lag-lag.new.self.store.now in
    let store = c.take_lag-lag.ensures.store in
    elim c.if-lag-eq0.branch [
      | then-lag-eq0 w ↦
          rw (w.self-is, w.answer-is) (λ n.
          let f = subst (λ s. FailedBy (λ x. faults x.outage) (λ x. x.row) 0 s w.get-answer.new.self) store (no_fault faults g.O.Outage.most g.O.Outage.asked from w.get-answer.new.self w.get-answer.result w.get-answer.ensures.outage w.get-answer.ensures.row n) in
          record { risen = f.risen; in_row = f.in_row })
      | else-lag-eq0 w ↦
          rw (w.self-is, w.answer-is) (λ n.
          let f = subst (λ s. FailedBy (λ x. faults x.outage) (λ x. x.row) 0 s w.get_back-answer.new.self) store (no_fault faults g.O.Outage.most g.O.Outage.asked from w.get_back-answer.new.self w.get_back-answer.result w.get_back-answer.ensures.outage w.get_back-answer.ensures.row n) in
          record { risen = f.risen; in_row = f.in_row })
    ]

pub returns-clause-rose : goal.returns-clause-rose
returns-clause-rose g c =
    let faults = g.O.Outage.faults in
    let from = c.take_lag-lag.new.self.store.now in
    let store = c.take_lag-lag.ensures.store in
    elim c.if-lag-eq0.branch [
      | then-lag-eq0 w ↦
          rw (w.self-is, w.answer-is) (λ e.
          let f = subst (λ s. FailedBy (λ x. faults x.outage) (λ x. x.row) 1 s w.get-answer.new.self) store (one_fault faults g.O.Outage.most g.O.Outage.asked from w.get-answer.new.self w.get-answer.result w.get-answer.ensures.outage w.get-answer.ensures.row e) in
          record { risen = f.risen; in_row = f.in_row })
      | else-lag-eq0 w ↦
          rw (w.self-is, w.answer-is) (λ e.
          let f = subst (λ s. FailedBy (λ x. faults x.outage) (λ x. x.row) 1 s w.get_back-answer.new.self) store (one_fault faults g.O.Outage.most g.O.Outage.asked from w.get_back-answer.new.self w.get_back-answer.result w.get_back-answer.ensures.outage w.get_back-answer.ensures.row e) in
          record { risen = f.risen; in_row = f.in_row })
    ]
