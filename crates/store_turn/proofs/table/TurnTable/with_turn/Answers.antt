use Rattle.std.proofs.Common.{rules, ap, ◌∙◌}
use Rattle.std.specs.Fn.{FnOnceReturnsAtMut}
use Rattle.store_turn.specs.Inside.Turns.{as_seat}
use Rattle.store_turn.proofs.Took.{begins_from, base_from, took_more, took_none, took_placed}
use Rattle.store_turn.proofs.table.TurnTable.with_turn.Goals as goal
use Rattle.store_turn.proofs.table.TurnTable.with_turn.Goals.{then-more, else-more}

pub work-result-requires-clause-grows : goal.work-result-requires-clause-grows
work-result-requires-clause-grows g c x r y e b gave =
    let list = g.T.Grows.list in
    let base = g.T.Grows.base in
    let v = c.args.seat.now.me.0 in
    let waited = c.wait.new.seat.me in
    let found = c.take.new.seat.me in
    c.requires.grows x r y
    (begins_from list base v waited found c.wait.ensures.served c.take.ensures.took_out x e)
    (base_from list base v waited found c.wait.ensures.served c.take.ensures.took_out x b)
    gave

pub returns-clause-took : goal.returns-clause-took
returns-clause-took g c =
    let list = g.T.Grows.list in
    let base = g.T.Grows.base in
    let v = c.args.seat.now.me.0 in
    let waited = c.wait.new.seat.me in
    let found = c.take.new.seat.me in
    let left = c.work-result.new.seat.me in
    let done = c.if-more.seat.me in
    let over = c.pass.new.seat.me in
    let gives = FnOnceReturnsAtMut g.F.FnOnce c.args.job in
    elim c.if-more.branch [
      | then-more w ↦ let e = w.commit.ensures.committed in
          took_more list base v waited found c.wait.ensures.served c.take.ensures.took_out gives c.work-result.result.0 c.work-result.result.1 left done over c.work-result.ensures.did c.pass.ensures.passed _ _ w.if-more.true record { value = e.value; out = e.out; now = ap (λ s. s.me) w.seat-is ∙ e.now }
      | else-more w ↦ took_none list base v waited found c.wait.ensures.served c.take.ensures.took_out gives c.work-result.result.0 c.work-result.result.1 left done over c.work-result.ensures.did c.pass.ensures.passed _ _ w.if-more.false (ap (λ s. s.me) w.seat-is)
    ]

pub returns-clause-rests : goal.returns-clause-rests
returns-clause-rests g c =
    let end = c.pass.ensures.passed in
    let gives = FnOnceReturnsAtMut g.F.FnOnce c.args.job in
    let old = as_seat c.args.seat.now.table_id c.args.seat.now.me.0 in
    let new = as_seat c.pass.new.seat.table_id c.pass.new.seat.me.0 in
    record {
      free = ap (λ m. m.1) end;
      no_ticket = ap (λ m. m.0.ticket) end;
      not_served = ap (λ m. m.0.served) end;
      not_read = ap (λ m. m.0.read) end;
      some_share = search rules;
      placed = took_placed g.T.Grows.list g.T.Grows.base gives old c.work-result.result.0 new (returns-clause-took g c) c.requires.rests.placed;
    }
