use Rattle.store_client.proofs.Faults.{no_fault, one_fault}
use Rattle.store_client.proofs.Lawful.{tick_lawful}
use Rattle.store_client.proofs.mem_client.MemClientClient.tick.Goals as goal

pub returns-clause-lawful : goal.returns-clause-lawful
returns-clause-lawful g c =
    tick_lawful g.T.Content.begins g.T.Content.justified c.args.self.now.law.now g.T.Content.apply c.args.self.now.store.now.history c.tick-answer.new.self.history
    c.args.to c.tick-answer.result c.requires c.tick-answer.ensures.answer c.tick-answer.ensures.adds

pub returns-clause-still : goal.returns-clause-still
returns-clause-still g c = λ n.
    let f = no_fault g.O.Outage.faults g.O.Outage.most g.O.Outage.asked c.args.self.now.store.now c.tick-answer.new.self c.tick-answer.result c.tick-answer.ensures.outage c.tick-answer.ensures.row n in
    record { risen = f.risen; in_row = f.in_row }

pub returns-clause-rose : goal.returns-clause-rose
returns-clause-rose g c = λ e.
    let f = one_fault g.O.Outage.faults g.O.Outage.most g.O.Outage.asked c.args.self.now.store.now c.tick-answer.new.self c.tick-answer.result c.tick-answer.ensures.outage c.tick-answer.ensures.row e in
    record { risen = f.risen; in_row = f.in_row }
