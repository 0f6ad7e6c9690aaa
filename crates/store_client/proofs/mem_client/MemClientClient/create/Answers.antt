use Rattle.std.specs.Prelude.{Some}
use Rattle.history.specs.History.{event}
use Rattle.store_client.proofs.Faults.{no_fault, one_fault}
use Rattle.store_client.proofs.Lawful.{create_lawful}
use Rattle.store_client.proofs.mem_client.MemClientClient.create.Goals as goal

pub returns-clause-lawful : goal.returns-clause-lawful
returns-clause-lawful g c =
    create_lawful g.T.Content.begins g.T.Content.justified c.args.self.now.law.now g.T.Content.apply c.args.self.now.store.now.history c.create-answer.new.self.history
    c.args.key c.args.content (event c.args.change (Some c.args.content)) c.create-answer.result c.requires.justified c.create-answer.ensures.answer c.create-answer.ensures.adds

pub returns-clause-still : goal.returns-clause-still
returns-clause-still g c = λ n.
    let f = no_fault g.O.Outage.faults g.O.Outage.most g.O.Outage.asked c.args.self.now.store.now c.create-answer.new.self c.create-answer.result c.create-answer.ensures.outage c.create-answer.ensures.row n in
    record { risen = f.risen; in_row = f.in_row }

pub returns-clause-rose : goal.returns-clause-rose
returns-clause-rose g c = λ e.
    let f = one_fault g.O.Outage.faults g.O.Outage.most g.O.Outage.asked c.args.self.now.store.now c.create-answer.new.self c.create-answer.result c.create-answer.ensures.outage c.create-answer.ensures.row e in
    record { risen = f.risen; in_row = f.in_row }
