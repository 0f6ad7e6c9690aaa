use Rattle.std.specs.Prelude.{None}
use Rattle.history.specs.History.{event}
use Rattle.store_client.proofs.Faults.{no_fault, one_fault}
use Rattle.store_client.proofs.Lawful.{write_lawful}
use Rattle.store_client.proofs.mem_client.MemClientClient.write.Goals as goal

pub returns-clause-lawful : goal.returns-clause-lawful
returns-clause-lawful g c =
    write_lawful g.T.Content.begins g.T.Content.justified c.args.self.now.law.now g.T.Content.apply c.args.self.now.store.now.history c.write-answer.new.self.history
    c.args.from.now c.args.next (event c.args.change None) c.write-answer.result c.requires.justified c.write-answer.ensures.answer c.write-answer.ensures.adds

pub returns-clause-still : goal.returns-clause-still
returns-clause-still g c = λ n.
    let f = no_fault g.O.Outage.faults g.O.Outage.most g.O.Outage.asked c.args.self.now.store.now c.write-answer.new.self c.write-answer.result c.write-answer.ensures.outage c.write-answer.ensures.row n in
    record { risen = f.risen; in_row = f.in_row }

pub returns-clause-rose : goal.returns-clause-rose
returns-clause-rose g c = λ e.
    let f = one_fault g.O.Outage.faults g.O.Outage.most g.O.Outage.asked c.args.self.now.store.now c.write-answer.new.self c.write-answer.result c.write-answer.ensures.outage c.write-answer.ensures.row e in
    record { risen = f.risen; in_row = f.in_row }
