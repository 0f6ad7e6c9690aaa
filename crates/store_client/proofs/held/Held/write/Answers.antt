use Rattle.std.specs.Prelude.{None}
use Rattle.history.specs.History.{event}
use Rattle.store_client.proofs.Lawful.{write_lawful}
use Rattle.store_client.proofs.held.Held.write.Goals as goal

pub invariant_of-self : goal.invariant_of-self
invariant_of-self g c =
    let was = c.self.inside in
    write_lawful g.T.Content.begins g.T.Content.justified was.law.value g.T.Content.apply was.store.history c.write.new.self.history
    c.args.from.now c.args.next (event c.args.change None) c.write.result
    (rw (← c.self.view_is) at c.requires.justified) c.write.ensures.answer c.write.ensures.adds c.self.invariant

pub returns-clause-lawful : goal.returns-clause-lawful
returns-clause-lawful g c = invariant_of-self g c
