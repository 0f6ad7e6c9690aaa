use Rattle.store_client.proofs.Lawful.{tick_lawful}
use Rattle.store_client.proofs.held.Held.tick.Goals as goal

pub invariant_of-self : goal.invariant_of-self
invariant_of-self g c =
    let was = c.self.inside in
    tick_lawful g.T.Content.begins g.T.Content.justified was.law.value g.T.Content.apply was.store.history c.tick.new.self.history
    c.args.to c.tick.result
    (rw (← c.self.view_is) at c.requires.justified) c.tick.ensures.answer c.tick.ensures.adds c.self.invariant

pub returns-clause-lawful : goal.returns-clause-lawful
returns-clause-lawful g c = invariant_of-self g c
