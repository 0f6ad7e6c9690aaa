use Rattle.std.specs.Prelude.{Some}
use Rattle.history.specs.History.{event}
use Rattle.store_client.proofs.Lawful.{create_lawful}
use Rattle.store_client.proofs.held.Held.create.Goals as goal

pub invariant_of-self : goal.invariant_of-self
invariant_of-self g c =
    let was = c.self.inside in
    create_lawful g.T.Content.begins g.T.Content.justified was.law.value g.T.Content.apply was.store.history c.create.new.self.history
    c.args.key c.args.content (event c.args.change (Some c.args.content)) c.create.result
    (rw (← c.self.view_is) at c.requires.justified) c.create.ensures.answer c.create.ensures.adds c.self.invariant

pub returns-clause-lawful : goal.returns-clause-lawful
returns-clause-lawful g c = invariant_of-self g c
