use Rattle.object_store.proofs.Shown.{created_is_of}
use Rattle.object_store.proofs.store.Store.create.Goals as goal

pub returns-clause-of : goal.returns-clause-of
returns-clause-of g c =
    created_is_of g.C.Content.apply c.self.inside.ledger c.create.new.self c.args.change c.args.key c.args.content c.create.result c.requires.entry c.create.ensures.answer c.create.ensures.adds
