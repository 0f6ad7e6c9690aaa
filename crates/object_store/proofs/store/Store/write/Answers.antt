use Rattle.object_store.proofs.Shown.{written_is_of}
use Rattle.object_store.proofs.store.Store.write.Goals as goal

pub returns-clause-of : goal.returns-clause-of
returns-clause-of g c =
    written_is_of g.C.Content.apply c.self.inside.ledger c.write.new.self c.args.change c.args.from.now c.args.next c.write.result c.requires.entry c.requires.leads c.write.ensures.answer c.write.ensures.adds
