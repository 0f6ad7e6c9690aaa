use Rattle.std.proofs.Common.{◌++◌, ◌∷◌, [], sym, ap, ◌∙◌, subst}
use Rattle.indexmap.proofs.CallerLemmas.{insert_entry-new}
use Rattle.object_store.specs.Versions.{made}
use Rattle.object_store.specs.Inside.Changes.{Inserts}
use Rattle.object_store.proofs.Index.{inserted}
use Rattle.object_store.proofs.KeyTests.{key_eq, lookup-key_eq}
use Rattle.object_store.proofs.ledger.insert.Goals as goal

pub returns : goal.returns
returns g c =
    let es = c.args.objects.now.entries in
    let key = c.args.key in
    let first = made c.args.content c.args.tick in
    let new = insert_entry-new key_eq c.args.objects.now key c.new-line.result (lookup-key_eq key es ∙ c.requires.new) in
    subst (Inserts es key c.args.content c.args.tick) (sym (c.in-Ok.ensures.entries ∙ new ∙ ap (λ l. es ++ (key, l) ∷ []) c.new-line.ensures)) (inserted es key first c.requires.new)
