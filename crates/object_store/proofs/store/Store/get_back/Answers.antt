use Rattle.std.proofs.Common.{subst, ap, IfOk}
use Rattle.object_store.specs.Answers.{IsOf}
use Rattle.object_store.proofs.Shown.{back_is_of}
use Rattle.object_store.proofs.store.Store.get_back.Goals as goal

pub returns-clause-of : goal.returns-clause-of
returns-clause-of g c =
    subst (λ h. IfOk c.get_back.result (λ s. IsOf g.C.Content.apply s h)) (ap (λ w. w.history) c.self.view_is)
    (back_is_of g.C.Content.apply c.self.inside.ledger c.args.key.now c.args.back c.get_back.result c.get_back.ensures.answer)
