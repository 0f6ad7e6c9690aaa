use Rattle.std.proofs.Common.{◌∙◌, ◌∷◌, ap, refl}
use Rattle.scopes.specs.Inside.Entries.{shown}
use Rattle.scopes.specs.Substitution.{value_in}
use Rattle.scopes.proofs.ValueIn.{inserted}
use Rattle.scopes.proofs.tags.Tags.add.Goals as goal

pub returns-clause-ok : goal.returns-clause-ok
returns-clause-ok c = λ q.
    let entries = c.self.inside.tags.entries in
    ap (λ es. value_in (shown es) q) c.in_ok-insert.ensures.entries
    ∙ inserted _ (λ a b. refl) entries c.in_ok-into_string.field-0 c.args.value q
    ∙ ap (λ t. value_in ((t, c.args.value) ∷ shown entries) q) c.in_ok-into_string.ensures
    ∙ ap (λ s. value_in ((c.args.tag, c.args.value) ∷ s) q) c.self.view_is
