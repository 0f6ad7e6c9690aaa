-- A name that has a value keeps it.
use Rattle.std.proofs.Common.{Option, List, ℕ, Some, cond, ap, sym, ◌∙◌}
use Rattle.std.specs.Prelude.{is_some, bytes_eq}
use Rattle.scopes.specs.Substitution.{value_in}
use Rattle.call_texts.proofs.Given.{kept, given}
use Rattle.call_texts.proofs.inputs.give.Goals as goal

pub returns-then-contains_key : goal.returns-then-contains_key
returns-then-contains_key c = λ before holds q.
    let name = c.args.name.now in
    holds q ∙ kept before name c.args.value q (ap is_some (sym (holds name)) ∙ sym c.contains_key.ensures ∙ c.if-contains_key.true)

pub returns : goal.returns
returns c = λ before holds q.
    let name = c.args.name.now in
    let value = c.args.value in
    c.in_ok-insert.ensures.updates.0 q
    ∙ ap (λ (o : Option (List ℕ)). cond (bytes_eq c.in_ok-copy.field-0 q) (Some value) o) (holds q)
    ∙ ap (λ (n : List ℕ). cond (bytes_eq n q) (Some value) (value_in before q)) c.in_ok-copy.ensures
    ∙ given before name value q (ap is_some (sym (holds name)) ∙ sym c.contains_key.ensures ∙ c.if-contains_key.false)
