use Rattle.std.proofs.Common.{◌≡◌, ◌++◌, ◌∙◌, subst, codes, List, ℕ, OnOk}
use Rattle.scopes.specs.Substitution.{parameter_tags}
use Rattle.scopes.specs.Values.{HasValuesOf}
use Rattle.call_nodes.proofs.tagging.add_outputs.Goals as goal

pub returns : goal.returns
returns c =
    let prefix : c.as_str.result.now ≡ c.args.label.now ++ codes ".outputs.parameters." = c.as_str.ensures ∙ c.in_ok-prefix.ensures in
    subst (λ (t : List ℕ). OnOk c.add_parameters.result (HasValuesOf c.add_parameters.new.self (parameter_tags t c.args.params.now ++ c.args.tags.now)))
    prefix c.add_parameters.ensures
