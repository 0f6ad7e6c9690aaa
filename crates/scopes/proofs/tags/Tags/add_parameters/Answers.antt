use Rattle.std.proofs.Common.{string_bytes, ◌≡◌, ◌∙◌, ◌+◌, ◌-◌, ◌++◌, drop, ap, subst, arith, ℕ}
use Rattle.scopes.specs.Substitution.{parameter_tags}
use Rattle.scopes.specs.Values.{HasValuesOf}
use Rattle.scopes.proofs.ValueIn.{given_more}
use Rattle.scopes.proofs.tags.Tags.add_parameters.Goals as goal

pub loop-left-preserved : goal.loop-left-preserved
loop-left-preserved c =
    let left = c.loop-left.left - 1 in
    let one : c.loop-left.left ≡ left + 1 = omega arith in
    let tag = c.tag.view_is ∙ c.in_ok-push.ensures.ok ∙ ap (λ t. t ++ c.as_str.result.now) c.in_ok-tag.ensures ∙ ap (λ t. c.args.prefix.now ++ t) c.as_str.ensures in
    let given = subst (λ (n : ℕ). HasValuesOf c.loop-left.self (parameter_tags c.args.prefix.now (drop n c.args.params.now) ++ c.args.self.now)) one c.loop-left.invariant.given in
    record {
      within = omega (arith, c.loop-left.invariant.within);
      given = given_more c.args.prefix.now c.args.params.now left c.get-param.result.now (string_bytes c.tag.inside.inner.value) c.in_ok-copy.field-0 c.loop-left.self c.add.new.self c.args.self.now c.get-param.ensures tag c.in_ok-copy.ensures c.in_ok-add.ensures.ok given;
    }
