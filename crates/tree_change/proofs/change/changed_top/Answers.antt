-- The template of the entrypoint, or of the exit handler, is changed.
use Rattle.std.proofs.Common.{◌≡◌, refl, sym, subst}
use Rattle.wf_manifest.specs.declared.templates.Template.{Template}
use Rattle.scopes.specs.Substitution.{Scope}
use Rattle.meaning.specs.Calls.{template_named, template_made, calls}
use Rattle.meaning.specs.Trees.{top_call}
use Rattle.tree_change.proofs.Changing.{top_changes}
use Rattle.tree_change.proofs.Given.{given_by, some_same}
use Rattle.tree_change.proofs.change.changed_top.Goals as goal

pub returns : goal.returns
returns g c B changed globals place same way is =
    let m = c.args.manifest.now in
    let A = g.R.Recorded.answers c.args.recorded.now in
    let old = c.args.old.now in
    let name = c.args.template.now in
    let t = c.in-Some.named.template.now in
    let Was : Type 0 = (inner : Scope) × (old ≡ template_made B (calls m B globals 31) place inner t) in
    given_by c.template.result (λ (i : Was) z. z ≡ template_made A (calls m A globals 31) place i.0 t) (λ z. z ≡ top_call m A globals place name)
    (λ i. c.template.ensures B changed globals 31 place i.0 same way i.1)
    (λ z new. sym (top_changes m A B changed same globals 31 place globals name m.arguments old z is (c.if-not-is_running.ensures refl)
    (λ u inner found.
    subst (λ (v : Template). old ≡ template_made B (calls m B globals 31) place inner v → template_made A (calls m A globals 31) place inner v ≡ z) (some_same t u (template_named m name) (sym c.in-Some.ensures.found) found)
    (λ was. sym (new (inner, was))))))
