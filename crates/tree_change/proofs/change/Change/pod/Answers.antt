-- A pod is made at the place of the node before it.
use Rattle.std.proofs.Common.{◌≡◌, true, refl, sym, ap, ◌∙◌}
use Rattle.meaning.specs.declared.lines.Place.{Place}
use Rattle.meaning.specs.Pods.{pod_made, retry_made}
use Rattle.meaning.specs.Calls.{template_made, calls}
use Rattle.growth.specs.Ticks.{place_of}
use Rattle.tree_change.specs.Open.{unlocked}
use Rattle.tree_change.proofs.Changing.{pod_template_changes, retried_template_changes}
use Rattle.tree_change.proofs.Given.{given_by, limit_of}
use Rattle.tree_change.proofs.change.Change.pod.Goals as goal

pub retried_state-requires : goal.retried_state-requires
retried_state-requires g c = limit_of c.args.template.now.retry c.in-Some.retry c.requires.fits c.in-Some.is

pub returns-in_default : goal.returns-in_default
returns-in_default g c rest B changed g' left place inner same way is =
    let m = c.args.self.now.manifest.now in
    let A = g.R.Recorded.answers c.args.self.now.recorded.now in
    let old = c.args.old.now in
    let t = c.args.template.now in
    let here : c.in_ok-place.place ≡ place_of old.own.node = c.in_ok-place.ensures ∙ ap place_of c.node.ensures in
    let granted : unlocked (A.granted (place_of old.own.node).sels) t.lock ≡ true =
    ap (λ (p : Place). unlocked (A.granted p.sels) t.lock) (sym here) ∙ sym c.if-not-is_unlocked.ensures in
    given_by c.pod_state.result (λ (i : Unit {0}) z. z ≡ pod_made A c.in_ok-place.place t.outputs) (λ z. z ≡ template_made A (calls m A g' left) place inner t)
    (λ i. c.pod_state.ensures)
    (λ z new. sym (pod_template_changes m A B changed same g' left place inner t old z is c.requires.runs c.requires.form c.in_default.is (c.if-not-is_uncached.ensures refl) granted (ap (λ (p : Place). pod_made A p t.outputs) (sym here) ∙ sym (new tt))))

pub returns : goal.returns
returns g c rest B changed g' left place inner same way is =
    let m = c.args.self.now.manifest.now in
    let A = g.R.Recorded.answers c.args.self.now.recorded.now in
    let old = c.args.old.now in
    let t = c.args.template.now in
    let r = c.in-Some.retry in
    let here : c.in_ok-place.place ≡ place_of old.own.node = c.in_ok-place.ensures ∙ ap place_of c.node.ensures in
    let granted : unlocked (A.granted (place_of old.own.node).sels) t.lock ≡ true =
    ap (λ (p : Place). unlocked (A.granted p.sels) t.lock) (sym here) ∙ sym c.if-not-is_unlocked.ensures in
    given_by c.retried_state.result (λ (i : Unit {0}) z. z ≡ retry_made A c.in_ok-place.place t.outputs r) (λ z. z ≡ template_made A (calls m A g' left) place inner t)
    (λ i. c.retried_state.ensures)
    (λ z new. sym (retried_template_changes m A B changed same g' left place inner t r old z is c.requires.runs c.requires.form c.in-Some.is (c.if-not-is_uncached.ensures refl) granted (ap (λ (p : Place). retry_made A p t.outputs r) (sym here) ∙ sym (new tt))))
