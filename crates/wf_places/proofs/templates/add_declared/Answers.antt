use Rattle.std.proofs.Common.{◌≡◌, ◌++◌, ℕ, List, None, ap, ◌∙◌, subst, map}
use Rattle.std.specs.Prelude.{OnOk, codes}
use Rattle.json_fields.specs.Paths.{field_of}
use Rattle.wf_manifest.specs.declared.templates.Input.{Input}
use Rattle.wf_manifest.specs.declared.templates.OutputDecl.{OutputDecl}
use Rattle.wf_places.specs.declared.around.Spot.{Spot}
use Rattle.wf_places.specs.declared.around.Before.TheVariants as kept
use Rattle.wf_places.specs.Tags.{of_workflow, of_calls}
use Rattle.wf_places.specs.Places.{input_places, output_places}
use Rattle.wf_places.specs.Inside.Views.{around_of}
use Rattle.wf_places.proofs.Positions.{then_added}
use Rattle.wf_places.proofs.templates.add_declared.Goals as goal

abbrev out_names : List OutputDecl → List (List ℕ)
out_names os = map (λ o. o.name) os

pub returns : goal.returns
returns c =
    let t = c.args.template.now in
    let i = c.args.inside.now in
    let out = c.args.out.now.items in
    let mid = c.add_inputs.new.out.items in
    let r = c.add_outputs.result in
    let new = c.add_outputs.new.out.items in
    let inputs_at = field_of c.args.at.now (codes "inputs.parameters") in
    let outputs_at = field_of c.args.at.now (codes "outputs.parameters") in
    let one : Spot = record { reach = of_workflow; before = kept.All; own = None } in
    let two : Spot = record { reach = of_calls; before = kept.All; own = None } in
    let first : mid ≡ out ++ input_places (around_of i one) i.inputs inputs_at 0 t.inputs =
    c.in_ok-add_inputs.ensures
    ∙ ap (λ (s : Spot). out ++ input_places (around_of i s) i.inputs c.in_ok-inputs.inputs 0 c.as_slice.result.now) c.reaching.ensures
    ∙ ap (λ (p : List ℕ). out ++ input_places (around_of i one) i.inputs p 0 c.as_slice.result.now) c.in_ok-inputs.ensures
    ∙ ap (λ (xs : List Input). out ++ input_places (around_of i one) i.inputs inputs_at 0 xs) c.as_slice.ensures in
    let spotted : OnOk r (new ≡ mid ++ output_places (around_of i two) (out_names c.as_slice-2.result.now) c.in_ok-outputs.outputs 0 c.as_slice-2.result.now) =
    subst (λ (s : Spot). OnOk r (new ≡ mid ++ output_places (around_of i s) (out_names c.as_slice-2.result.now) c.in_ok-outputs.outputs 0 c.as_slice-2.result.now)) c.reaching-2.ensures c.add_outputs.ensures in
    let at_path : OnOk r (new ≡ mid ++ output_places (around_of i two) (out_names c.as_slice-2.result.now) outputs_at 0 c.as_slice-2.result.now) =
    subst (λ (p : List ℕ). OnOk r (new ≡ mid ++ output_places (around_of i two) (out_names c.as_slice-2.result.now) p 0 c.as_slice-2.result.now)) c.in_ok-outputs.ensures spotted in
    let second : OnOk r (new ≡ mid ++ output_places (around_of i two) (out_names t.outputs) outputs_at 0 t.outputs) =
    subst (λ (os : List OutputDecl). OnOk r (new ≡ mid ++ output_places (around_of i two) (out_names os) outputs_at 0 os)) c.as_slice-2.ensures at_path in
    then_added r out mid new (input_places (around_of i one) i.inputs inputs_at 0 t.inputs) (output_places (around_of i two) (out_names t.outputs) outputs_at 0 t.outputs) first second
