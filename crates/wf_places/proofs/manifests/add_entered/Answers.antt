use Rattle.std.proofs.Common.{◌≡◌, ◌++◌, ℕ, List, ap, ◌∙◌, subst}
use Rattle.std.specs.Prelude.{OnOk, codes}
use Rattle.wf_manifest.specs.declared.calls.Argument.{Argument}
use Rattle.wf_places.specs.Calls.{arguments_places}
use Rattle.wf_places.specs.Places.{entry_places}
use Rattle.wf_places.specs.Inside.Views.{around_workflow}
use Rattle.wf_places.proofs.Positions.{then_added}
use Rattle.wf_places.proofs.manifests.add_entered.Goals as goal

pub returns : goal.returns
returns c =
    let m = c.args.manifest.now in
    let out = c.args.out.now.items in
    let ts = c.args.outside.now.templates in
    let a = around_workflow c.args.outside.now in
    let mid = c.add_entry.new.out.items in
    let r = c.add_given.result in
    let new = c.add_given.new.out.items in
    let given = c.as_slice-given.result.now in
    let first : mid ≡ out ++ entry_places ts m.arguments (codes "spec.entrypoint") m.entrypoint =
    c.in_ok-add_entry.ensures
    ∙ ap (λ (p : List ℕ). out ++ entry_places ts given p m.entrypoint) c.in_ok-path.ensures
    ∙ ap (λ (g : List Argument). out ++ entry_places ts g (codes "spec.entrypoint") m.entrypoint) c.as_slice-given.ensures in
    let at_path : OnOk r (new ≡ mid ++ arguments_places a (codes "spec") given) =
    subst (λ (p : List ℕ). OnOk r (new ≡ mid ++ arguments_places a p given)) c.in_ok-spec.ensures c.add_given.ensures in
    let second : OnOk r (new ≡ mid ++ arguments_places a (codes "spec") m.arguments) =
    subst (λ (g : List Argument). OnOk r (new ≡ mid ++ arguments_places a (codes "spec") g)) c.as_slice-given.ensures at_path in
    then_added r out mid new (entry_places ts m.arguments (codes "spec.entrypoint") m.entrypoint) (arguments_places a (codes "spec") m.arguments) first second
