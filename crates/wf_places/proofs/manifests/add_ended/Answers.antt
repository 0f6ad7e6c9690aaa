use Rattle.std.proofs.Common.{◌≡◌, ◌++◌, ℕ, List, ap, ◌∙◌, subst}
use Rattle.std.specs.Prelude.{OnOk, codes}
use Rattle.wf_manifest.specs.declared.calls.Argument.{Argument}
use Rattle.wf_places.specs.Places.{entry_if_there, lock_places}
use Rattle.wf_places.proofs.Positions.{then_added}
use Rattle.wf_places.proofs.manifests.add_ended.Goals as goal

pub returns : goal.returns
returns c =
    let m = c.args.manifest.now in
    let out = c.args.out.now.items in
    let ts = c.args.outside.now.templates in
    let limits = c.args.limits.now in
    let mid = c.add_entry_option.new.out.items in
    let r = c.add_lock.result in
    let new = c.add_lock.new.out.items in
    let given = c.as_slice-given.result.now in
    let first : mid ≡ out ++ entry_if_there ts m.arguments (codes "spec.onExit") m.on_exit =
    c.in_ok-add_entry_option.ensures
    ∙ ap (λ (p : List ℕ). out ++ entry_if_there ts given p m.on_exit) c.in_ok-path.ensures
    ∙ ap (λ (g : List Argument). out ++ entry_if_there ts g (codes "spec.onExit") m.on_exit) c.as_slice-given.ensures in
    let second : OnOk r (new ≡ mid ++ lock_places limits (codes "spec") m.lock) =
    subst (λ (p : List ℕ). OnOk r (new ≡ mid ++ lock_places limits p m.lock)) c.in_ok-spec.ensures c.add_lock.ensures in
    then_added r out mid new (entry_if_there ts m.arguments (codes "spec.onExit") m.on_exit) (lock_places limits (codes "spec") m.lock) first second
