-- The manifest has another name and another creation, and its journal is what is carried over.
use Rattle.std.proofs.Common.{ℤ, w64, ap, ap₂, sym, subst, ◌∙◌}
use Rattle.std.proofs.Math.Facts.{to_z-of_z}
use Rattle.wf_manifest.specs.declared.manifest.Manifest.{Manifest}
use Rattle.wf_manifest.specs.Valid.{Valid}
use Rattle.tree_incr.specs.Workflows.{Workflow}
use Rattle.law.specs.Contents.{Flow, flow}
use Rattle.law.specs.Justified.{renamed}
use Rattle.wf_object.proofs.Renaming.{valid_renamed}
use Rattle.wf_object.proofs.object.WfObject.resubmitted.Goals as goal

pub new-requires : goal.new-requires
new-requires c =
    let valid : Valid c.deref.result.now = subst Valid (sym c.deref.ensures) c.self.invariant.valid in
    subst Valid (sym c.in_ok-renamed.ensures) (valid_renamed c.deref.result.now c.args.name _ valid)

pub returns-clause-object : goal.returns-clause-object
returns-clause-object c =
    let kept = c.deref.ensures ∙ c.self.invariant.same ∙ ap (λ (f : Flow). f.manifest) c.self.view_is in
    let made = ap (λ (f : Flow). f.manifest) (c.object.view_is ∙ c.in_ok-object.ensures) ∙ c.in_ok-renamed.ensures ∙ ap₂ (λ (m : Manifest) (z : ℤ). renamed m c.args.name z) kept (to_z-of_z {w = w64} {z = c.args.created} c.ranges.created) in
    c.in_ok-over.ensures ∙ ap (λ (w : Workflow). flow w.manifest w.facts) c.in_ok-state.ensures ∙ ap₂ flow made c.as_slice.ensures
