-- The tag of the phase, over the workflow's.
use Rattle.std.proofs.Common.{◌++◌, codes, refl, ◌∙◌}
use Rattle.tree_types.specs.Phases.{phase_text}
use Rattle.scopes.proofs.ValueIn.{made}
use Rattle.meaning.specs.Lines.{status_tag}
use Rattle.call_texts.proofs.Workflows.{one_tag}
use Rattle.call_texts.proofs.tops.status_scope.Goals as goal

pub returns : goal.returns
returns c =
    let tags = c.add.new.self in
    let globals = c.args.globals.now in
    made c.with.result tags globals (status_tag (codes "workflow") c.args.phase) globals c.with.ensures
    (one_tag (codes "workflow" ++ codes ".status") c.in_ok-tag.tag (phase_text c.args.phase) c.in_ok-value.value tags c.new-tags.result c.in_ok-tag.ensures
    (c.in_ok-value.ensures ∙ c.word.ensures) c.new-tags.ensures c.in_ok-add.ensures.ok)
    (λ tag. refl)
