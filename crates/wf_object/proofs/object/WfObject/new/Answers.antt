-- Nothing is recorded yet.
use Rattle.std.proofs.Common.{ap, ◌∙◌}
use Rattle.tree_incr.specs.Workflows.{Workflow, unstarted}
use Rattle.law.specs.Contents.{flow}
use Rattle.wf_object.proofs.object.WfObject.new.Goals as goal

pub returns : goal.returns
returns c = ap (λ (w : Workflow). flow w.manifest w.facts) (c.in_ok-state.ensures ∙ ap unstarted c.in_ok-copy.ensures)
