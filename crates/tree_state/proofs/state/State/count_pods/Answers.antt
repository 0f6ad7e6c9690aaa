use Rattle.std.proofs.Common.{length, ap, ◌∙◌}
use Rattle.meaning.specs.Lines.{Made, lines_in, lines_below}
use Rattle.tree_state.specs.Finding.{pods_in}
use Rattle.tree_state.proofs.Kids.{made_of}
use Rattle.tree_state.proofs.OfKind.{both_counted}
use Rattle.tree_state.proofs.Positions.{pods_among, pods_over}
use Rattle.tree_state.proofs.state.State.count_pods.Goals as goal

pub returns-clause-all : goal.returns-clause-all
returns-clause-all c =
    let old = c.self.inside in
    both_counted (pods_among (lines_in (made_of old))) (pods_in old.wants) (pods_among (lines_below old.below)) c.count_of.result c.pods.result (pods_over (made_of old)) c.count_of.ensures.all c.pods.ensures.all
    ∙ ap (λ (m : Made). length (pods_among (lines_in m))) c.self.view_is
