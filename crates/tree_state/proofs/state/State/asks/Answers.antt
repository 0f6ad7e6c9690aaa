use Rattle.std.proofs.Common.{ap, ◌∙◌}
use Rattle.meaning.specs.Lines.{Made, lines_in}
use Rattle.tree_state.specs.declared.sum.Sum.{Sum}
use Rattle.tree_state.specs.Inside.Sums.{asks_in}
use Rattle.tree_state.proofs.Kids.{made_of}
use Rattle.tree_state.proofs.Sums.{asks_over}
use Rattle.tree_state.proofs.state.State.asks.Goals as goal

pub returns : goal.returns
returns c =
    let old = c.self.inside in
    c.and.ensures
    ∙ asks_over (made_of old) c.asks_of_node.result c.sum.result.asks c.asks_of_node.ensures (ap (λ (s : Sum). s.asks) c.sum.ensures)
    ∙ ap (λ (m : Made). asks_in (lines_in m)) c.self.view_is
