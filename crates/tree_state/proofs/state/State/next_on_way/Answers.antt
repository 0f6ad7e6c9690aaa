use Rattle.std.proofs.Common.{subst}
use Rattle.std.specs.List.{Contains}
use Rattle.meaning.specs.Trees.{nodes_in}
use Rattle.meaning.specs.Lines.{Made, lines_in}
use Rattle.tree_state.proofs.Kids.{made_of}
use Rattle.tree_state.proofs.Chunks.{call_in}
use Rattle.tree_state.proofs.Found.{below_in}
use Rattle.tree_state.proofs.state.State.next_on_way.Goals as goal

pub returns-then-leads_through : goal.returns-then-leads_through
returns-then-leads_through c n has =
    subst (λ (m : Made). Contains (nodes_in (lines_in m)) n) c.self.view_is
    (below_in (made_of c.self.inside) n (call_in c.self.inside.below _ c.in-Some.state.now n c.in-Some.ensures has))
