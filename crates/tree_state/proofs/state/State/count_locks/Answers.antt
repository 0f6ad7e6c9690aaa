use Rattle.std.proofs.Common.{length, ap, ◌∙◌}
use Rattle.meaning.specs.Lines.{Made, lines_in, lines_below}
use Rattle.tree_state.specs.declared.kinds.WantKind.TheVariants.{Lock}
use Rattle.tree_state.specs.Finding.{locks_in}
use Rattle.tree_state.proofs.Kids.{made_of}
use Rattle.tree_state.proofs.OfKind.{among, kind_over, both_counted}
use Rattle.tree_state.proofs.state.State.count_locks.Goals as goal

pub returns-clause-all : goal.returns-clause-all
returns-clause-all c =
    let old = c.self.inside in
    both_counted (among Lock (lines_in (made_of old))) (locks_in old.wants) (among Lock (lines_below old.below)) c.count_of.result c.locks.result (kind_over Lock (made_of old)) c.count_of.ensures.all c.locks.ensures.all
    ∙ ap (λ (m : Made). length (among Lock (lines_in m))) c.self.view_is
