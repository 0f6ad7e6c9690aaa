use Rattle.std.proofs.Common.{[], ◌∷◌, ap, sym, ◌∙◌}
use Rattle.meaning.specs.Lines.{Parts, row_of, then_parts}
use Rattle.leaf_states.proofs.Rows.{row_then}
use Rattle.leaf_states.proofs.retries.row.Goals as goal

pub loop-state-preserved : goal.loop-state-preserved
loop-state-preserved c =
    c.in_ok-push.ensures
    ∙ ap (λ (p : Parts). then_parts p (row_of (c.in-Some.state ∷ []))) c.loop-state.invariant
    ∙ sym (row_then c.loop-state.yielded c.in-Some.state)
