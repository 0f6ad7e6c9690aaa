use Rattle.std.proofs.Common.{[], ◌∷◌, ap, sym, ◌∙◌}
use Rattle.meaning.specs.Lines.{Parts, row_of, then_parts}
use Rattle.row_states.proofs.Counting.{row_then}
use Rattle.row_states.proofs.rows.row.Goals as goal

pub loop-state-preserved : goal.loop-state-preserved
loop-state-preserved c =
    c.in_ok-push_shared.ensures
    ∙ ap (λ (p : Parts). then_parts p (row_of (c.in-Some.state ∷ []))) c.loop-state.invariant
    ∙ sym (row_then c.loop-state.yielded c.in-Some.state)
