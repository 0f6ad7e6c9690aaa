use Rattle.std.proofs.Common.{ap, sym, ◌∙◌}
use Rattle.meaning.specs.Lines.{row_of}
use Rattle.leaf_states.specs.Inside.Attempts.{below_retry}
use Rattle.leaf_states.proofs.Rows.{then_nothing}
use Rattle.leaf_states.proofs.retries.below_retry.Goals as goal

pub returns-in-None : goal.returns-in-None
returns-in-None c =
    c.in_ok-below.ensures
    ∙ sym (then_nothing (row_of c.args.all))
    ∙ ap (below_retry c.args.all) (sym c.in-None.is)
