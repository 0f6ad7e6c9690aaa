-- The nodes of both.
use Rattle.std.proofs.Common.{◌+◌, sym, ap, ap₂, ◌∙◌}
use Rattle.std.specs.Prelude.{ℕ, Option}
use Rattle.meaning.specs.Lines.{Made}
use Rattle.tree_state.specs.Counting.{count}
use Rattle.tree_eval.specs.Inside.Tops.{count_exit}
use Rattle.tree_eval.proofs.Running.{counted_tops}
use Rattle.tree_eval.proofs.tops.Tops.count.Goals as goal

pub returns-in-Some : goal.returns-in-Some
returns-in-Some c =
    ap₂ (λ (a b : ℕ). a + b) (c.count-in-Some.ensures.all ∙ ap count c.state-in-Some.ensures) c.count-in-Some-2.ensures.all
    ∙ ap (λ (e : Option Made). count c.args.self.now.main + count_exit e) (sym c.in-Some.is)
    ∙ sym (counted_tops c.args.self.now)
