-- Nothing stands for a task that neither exists nor may begin.
use Rattle.std.proofs.Common.{Option, Bool, false, sym, ap, ◌∙◌}
use Rattle.meaning.specs.Lines.{nothing, then_parts, Made}
use Rattle.meaning.specs.Dags.{task_place}
use Rattle.dag_board.specs.Inside.Parts.{part_then}
use Rattle.dag_board.proofs.Endings.{then_nothing}
use Rattle.dag_board.proofs.ending.add_part.Goals as goal

pub returns-then-not-begins : goal.returns-then-not-begins
returns-then-not-begins c =
    let below = c.args.below.now in
    let at = task_place c.args.place.now c.args.i c.args.task.now in
    sym (then_nothing below)
    ∙ ap (λ (s : Option Made). then_parts below (part_then false at s nothing)) (sym c.in_default.is)
    ∙ ap (λ (b : Bool). then_parts below (part_then b at c.args.state nothing)) (sym c.if-not-begins.true)
