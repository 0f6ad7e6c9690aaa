-- The pods of both.
use Rattle.tree_state.specs.declared.kinds.WantKind.TheVariants.{Pod}
use Rattle.tree_eval.proofs.Counting.{count_both}
use Rattle.std.proofs.Common.{ap, ◌∙◌, length}
use Rattle.meaning.specs.Lines.{Made, lines_in}
use Rattle.tree_state.proofs.OfKind.{among}
use Rattle.tree_eval.proofs.tops.Tops.pods.Goals as goal

pub returns-in-Some : goal.returns-in-Some
returns-in-Some c =
    count_both Pod c.args.self.now c.in-Some.exit c.pods-main.result c.pods.result c.in-Some.is (c.pods-main.ensures ∙ ap (λ (b : Made). length (among Pod (lines_in b))) c.state.ensures) c.pods.ensures
    c.checked_add.result c.checked_add.ensures
