-- The locks of both.
use Rattle.tree_state.specs.declared.kinds.WantKind.TheVariants.{Lock}
use Rattle.tree_eval.proofs.Counting.{count_both}
use Rattle.std.proofs.Common.{ap, ◌∙◌, length}
use Rattle.meaning.specs.Lines.{Made, lines_in}
use Rattle.tree_state.proofs.OfKind.{among}
use Rattle.tree_eval.proofs.tops.Tops.locks.Goals as goal

pub returns-in-Some : goal.returns-in-Some
returns-in-Some c =
    count_both Lock c.args.self.now c.in-Some.exit c.locks-main.result c.locks.result c.in-Some.is (c.locks-main.ensures ∙ ap (λ (b : Made). length (among Lock (lines_in b))) c.state.ensures) c.locks.ensures
    c.checked_add.result c.checked_add.ensures
