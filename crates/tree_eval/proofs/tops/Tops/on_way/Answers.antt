-- What stands in the one stands in both.
use Rattle.tree_eval.proofs.Firsts.{found_main, found_behind}
use Rattle.std.proofs.Common.{subst}
use Rattle.meaning.specs.Lines.{Made, lines_in}
use Rattle.tree_state.specs.Finding.{IsFound}
use Rattle.tree_eval.proofs.tops.Tops.on_way.Goals as goal

pub returns-in-Some : goal.returns-in-Some
returns-in-Some c = found_main c.args.self.now c.args.clue.now c.in-Some.node.now (subst (λ (b : Made). IsFound c.args.clue.now (lines_in b) c.in-Some.node.now) c.state.ensures c.in-Some.ensures)

pub returns-in-Some-exit : goal.returns-in-Some-exit
returns-in-Some-exit c = found_behind c.args.self.now c.args.clue.now c.in-Some-exit.exit c.on_way-in-Some-exit.result c.in-Some-exit.is c.on_way-in-Some-exit.ensures
