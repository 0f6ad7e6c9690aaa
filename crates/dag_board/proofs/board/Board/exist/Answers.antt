-- A task that exists is shown.
use Rattle.std.proofs.Common.{[], ap, ◌∙◌}
use Rattle.meaning.specs.Lines.{Made}
use Rattle.meaning.specs.Dags.{exists}
use Rattle.dag_template.specs.Stands.{sight}
use Rattle.dag_board.proofs.Writing.{existing_is_shown}
use Rattle.dag_board.proofs.board.Board.exist.Goals as goal

pub returns : goal.returns
returns c =
    existing_is_shown c.args.dag.now c.args.plan.now c.args.self.now c.put.new.self c.args.i c.args.branch c.args.state
    c.stand_existing-stand.result (c.stand_existing-stand.ensures ∙ ap (λ (m : Made). sight (exists m c.args.branch [])) c.state.ensures) c.put.ensures
