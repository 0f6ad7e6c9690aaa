-- A list that solves the equations tells what follows.
use Rattle.std.proofs.Common.{[], sym, ap}
use Rattle.growth.specs.Rounds.{RoundsSettle}
use Rattle.dag_template.specs.States.{nowhere, as_stated, as_begun}
use Rattle.dag_template.specs.Step.{step_by}
use Rattle.dag_template.specs.Seen.{SolvedIsTold}

pub told : RoundsSettle → SolvedIsTold
told settle d states ss ranked solves =
    ap (step_by d) (sym (settle (as_begun states) (as_stated states) nowhere [] d ss ranked solves))
