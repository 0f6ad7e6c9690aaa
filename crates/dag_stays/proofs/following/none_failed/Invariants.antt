-- None of those so far failed.
use Rattle.std.proofs.Common.{◌≡◌, Bool, true, take}
use Rattle.std.specs.List.{AllByRecursion}
use Rattle.meaning.specs.declared.lines.Place.{Place}
use Rattle.meaning.specs.Dags.{Standings}
use Rattle.dag_board.specs.Boards.{stood}
use Rattle.dag_stays.specs.Over.{StandsOver}
use Rattle.dag_stays.specs.Following.{is_spared}
use Rattle.dag_stays.proofs.following.none_failed.Given as goal

abbrev pub invariant-loop-i : goal.invariant-loop-i
invariant-loop-i l =
    (doomed : Bool) (place : Place) (ss : Standings) → StandsOver doomed place ss l.state →
    AllByRecursion (λ p. is_spared (stood ss p) ≡ true) (take l.i l.plan.targets)
