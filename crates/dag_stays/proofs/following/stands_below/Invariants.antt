-- How those so far are seen.
use Rattle.std.proofs.Common.{◌≡◌, Bool, length, map, take}
use Rattle.meaning.specs.declared.lines.Place.{Place}
use Rattle.meaning.specs.Dags.{Standings}
use Rattle.dag_board.specs.Boards.{stood}
use Rattle.dag_stays.specs.Over.{StandsOver}
use Rattle.dag_stays.specs.Following.{seen}
use Rattle.dag_stays.proofs.following.stands_below.Given as goal

abbrev pub invariant-loop-i : goal.invariant-loop-i
invariant-loop-i l = record {
  long : length l.found ≡ l.i;
  seen :
      (doomed : Bool) (place : Place) (ss : Standings) → StandsOver doomed place ss l.state →
      l.found ≡ map (λ p. seen (stood ss p)) (take l.i l.places);
}
