-- What is written of one task.
use Rattle.std.specs.Prelude.{◌≡◌, ℕ, Option, slice_set}
use Rattle.meaning.specs.Lines.{Made}
use Rattle.dag_template.specs.declared.stands.Stand.{Stand}
use Rattle.dag_board.specs.declared.board.Board.{Board}

pub record IsPut (old new : Board) (i : ℕ) (stand : Stand) (state : Option Made) : Type 0 where
  pub stands : new.stands.items ≡ slice_set old.stands.items i stand
  pub states : new.states.items ≡ slice_set old.states.items i state
