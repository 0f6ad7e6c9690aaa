-- A kid put among others.
use Rattle.std.specs.Prelude.{◌≡◌, ℕ, List, false, true, take, drop}
use Rattle.meaning.specs.Lines.{Parts, nothing, then_parts}
use Rattle.tree_state.specs.declared.inserting.TaskPlace.{TaskPlace}
use Rattle.tree_state.specs.declared.inserting.Behind.{Behind}
use Rattle.tree_state.specs.declared.inserting.Behind.TheVariants.{Later, Nothing, Unknown}
use Rattle.tree_state.specs.declared.state.Kid.{Kid}
use Rattle.tree_state.specs.Inserting.{begins_later, ends_later}
use Rattle.tree_state.specs.Inside.Kids.{kid_before, parts_of}

-- what stands from a position on
abbrev pub TellsBehind : TaskPlace → List Kid → ℕ → Behind → Type 0
TellsBehind at kids n Later = (rest : Parts) → begins_later at (then_parts (parts_of (drop n kids)) rest) ≡ true
TellsBehind at kids n Nothing = parts_of (drop n kids) ≡ nothing
TellsBehind at kids n Unknown = Unit {0}

-- the kids are added, and one more behind those of which the last entry is not of a later task
pub record IsAmong (at : TaskPlace) (old new : Parts) (kids : List Kid) (kid : Kid) (behind : Behind) : Type 0 where
  pub place : ℕ
  pub is : new ≡ then_parts old (then_parts (parts_of (take place kids)) (kid_before kid (parts_of (drop place kids))))
  pub ends : ends_later at false (parts_of (take place kids)) ≡ false
  pub tells : TellsBehind at kids place behind
