-- What is asked for of a kind and left to be done.
use Rattle.std.specs.Prelude.{◌≡◌, Bool, true, ◌&&◌, List, Option, Some}
use Rattle.std.specs.List.{find}
use Rattle.tree_types.specs.declared.want.Want.{Want}
use Rattle.tree_state.specs.declared.kinds.WantKind.{WantKind}
use Rattle.tree_state.specs.Asking.{is_of}

-- whatever is sought among what is left, it is found in a list as it is found among all that is asked for
pub record IsAhead (k : WantKind) (left : Want → Bool) (ahead ws : List Want) : Type 0 where
  pub finds :
      (sought : Want → Bool) → ((a : Want) → sought a ≡ true → left a ≡ true) →
      find sought ahead ≡ find (λ a. is_of k a && sought a) ws

-- the same of the list, where it is known
pub record AheadOf (k : WantKind) (left : Want → Bool) (known : Option (List Want)) (ws : List Want) : Type 0 where
  pub fits : (ahead : List Want) → known ≡ Some ahead → IsAhead k left ahead ws

-- what passes a test is found in the list, where it is known, as it is found among all that is asked for
pub record FindsBy (k : WantKind) (test : Want → Bool) (known : Option (List Want)) (ws : List Want) : Type 0 where
  pub finds : (ahead : List Want) → known ≡ Some ahead → find test ahead ≡ find (λ a. is_of k a && test a) ws
