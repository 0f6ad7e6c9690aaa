-- What an answer tells of one item of a loop.
use Rattle.std.specs.Prelude.{◌≡◌, ℕ, List, Option, Some, Result, Ok, IfOk, slice_get}
use Rattle.serde_json.specs.Data.{Data}
use Rattle.base_types.specs.declared.memory.Memory.{Memory}
use Rattle.scopes.specs.Substitution.{Found}

-- where a loop has items and one stands at the place, it is that one
abbrev pub GivesAt : ℕ → Result (Option Data) Memory → Found (List Data) → Type 0
GivesAt place answer found =
    (all : List Data) (x : Data) → found ≡ Ok all → slice_get all place ≡ Some x → IfOk answer (λ given. given ≡ Some x)
