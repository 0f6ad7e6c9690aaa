-- What calls on scopes answer.
use Rattle.std.specs.Prelude.{◌≡◌, ◌⊎◌, ℕ, List, Result, Ok, Err}
use Rattle.tree_types.specs.declared.node.Note.TheVariants as note
use Rattle.scopes.specs.declared.refused.SubstRefused.{SubstRefused}
use Rattle.scopes.specs.declared.refused.SubstRefused.TheVariants.{Unresolved, Memory}
use Rattle.scopes.specs.Substitution.{Found, Scope, value_in}

-- a scope gives each tag the value that the other one gives it
abbrev pub HasValuesOf : Scope → Scope → Type 0
HasValuesOf scope other = (tag : List ℕ) → value_in scope tag ≡ value_in other tag

-- a scope gives each tag the value that the one or the other gives it
abbrev pub HasValuesOfEither : Scope → Scope → Scope → Type 0
HasValuesOfEither scope one other =
    (tag : List ℕ) → (value_in scope tag ≡ value_in one tag) ⊎ (value_in scope tag ≡ value_in other tag)

-- an answer tells what was found; want of memory tells nothing
abbrev pub Tells : Result (List ℕ) SubstRefused → Found (List ℕ) → Type 0
Tells (Ok text) found = found ≡ Ok text
Tells (Err (Unresolved tag)) found = found ≡ Err (note.Unresolved tag)
Tells (Err Memory) found = Unit {0}
