-- Looks by their names.
use Rattle.std.specs.Prelude.{ℕ, List, Bool, Option, bytes_eq}
use Rattle.looks.specs.declared.Look.{Look}

module _ {T : Type 0} where
  abbrev pub is_named : List ℕ → Look T → Bool
  is_named name l = bytes_eq l.name name

  abbrev pub look : List ℕ → Option T → Look T
  look name found = record { name = name; found = found }
