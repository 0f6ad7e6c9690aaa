-- Results, one after the other.
use Rattle.std.specs.Prelude.{Result, Ok, Err}

-- what comes later is asked only where there is a value; else the first error stands
infixl 10 ◌>>=◌
abbrev pub ◌>>=◌ : {A B E : Type 0} → Result A E → (A → Result B E) → Result B E
(Ok x) >>= later = later x
(Err error) >>= later = Err error
