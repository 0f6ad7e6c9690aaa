-- The limits of a retry's numbers beside those of `base_types`. All of them are this project's own.
use Rattle.std.specs.Prelude.{ℕ}

-- the digits of a retry's limit, and of a backoff's factor
abbrev pub most_digits : ℕ
most_digits = 4

-- the factor of a backoff
abbrev pub least_factor : ℕ
least_factor = 1
