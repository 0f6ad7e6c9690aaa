-- Which second a `creationTimestamp` names, by the reading of `jiff`: RFC 3339 in the Kubernetes API conventions.
use Rattle.std.specs.Prelude.{ℤ, ℕ, pos, List, Result, Ok, Err}
use Rattle.std.specs.Int.{int_div_euclid}
use Rattle.jiff_core.specs.declared.error.Error.{Error}
use Rattle.jiff_fmt.specs.Temporal.{parse_timestamp}
use Rattle.time_text.specs.declared.instant.TimeRefused.{TimeRefused}
use Rattle.time_text.specs.declared.instant.TimeRefused.TheVariants.{Bad}

-- the second in which an instant lies, which is given in nanoseconds since the Unix epoch
abbrev pub second_of : Result ℤ Error → Result ℤ TimeRefused
second_of (Ok nanos) = Ok (int_div_euclid nanos (pos 1_000_000_000))
second_of (Err e) = Err Bad

-- the Unix second that a text names, or that it names none
abbrev pub created_of : List ℕ → Result ℤ TimeRefused
created_of text = second_of (parse_timestamp text)
