-- What a whole transfer did to a source and a sink. Both promises are the project's own.
use Rattle.std.specs.Prelude.{◌≡◌, ℕ, ◌+◌, ◌<◌, ◌≤◌, ◌↔◌, List, length, take, IfOk, IsErrOf, Result}
use Rattle.std.specs.Io.KnownBytes.{Appends, Consumes}
use Rattle.std.specs.declared.option.Option.{Option}

-- These bytes left the source, no more than one beyond `most`. They are what was given, and are too long exactly where
-- they are that one more.
pub record Took
    {E : Type 0} (old new : Option (List ℕ)) (most : ℕ) (too_long : E) (result : Result (List ℕ) E) (bytes : List ℕ)
    : Type 0 where
  pub consumed : Consumes old new bytes
  pub given : IfOk result (λ given. given ≡ bytes)
  pub bound : length bytes ≤ most + 1
  pub one_more : IsErrOf result too_long ↔ (length bytes ≡ most + 1)

-- Of the bytes only the first `count` reached the sink, and some are missing.
pub record StoppedAt (old new : Option (List ℕ)) (bytes : List ℕ) (count : ℕ) : Type 0 where
  pub short : count < length bytes
  pub start : Appends old new (take count bytes)
