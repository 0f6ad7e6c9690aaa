-- A reader or a writer of std whose faults are counted, as its contracts see it.
use Rattle.std.specs.Prelude.{ℕ}

-- the reader or writer, and how many of its calls failed
pub record Counted (A : Type 0) : Type 0 where
  pub inner : A
  pub faults : ℕ
