-- The row of numbers that a call gives, beside the row that is meant.
use Rattle.std.specs.Prelude.{ℕ, ℤ, pos, negsuc, neg_ℤ, ◌^◌, ◌≤ℤ◌, ◌+ℤ◌, ◌-ℤ◌, Bool, true, false, if◌then◌else◌}
use Rattle.fanout.specs.Sequences as meant
use Rattle.fanout.specs.declared.sequence.Row.{Row}

abbrev pub row_of : Row → meant.Row
row_of r = record { count = r.count; step = if r.down then negsuc 0 else pos 1; first = r.first }

-- a number of a sequence: from minus to plus 1,000,000,000,000
pub record IsNear (z : ℤ) : Type 0 where
  pub low : neg_ℤ (pos (10 ^ 12)) ≤ℤ z
  pub high : z ≤ℤ pos (10 ^ 12)

-- the number so many places from a first one, down or up
abbrev pub number_from : Bool → ℤ → ℕ → ℤ
number_from true first place = first -ℤ pos place
number_from false first place = first +ℤ pos place
