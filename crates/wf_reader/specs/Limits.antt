-- The limits of what workflows say, each in one place. The range of priorities is that of the field reference, whose
-- type is a number of 32 bits; how a name is made from its prefix is this project's own.
use Rattle.std.specs.Prelude.{ℕ, ℤ, pos, negsuc}

-- the digits by which a name is made from its prefix
abbrev pub position_digits : ℕ
position_digits = 5

-- -2,147,483,648
abbrev pub least_priority : ℤ
least_priority = negsuc 2_147_483_647

abbrev pub most_priority : ℤ
most_priority = pos 2_147_483_647
