-- Bytes and names that the grammars of texts have in common. All of it is this project's own.
use Rattle.std.specs.Prelude.{ℕ, List, Bool, ◌||◌, ◌&&◌, ◌==◌, nat_lt, nat_le, length}
use Rattle.std.specs.Char.{is_ascii_alphanumeric}
use Rattle.std.specs.List.{list_all}
use Rattle.base_types.specs.Limits.{longest_name}

-- a space or a tab
abbrev pub is_space : ℕ → Bool
is_space b = (b == 32) || (b == 9)

-- a letter, a digit, `-` or `_`
abbrev pub is_name_byte : ℕ → Bool
is_name_byte b = is_ascii_alphanumeric b || (b == 45) || (b == 95)

-- 1 to 128 of them
abbrev pub is_name : List ℕ → Bool
is_name name = list_all is_name_byte name && nat_lt 0 (length name) && nat_le (length name) longest_name
