-- What words ask for. The command is this project's own.
use Rattle.std.specs.Prelude.{ℕ, ◌-◌, ◌^◌, nat_lt, nat_le, Bool, false, not, ◌&&◌, ◌||◌, if◌then◌else◌}
use Rattle.std.specs.Prelude.{List, length, Option, Some, None, is_some, option_and_then, codes}
use Rattle.std.specs.List.{list_all}
use Rattle.std.specs.Char.{is_ascii_digit}
use Rattle.std.specs.Str.{bytes_eq}
use Rattle.std.specs.Str.Parse.{digits_value}
use Rattle.clap.specs.Words.{Row, Text, first_of, matches_of}
use Rattle.base_types.specs.Limits.{most_workers, most_size}
use Rattle.command_words.specs.Command.{argo, is_sound}
use Rattle.command_words.specs.declared.order.Mode.{Mode}
use Rattle.command_words.specs.declared.order.Mode.TheVariants as mode
use Rattle.command_words.specs.declared.order.Order.{Order}

-- ---- numbers

abbrev pub is_number_length : ℕ → Bool
is_number_length n = nat_lt 0 n && nat_le n 19

-- 1 to 19 digits
abbrev pub are_digits : Text → Bool
are_digits t = is_number_length (length t) && list_all is_ascii_digit t

abbrev pub is_within : ℕ → ℕ → ℕ → Bool
is_within low high n = nat_le low n && nat_le n high

abbrev pub within : ℕ → ℕ → ℕ → Option ℕ
within low high n = if is_within low high n then Some n else None

-- a number from low to high
abbrev pub number_in : ℕ → ℕ → Text → Option ℕ
number_in low high t = if are_digits t then within low high (digits_value 10 t) else None

-- n where the option is absent
abbrev pub number_or : ℕ → ℕ → ℕ → Option Text → Option ℕ
number_or n low high None = Some n
number_or n low high (Some t) = number_in low high t

-- ---- options

abbrev pub is_given : Text → List Row → Bool
is_given option rows = is_some (first_of option rows)

abbrev pub says_true : Option Text → Bool
says_true None = false
says_true (Some t) = bytes_eq t (codes "true")

abbrev pub is_set : Text → List Row → Bool
is_set option rows = says_true (first_of option rows)

-- an option of `run` alone
abbrev pub has_workers : List Row → Bool
has_workers rows = is_given (codes "workers") rows

-- an option of `run` and `simulate`
abbrev pub has_report : List Row → Bool
has_report rows = is_set (codes "history") rows || is_set (codes "summary") rows

-- an option of `generate`
abbrev pub has_draw : List Row → Bool
has_draw rows =
    is_given (codes "seed") rows || is_given (codes "size") rows || is_set (codes "bundle") rows

-- no option stands with a mode that does not take it
abbrev pub is_taken : Mode → List Row → Bool
is_taken mode.Run rows = not (has_draw rows)
is_taken mode.Simulate rows = not (has_draw rows || has_workers rows)
is_taken mode.Check rows = not (has_draw rows || has_workers rows || has_report rows)
is_taken mode.Generate rows = not (has_workers rows || has_report rows)

-- ---- orders

abbrev pub mode_of : Text → Option Mode
mode_of t =
    if bytes_eq t (codes "run") then Some mode.Run
    else (if bytes_eq t (codes "simulate") then Some mode.Simulate
    else (if bytes_eq t (codes "check") then Some mode.Check
    else (if bytes_eq t (codes "generate") then Some mode.Generate else None)))

abbrev pub order_by : Mode → List Row → Option ℕ → Option ℕ → Option ℕ → Option Order
order_by m rows (Some workers) (Some seed) (Some size) = Some (record {
  mode = m;
  workers = workers;
  history = is_set (codes "history") rows;
  summary = is_set (codes "summary") rows;
  seed = seed;
  size = size;
  bundle = is_set (codes "bundle") rows;
})
order_by m rows _ _ _ = None

-- each number of 19 digits is below 2 ^ 64
abbrev pub order_as : List Row → Mode → Option Order
order_as rows m =
    if is_taken m rows then
    order_by m rows (number_or 1 1 most_workers (first_of (codes "workers") rows))
    (number_or 1 0 (2 ^ 64 - 1) (first_of (codes "seed") rows))
    (number_or 100 0 most_size (first_of (codes "size") rows))
    else None

abbrev pub order_in : List Row → Option Order
order_in rows = option_and_then (order_as rows) (option_and_then mode_of (first_of (codes "mode") rows))

-- the order that words say, or none where they are not of the command
abbrev pub order_of : List Text → Option Order
order_of words = if is_sound words then order_in (matches_of argo words) else None
