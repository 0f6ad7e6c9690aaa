-- When a `when` is true (the rules of tests and numbers are this project's own).
use Rattle.std.specs.Prelude.{ℕ, ◌+◌, ◌-◌, ◌*◌, List, [], ◌∷◌, Bool, true, false, not, ◌==◌, nat_lt, nat_le, nat_eq, bytes_eq, Option, Some, None, if◌then◌else◌}
use Rattle.std.specs.Char.{is_ascii_digit}
use Rattle.when_expr.specs.Expression.{Order, equal, unequal, below, at_most, above, at_least, Term, quoted, word, Condition, literal, test, negated, all_of, any_of}

-- ---- whole numbers of 64 signed bits. Each stands here as its distance from the least one: as 2 ^ 63 more than it is

abbrev pub zero_point : ℕ
zero_point = 9223372036854775808

-- the number of decimal digits, behind those of a number before
abbrev pub digits_from : ℕ → List ℕ → Option ℕ
digits_from before [] = Some before
digits_from before (d ∷ ds) = if is_ascii_digit d then digits_from (10 * before + (d - 48)) ds else None

abbrev pub up_to_limit : Option ℕ → Option ℕ
up_to_limit None = None
up_to_limit (Some n) = if nat_le n zero_point then Some n else None

-- the number of one or more digits, up to 2 ^ 63
abbrev pub magnitude : List ℕ → Option ℕ
magnitude [] = None
magnitude (d ∷ ds) = up_to_limit (digits_from 0 (d ∷ ds))

abbrev pub below_zero : Option ℕ → Option ℕ
below_zero None = None
below_zero (Some n) = Some (zero_point - n)

abbrev pub from_zero : Option ℕ → Option ℕ
from_zero None = None
from_zero (Some n) = if nat_lt n zero_point then Some (zero_point + n) else None

-- the whole number that a word is: an optional minus sign, and digits
abbrev pub word_number : List ℕ → Option ℕ
word_number [] = None
word_number (b ∷ bs) = if b == 45 then below_zero (magnitude bs) else from_zero (magnitude (b ∷ bs))

-- quoted text is never a number
abbrev pub term_number : Term → Option ℕ
term_number (quoted text) = None
term_number (word text) = word_number text

abbrev pub term_text : Term → List ℕ
term_text (quoted text) = text
term_text (word text) = text

-- ---- tests

abbrev pub pair : Option ℕ → Option ℕ → Option (ℕ × ℕ)
pair (Some a) (Some b) = Some (a, b)
pair (Some a) None = None
pair None b = None

-- the numbers of both sides, where both are numbers
abbrev pub numbers : Term → Term → Option (ℕ × ℕ)
numbers l r = pair (term_number l) (term_number r)

abbrev pub same_by : Option (ℕ × ℕ) → Bool → Bool
same_by None texts = texts
same_by (Some p) texts = nat_eq p.0 p.1

-- equal numbers where both sides are numbers, else equal texts
abbrev pub same : Term → Term → Bool
same l r = same_by (numbers l r) (bytes_eq (term_text l) (term_text r))

-- whether two numbers are in an order
abbrev pub is_in_order : Order → ℕ → ℕ → Bool
is_in_order below a b = nat_lt a b
is_in_order at_most a b = nat_le a b
is_in_order above a b = nat_lt b a
is_in_order at_least a b = nat_le b a
is_in_order equal a b = false
is_in_order unequal a b = false

-- an order test needs numbers on both sides
abbrev pub order_truth : Order → Option (ℕ × ℕ) → Option Bool
order_truth o None = None
order_truth o (Some p) = Some (is_in_order o p.0 p.1)

abbrev pub test_truth : Order → Term → Term → Option Bool
test_truth equal l r = Some (same l r)
test_truth unequal l r = Some (not (same l r))
test_truth below l r = order_truth below (numbers l r)
test_truth at_most l r = order_truth at_most (numbers l r)
test_truth above l r = order_truth above (numbers l r)
test_truth at_least l r = order_truth at_least (numbers l r)

-- ---- the truth: None where an order test that is reached has a side that is no number

-- `&&`: the right side is reached only where the left one is true
abbrev pub and_then : Option Bool → Option Bool → Option Bool
and_then None b = None
and_then (Some false) b = Some false
and_then (Some true) b = b

-- `||`: the right side is reached only where the left one is false
abbrev pub or_then : Option Bool → Option Bool → Option Bool
or_then None b = None
or_then (Some false) b = b
or_then (Some true) b = Some true

abbrev pub not_then : Option Bool → Option Bool
not_then None = None
not_then (Some b) = Some (not b)

abbrev pub truth : Condition → Option Bool
truth (literal b) = Some b
truth (test l o r) = test_truth o l r
truth (negated c) = not_then (truth c)
truth (all_of c d) = and_then (truth c) (truth d)
truth (any_of c d) = or_then (truth c) (truth d)
