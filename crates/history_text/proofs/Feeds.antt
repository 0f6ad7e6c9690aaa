-- A text without a line feed.
use Rattle.std.proofs.Common.{◌≡◌, ℕ, zero, suc, ◌+◌, ◌<◌, ◌%◌, ◌^◌, Bool, true, not, ◌&&◌, ◌==◌, List, [], ◌∷◌, ◌++◌, length, get_or, take, inl, inr, refl, ap₂, arith, decimal}
use Rattle.std.proofs.lemmas.Bool.{and_parts, and_from, cases_lt, cases_eq, ne_eqb}
use Rattle.std.proofs.lemmas.List.{take_more}
use Rattle.std.proofs.lemmas.Fmt.{decimal_by_steps}
use Rattle.history_text.specs.Inside.Bytes.{is_one_line}
use Rattle.json.specs.Print.{escape_byte, escape, quoted}
use Rattle.json.proofs.Printed.Strings.{escape_byte_plain}

pub IsLine-append : (xs ys : List ℕ) → is_one_line xs ≡ true → is_one_line ys ≡ true → is_one_line (xs ++ ys) ≡ true
IsLine-append [] ys p q = q
IsLine-append (x ∷ xs) ys p q = let parts = and_parts _ _ p in and_from _ _ parts.0 (IsLine-append xs ys parts.1 q)

other : (x : ℕ) → (x ≡ 10 → ⊥) → is_one_line (x ∷ []) ≡ true
other x h = rw (ne_eqb x 10 h)

-- ---- numbers

pub IsLine-decimal : (n : ℕ) → n < 2 ^ 64 → is_one_line (decimal n) ≡ true
IsLine-decimal = decimal_by_steps (λ n ds. is_one_line ds ≡ true) (λ n h. other (48 + n) (λ e. omega arith)) (λ n ds h p. IsLine-append ds _ p (other (48 + n % 10) (λ e. omega arith)))

-- ---- texts in quotes

-- the escapes of the bytes below n are without one
abbrev lines_below : ℕ → Bool
lines_below zero = true
lines_below (suc n) = is_one_line (escape_byte n) && lines_below n

line_below : (n : ℕ) → lines_below n ≡ true → (x : ℕ) → x < n → is_one_line (escape_byte x) ≡ true
line_below zero e x h = absurd (omega arith)
line_below (suc n) e x h =
    let p = and_parts _ _ e in
    elim (cases_eq x n) [ inl same ↦ rw same p.0 | inr other ↦ line_below n p.1 x (omega arith) ]

all_lines : lines_below 128 ≡ true
unfolding escape_byte
all_lines = refl

IsLine-escape_byte : (x : ℕ) → is_one_line (escape_byte x) ≡ true
IsLine-escape_byte x = elim (cases_lt x 128) [
  | inl small ↦ line_below 128 all_lines x small
  | inr big ↦ rw (escape_byte_plain x (λ e. omega arith) (λ e. omega arith) (omega arith)) (other x (λ e. omega arith))
]

IsLine-escape : (s : List ℕ) → is_one_line (escape s) ≡ true
IsLine-escape [] = refl
IsLine-escape (x ∷ s) = IsLine-append (escape_byte x) (escape s) (IsLine-escape_byte x) (IsLine-escape s)

pub IsLine-quoted : (s : List ℕ) → is_one_line (quoted s) ≡ true
IsLine-quoted s = IsLine-append (escape s) (34 ∷ []) (IsLine-escape s) refl

-- ---- the first line feed

pub line_more : (bytes : List ℕ) (i d : ℕ) → i < length bytes → is_one_line (take i bytes) ≡ true → (get_or bytes i d ≡ 10 → ⊥) → is_one_line (take (i + 1) bytes) ≡ true
line_more bytes i d within before here = rw (take_more bytes i d within) (IsLine-append (take i bytes) (get_or bytes i d ∷ []) before (other (get_or bytes i d) here))

-- a text with one is not without
pub feed_inside : (xs ys : List ℕ) → is_one_line (xs ++ 10 ∷ ys) ≡ true → ⊥
feed_inside [] ys h = cc
feed_inside (x ∷ xs) ys h = feed_inside xs ys (and_parts _ _ h).1

not_feed : (x : ℕ) (xs : List ℕ) → is_one_line (x ∷ xs) ≡ true → x ≡ 10 → ⊥
not_feed x xs h e = let first : not (x == 10) ≡ true = (and_parts _ _ h).0 in let same : not (10 == 10) ≡ true = rw e at first in absurd (cc)

-- two texts with the same first line have the same rest
pub same_lines : (xs ys us vs : List ℕ) → is_one_line xs ≡ true → is_one_line ys ≡ true → xs ++ 10 ∷ us ≡ ys ++ 10 ∷ vs → (xs ≡ ys) × (us ≡ vs)
same_lines [] [] us vs p q e = (refl, cc)
same_lines [] (y ∷ ys) us vs p q e = absurd (not_feed y ys q cc)
same_lines (x ∷ xs) [] us vs p q e = absurd (not_feed x xs p cc)
same_lines (x ∷ xs) (y ∷ ys) us vs p q e =
    let tails : xs ++ 10 ∷ us ≡ ys ++ 10 ∷ vs = cc in
    let heads : x ≡ y = cc in
    let rest = same_lines xs ys us vs (and_parts _ _ p).1 (and_parts _ _ q).1 tails in
    (ap₂ (λ (a : ℕ) (l : List ℕ). a ∷ l) heads rest.0, rest.1)
