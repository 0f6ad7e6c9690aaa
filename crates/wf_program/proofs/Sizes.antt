-- The size that an order says is within its limit.
use Rattle.std.proofs.Common.{◌≡◌, ℕ, ◌≤◌, List, Bool, true, false, Option, Some, None, ◌&&◌, nat_le, refl, ap, subst, arith}
use Rattle.std.specs.Prelude.{if◌then◌else◌, option_and_then, option_map, codes}
use Rattle.std.proofs.lemmas.Bool.{leb-true}
use Rattle.base_types.specs.Limits.{most_size}
use Rattle.clap.specs.Words.{Row, Text, first_of, matches_of}
use Rattle.command_words.specs.declared.order.Mode.{Mode}
use Rattle.command_words.specs.declared.order.Order.{Order}
use Rattle.command_words.specs.Command.{argo, is_sound}
use Rattle.command_words.specs.Orders.{are_digits, is_within, is_taken, number_or, within, order_by, order_as, order_in, order_of}

if_some : {A : Type 0} (b : Bool) (o : Option A) (x : A) → (if b then o else None) ≡ Some x → o ≡ Some x
if_some true o x e = e
if_some false o x e = absurd cc

and_second : (a b : Bool) → (a && b) ≡ true → b ≡ true
and_second true b e = e
and_second false b e = absurd cc

same_number : (n k : ℕ) → (let o : Option ℕ = Some n in o) ≡ Some k → n ≡ k
same_number n k e = cc

within_high : (low high n k : ℕ) → within low high n ≡ Some k → k ≤ high
within_high low high n k e = by (is_within low high n) refl e
  where
    by : (b : Bool) → is_within low high n ≡ b → (if b then Some n else None) ≡ Some k → k ≤ high
    by true q f = subst (λ x. x ≤ high) (same_number n k f) (leb-true n high (and_second (nat_le low n) (nat_le n high) q))
    by false q f = absurd cc

number_high : (n low high k : ℕ) → n ≤ high → (t : Option Text) → number_or n low high t ≡ Some k → k ≤ high
number_high n low high k below None e = subst (λ x. x ≤ high) (same_number n k e) below
number_high n low high k below (Some t) e = within_high low high _ k (if_some (are_digits t) _ k e)

by_size : (m : Mode) (rows : List Row) (w s z : Option ℕ) (order : Order) → order_by m rows w s z ≡ Some order → z ≡ Some order.size
by_size m rows (Some w) (Some s) (Some z) order e = ap (option_map (λ (o : Order). o.size)) e
by_size m rows (Some w) (Some s) None order e = absurd cc
by_size m rows (Some w) None z order e = absurd cc
by_size m rows None s z order e = absurd cc

as_small : (rows : List Row) (m : Mode) (order : Order) → order_as rows m ≡ Some order → order.size ≤ most_size
as_small rows m order e =
    number_high 100 0 most_size order.size (omega arith) (first_of (codes "size") rows)
    (by_size m rows _ _ _ order (if_some (is_taken m rows) _ order e))

in_small : (rows : List Row) (order : Order) → order_in rows ≡ Some order → order.size ≤ most_size
in_small rows order e = by _ e
  where
    by : (m : Option Mode) → option_and_then (order_as rows) m ≡ Some order → order.size ≤ most_size
    by None f = absurd cc
    by (Some m) f = as_small rows m order f

pub size_small : (words : List Text) (order : Order) → order_of words ≡ Some order → order.size ≤ most_size
size_small words order e = in_small (matches_of argo words) order (if_some (is_sound words) _ order e)
