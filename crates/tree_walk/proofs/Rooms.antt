-- The room that calls take.
use Rattle.std.proofs.Common.{◌≡◌, ℕ, zero, suc, ◌+◌, ◌≤◌, List, [], ◌∷◌, ◌++◌, append_assoc, length, drop, Result, Ok, Err, sym, ap, ◌∙◌, subst, arith}
use Rattle.std.specs.Prelude.{IsErrAnd}
use Rattle.std.proofs.lemmas.List.{append-nil, drop_all}
use Rattle.base_types.specs.Limits.{most_nodes}
use Rattle.meaning.specs.Lines.{Made, numbered}
use Rattle.tree_state.specs.declared.refused.TreeRefused.{TreeRefused}
use Rattle.tree_state.specs.declared.refused.TreeRefused.TheVariants.{TooLarge, Memory}
use Rattle.tree_state.specs.Counting.{count, Takes, Gives}
use Rattle.row_states.specs.Rows.{count_row}
use Rattle.tree_walk.specs.Walking.{GivesRow}

pub count_row_then : (ms : List Made) (m : Made) → count_row (ms ++ m ∷ []) ≡ count_row ms + count m
count_row_then [] m = omega arith
count_row_then (x ∷ ms) m = omega (arith, count_row_then ms m)

pub count_row_both : (ms ns : List Made) → count_row (ms ++ ns) ≡ count_row ms + count_row ns
count_row_both [] ns = omega arith
count_row_both (x ∷ ms) ns = omega (arith, count_row_both ms ns)

-- each call has a node
pub row_is_short : (ms : List Made) → length ms ≤ count_row ms
row_is_short [] = omega arith
row_is_short (x ∷ ms) = omega (arith, row_is_short ms)

-- the same of an equal thing
pub gives_as : (before after : ℕ) (r : Result Made TreeRefused) (m n : Made) → m ≡ n → Gives before after r m → Gives before after r n
gives_as before after r m n same given = subst (λ (x : Made). Gives before after r x) same given

-- there is no room for a node
pub no_room : (before after : ℕ) (m : Made) (e : TreeRefused) → Takes before after (Err e) → Gives before after (Err e) m
no_room before after m TooLarge none = omega (arith, none)
no_room before after m Memory none = tt

-- there is no room for the calls below a node
pub row_fails : (before mid after : ℕ) (m : Made) (ms : List Made) (e : TreeRefused) → count m ≡ suc (count_row ms) → before ≡ suc mid → GivesRow mid after (Err e) ms → Gives before after (Err e) m
row_fails before mid after m ms TooLarge counted taken fails = omega (arith, counted, taken, fails)
row_fails before mid after m ms Memory counted taken fails = tt

-- ---- a row of calls, one after the other: `made` says what the call at a position makes

module _ {X : Type 0} (made : ℕ → X → Made) where
  pub row_more : (states : List Made) (i : ℕ) (x : X) (s : Made) (xs rest : List X) (whole : List Made) → rest ≡ x ∷ xs → s ≡ made i x → states ++ numbered made i rest ≡ whole →
      (states ++ s ∷ []) ++ numbered made (suc i) xs ≡ whole
  row_more states i x s xs rest whole here is so_far =
      ap (λ y. (states ++ y ∷ []) ++ numbered made (suc i) xs) is
      ∙ append_assoc states (made i x ∷ []) (numbered made (suc i) xs)
      ∙ ap (λ ys. states ++ numbered made i ys) (sym here)
      ∙ so_far

  pub row_stops : (states : List Made) (i : ℕ) (x : X) (xs rest : List X) (whole : List Made) (before mid after : ℕ) (e : TreeRefused) → rest ≡ x ∷ xs → states ++ numbered made i rest ≡ whole →
      mid + count_row states ≡ before → Gives mid after (Err e) (made i x) → GivesRow before after (Err e) whole
  row_stops states i x xs rest whole before mid after TooLarge here so_far room fails =
      let all : count_row whole ≡ count_row states + count_row (numbered made i rest) = ap count_row (sym so_far) ∙ count_row_both states (numbered made i rest) in
      let here_too : count_row (numbered made i rest) ≡ count (made i x) + count_row (numbered made (suc i) xs) = ap (λ ys. count_row (numbered made i ys)) here ∙ counted in
      omega (arith, all, here_too, room, fails)
    where
      counted : count_row (numbered made i (x ∷ xs)) ≡ count (made i x) + count_row (numbered made (suc i) xs)
      counted = omega arith
  row_stops states i x xs rest whole before mid after Memory here so_far room fails = tt

-- ---- what a `?` passes on

pub by_err : {A : Type 0} (P : Result A TreeRefused → Type 0) (r : Result A TreeRefused) (e : TreeRefused) → IsErrAnd r (λ z. z ≡ e) → P (Err e) → P r
by_err P (Ok a) e is p = absurd is
by_err P (Err z) e is p = subst (λ w. P (Err w)) (sym is) p

-- a part that does not fit, of a whole that is no smaller
pub part_fails : (before after : ℕ) (m n : Made) (e : TreeRefused) → count m ≤ count n → Gives before after (Err e) m → Gives before after (Err e) n
part_fails before after m n TooLarge less fails = omega (arith, less, fails)
part_fails before after m n Memory less fails = tt

-- a position in a row that fits
pub few_in_row : (states : List Made) (i room before : ℕ) → length states ≡ i → room + count_row states ≡ before → before ≤ most_nodes → i ≤ most_nodes
few_in_row states i room before long taken few = omega (arith, row_is_short states, long, taken, few)

pub long_more : (states : List Made) (s : Made) (i : ℕ) → length states ≡ i → length (states ++ s ∷ []) ≡ i + 1
long_more [] s i long = omega (arith, long)
long_more (x ∷ states) s zero long = absurd (omega (arith, long))
long_more (x ∷ states) s (suc i) long = let shorter : length states ≡ i = omega (arith, long) in omega (arith, long_more states s i shorter)

pub room_more : (states : List Made) (s : Made) (before mid after : ℕ) → mid + count_row states ≡ before → after + count s ≡ mid → after + count_row (states ++ s ∷ []) ≡ before
room_more states s before mid after taken more = omega (arith, count_row_then states s, taken, more)

pub room_after : (states : List Made) (s made : Made) (before mid after : ℕ) → mid + count_row states ≡ before → (s ≡ made) × (after + count made ≡ mid) → after + count_row (states ++ s ∷ []) ≡ before
room_after states s made before mid after taken given = omega (arith, count_row_then states s, taken, ap count given.0, given.1)

module _ {X : Type 0} (made : ℕ → X → Made) where
  pub row_next : (states : List Made) (i : ℕ) (x : X) (s : Made) (xs rest : List X) (whole : List Made) → rest ≡ x ∷ xs → s ≡ made i x → states ++ numbered made i rest ≡ whole →
      (states ++ s ∷ []) ++ numbered made (i + 1) xs ≡ whole
  row_next states i x s xs rest whole here is so_far =
      let step : i + 1 ≡ suc i = omega arith in
      ap (λ n. (states ++ s ∷ []) ++ numbered made n xs) step ∙ row_more made states i x s xs rest whole here is so_far

  pub row_done : (states : List Made) (i : ℕ) (xs : List X) (before after : ℕ) → length xs ≤ i → states ++ numbered made i (drop i xs) ≡ numbered made 0 xs → after + count_row states ≡ before →
      (states ≡ numbered made 0 xs) × (after + count_row (numbered made 0 xs) ≡ before)
  row_done states i xs before after past so_far room =
      let all : states ≡ numbered made 0 xs = sym (append-nil states) ∙ sym (ap (λ ys. states ++ numbered made i ys) (drop_all i xs past)) ∙ so_far in
      (all, omega (arith, ap count_row all, room))
