-- Where a new waiter goes among those that wait.
use Rattle.std.proofs.Common.{◌≡◌, ℕ, zero, suc, ◌+◌, ◌-◌, ◌<◌, ◌≤◌, inl, inr, Bool, true, false, not, List, [], ◌∷◌, ◌++◌, length, get_or, Option, Some, None, refl, sym, ◌∙◌, ap, ap₂, subst, arith, true≢false}
use Rattle.std.specs.Prelude.{slice_get}
use Rattle.std.specs.List.{AllPairs, AllWithin, insert}
use Rattle.std.specs.List.Sorted.{IsPartitionedBy, IsPartitionPoint}
use Rattle.std.specs.Cmp.{IsTotalOrder}
use Rattle.std.proofs.lemmas.Bool.{cases_lt}
use Rattle.std.proofs.lemmas.List.Edits.{length-insert, get_or-insert_below, get_or-insert_at, get_or-insert_above}
use Rattle.books.specs.Books.{rank_cmp, before}
use Rattle.sync_locks.specs.declared.asked.Asked.{Asked}
use Rattle.sync_locks.specs.Inside.Queues.{asks, overtakes, ranks_sooner, is_sooner, GoesBefore}
use Rattle.sync_locks.proofs.Ranked.{before_rest, not_behind}

-- ---- pairs of a list with an item more

moved : (R : ℕ → ℕ → Type 0) (x y x' y' : ℕ) → x ≡ x' → y ≡ y' → R x' y' → R x y
moved R x y x' y' e f h = subst (λ (z : ℕ). R z y) (sym e) (subst (R x') (sym f) h)

module _ (R : ℕ → ℕ → Type 0) (xs : List ℕ) (i y : ℕ) (within : i ≤ length xs) (pairs : AllPairs R xs) (front : AllWithin (λ x. R x y) xs 0 i) (back : AllWithin (λ x. R y x) xs i (length xs)) where
  above : (k d : ℕ) → i < k → get_or (insert xs i y) k d ≡ get_or xs (k - 1) d
  above k d h =
      ap (λ (n : ℕ). get_or (insert xs i y) n d) (let z : k ≡ k - 1 + 1 = omega (arith, h) in z)
      ∙ get_or-insert_above xs i y d (k - 1) (omega (arith, h)) within

  below_pair : (a b d : ℕ) → a < b → b < i → R (get_or (insert xs i y) a d) (get_or (insert xs i y) b d)
  below_pair a b d l h =
      moved R (get_or (insert xs i y) a d) (get_or (insert xs i y) b d) (get_or xs a d) (get_or xs b d)
      (get_or-insert_below xs i y d a (omega (arith, l, h)) within)
      (get_or-insert_below xs i y d b h within)
      (pairs a b d l (omega (arith, h, within)))

  into_pair : (a d : ℕ) → a < i → R (get_or (insert xs i y) a d) (get_or (insert xs i y) i d)
  into_pair a d l =
      moved R (get_or (insert xs i y) a d) (get_or (insert xs i y) i d) (get_or xs a d) y
      (get_or-insert_below xs i y d a l within)
      (get_or-insert_at xs i y d within)
      (front a d (omega arith) l)

  from_pair : (b d : ℕ) → i < b → b - 1 < length xs → R (get_or (insert xs i y) i d) (get_or (insert xs i y) b d)
  from_pair b d l h =
      moved R (get_or (insert xs i y) i d) (get_or (insert xs i y) b d) y (get_or xs (b - 1) d)
      (get_or-insert_at xs i y d within)
      (above b d l)
      (back (b - 1) d (omega (arith, l)) h)

  around_pair : (a b d : ℕ) → a < i → i < b → b - 1 < length xs → R (get_or (insert xs i y) a d) (get_or (insert xs i y) b d)
  around_pair a b d l m h =
      moved R (get_or (insert xs i y) a d) (get_or (insert xs i y) b d) (get_or xs a d) (get_or xs (b - 1) d)
      (get_or-insert_below xs i y d a l within)
      (above b d m)
      (pairs a (b - 1) d (omega (arith, l, m)) h)

  above_pair : (a b d : ℕ) → i < a → a < b → b - 1 < length xs → R (get_or (insert xs i y) a d) (get_or (insert xs i y) b d)
  above_pair a b d l m h =
      moved R (get_or (insert xs i y) a d) (get_or (insert xs i y) b d) (get_or xs (a - 1) d) (get_or xs (b - 1) d)
      (above a d l)
      (above b d (omega (arith, l, m)))
      (pairs (a - 1) (b - 1) d (omega (arith, l, m)) h)

  beyond : (a b d : ℕ) → a < b → i < b → b - 1 < length xs → R (get_or (insert xs i y) a d) (get_or (insert xs i y) b d)
  beyond a b d l m h =
      elim (cases_lt a i) [
        | inl low ↦ around_pair a b d low m h
        | inr high ↦ elim (cases_lt i a) [
          | inl more ↦ above_pair a b d more l h
          | inr least ↦
              subst (λ (n : ℕ). R (get_or (insert xs i y) n d) (get_or (insert xs i y) b d)) (let z : i ≡ a = omega (arith, high, least) in z) (from_pair b d m h)
        ]
      ]

  pub pairs_insert : AllPairs R (insert xs i y)
  pairs_insert a b d l h =
      let long = length-insert xs i y within in
      elim (cases_lt b i) [
        | inl low ↦ below_pair a b d l low
        | inr high ↦ elim (cases_lt i b) [
          | inl more ↦ beyond a b d l more (omega (arith, h, long, more))
          | inr least ↦
              subst (λ (n : ℕ). R (get_or (insert xs i y) a d) (get_or (insert xs i y) n d)) (let z : i ≡ b = omega (arith, high, least) in z) (into_pair a d (omega (arith, l, least)))
        ]
      ]

-- ---- ranks at places

get_old : (asked : List Asked) (a : Asked) (n : ℕ) → n < length asked → slice_get (asked ++ a ∷ []) n ≡ slice_get asked n
get_old [] a n h = absurd (omega arith)
get_old (b ∷ asked) a zero h = refl
get_old (b ∷ asked) a (suc n) h = get_old asked a n (omega (arith, h))

get_new : (asked : List Asked) (a : Asked) → slice_get (asked ++ a ∷ []) (length asked) ≡ Some a
get_new [] a = refl
get_new (b ∷ asked) a = get_new asked a

not_not : (b : Bool) → not b ≡ false → b ≡ true
not_not true h = refl
not_not false h = sym h

not_true : (b : Bool) → not b ≡ true → b ≡ false
not_true true h = sym h
not_true false h = refl

new_first : (a : Asked) (o : Option Asked) → ranks_sooner (Some a) o ≡ asks (λ b. before a.rank b.rank) o
new_first a None = refl
new_first a (Some b) = refl

-- a waiter more, at a place behind all others
module _ (total : IsTotalOrder rank_cmp) (asked : List Asked) (a : Asked) (waiting : List ℕ) (listed : (k d : ℕ) → k < length waiting → (b : Asked) × (slice_get asked (get_or waiting k d) ≡ Some b)) (within : (k d : ℕ) → k < length waiting → get_or waiting k d < length asked) where
  abbrev more : List Asked
  more = asked ++ a ∷ []

  sooner_still : (p q : ℕ) → p < length asked → q < length asked → is_sooner more p q ≡ is_sooner asked p q
  sooner_still p q h k = ap₂ ranks_sooner (get_old asked a p h) (get_old asked a q k)

  goes_still : (p q : ℕ) → p < length asked → q < length asked → GoesBefore asked p q → GoesBefore more p q
  goes_still p q h k g = record {
    not_behind = sooner_still q p k h ∙ g.not_behind;
    filed = λ l. sooner_still p q h k ∙ g.filed l;
  }

  new_sooner : (p : ℕ) → p < length asked → is_sooner more (length asked) p ≡ overtakes a.rank asked p
  new_sooner p h = ap₂ ranks_sooner (get_new asked a) (get_old asked a p h) ∙ new_first a (slice_get asked p)

  goes_to : (p : ℕ) → p < length asked → overtakes a.rank asked p ≡ false → GoesBefore more p (length asked)
  goes_to p h f = record {
    not_behind = new_sooner p h ∙ f;
    filed = λ l. absurd (omega (arith, h, l));
  }

  behind_new : (o : Option Asked) → asks (λ b. before a.rank b.rank) o ≡ true → ranks_sooner o (Some a) ≡ false
  behind_new None e = refl
  behind_new (Some b) e = not_behind total a.rank b.rank e

  goes_from : (p : ℕ) → p < length asked → overtakes a.rank asked p ≡ true → GoesBefore more (length asked) p
  goes_from p h t = record {
    not_behind = ap₂ ranks_sooner (get_old asked a p h) (get_new asked a) ∙ behind_new (slice_get asked p) t;
    filed = λ l. new_sooner p h ∙ t;
  }

  overtakes_rest : (p q : ℕ) (c : Asked) → slice_get asked q ≡ Some c → GoesBefore asked p q → not (overtakes a.rank asked q) ≡ true → not (overtakes a.rank asked p) ≡ true
  overtakes_rest p q c e g f =
      by (slice_get asked p)
      (sym (ap (λ (o : Option Asked). ranks_sooner o (slice_get asked p)) e) ∙ g.not_behind)
      (sym (ap (asks (λ b. before a.rank b.rank)) e) ∙ not_true (overtakes a.rank asked q) f)
    where
      by : (o : Option Asked) → ranks_sooner (Some c) o ≡ false → before a.rank c.rank ≡ false → not (asks (λ b. before a.rank b.rank) o) ≡ true
      by None h k = refl
      by (Some b) h k = case (before a.rank b.rank) refl
        where
          case : (d : Bool) → before a.rank b.rank ≡ d → not d ≡ true
          case false m = refl
          case true m = absurd (true≢false (sym (before_rest total a.rank b.rank c.rank m h) ∙ k))

  module _ (in_turn : AllPairs (GoesBefore asked) waiting) where
    pub parted : IsPartitionedBy (λ p. not (overtakes a.rank asked p)) waiting
    parted i j d l h t =
        elim (cases_lt i j) [
          | inl less ↦
              let there = listed j d h in
              overtakes_rest (get_or waiting i d) (get_or waiting j d) there.0 there.1 (in_turn i j d less h) t
          | inr least ↦ subst (λ (n : ℕ). not (overtakes a.rank asked (get_or waiting n d)) ≡ true) (let z : j ≡ i = omega (arith, l, least) in z) t
        ]

    pub still : AllPairs (GoesBefore more) waiting
    still i j d l h = goes_still (get_or waiting i d) (get_or waiting j d) (within i d (omega (arith, l, h))) (within j d h) (in_turn i j d l h)

    pub lined_up : (turn : ℕ) → turn ≤ length waiting → IsPartitionPoint (λ p. not (overtakes a.rank asked p) ≡ true) (λ p. not (overtakes a.rank asked p) ≡ false) waiting turn → AllPairs (GoesBefore more) (insert waiting turn (length asked))
    lined_up turn h point =
        pairs_insert (GoesBefore more) waiting turn (length asked) h still
        (λ k d l m. goes_to (get_or waiting k d) (within k d (omega (arith, h, m))) (not_true (overtakes a.rank asked (get_or waiting k d)) (point.0 k d l m)))
        (λ k d l m. goes_from (get_or waiting k d) (within k d m) (not_not (overtakes a.rank asked (get_or waiting k d)) (point.1 k d l m)))
