-- What the rule says of single seats.
use Rattle.std.proofs.Common.{◌≡◌, ℕ, ◌+◌, ◌%◌, ◌^◌, ◌<◌, ◌≤◌, true, cond, List, [], ◌∷◌, ◌∙◌, ap, arith}
use Rattle.std.specs.Prelude.{Option, Some, None, ◌==◌}
use Rattle.std.proofs.lemmas.Bool.Decides.{nat_tests}
use mathlib.Core.Option.{some, none}
use mathlib.Core.Option as maybe
use mathlib.Core.Logic.{dite}
use native.Mathlib.Decide.{ℕ_discrete}
use lib.ListN.{get_elem?}
use Rattle.atomic_table.specs.Table.{State}
use Rattle.atomic_table.proofs.Lists.{one_turn}
use Rattle.store_turn.specs.declared.rule.View.{View}
use Rattle.store_turn.specs.Places.{within}
use Rattle.store_turn.specs.Tickets.{has_ticket, has_that, InTurn, BeginsWithAll}
use Rattle.store_turn.proofs.Sums.{sum_two, sum_there, sum_le}

-- one more ticket is out
pub within_more : (low high k : ℕ) → low ≤ high → within low (high + 1) k ≡ within low high k + cond (high == k) 1 0
within_more low high k h = grind (arith, nat_tests)

-- the first ticket is out no more
pub within_less : (low high k : ℕ) → low < high → within low high k ≡ within (low + 1) high k + cond (low == k) 1 0
within_less low high k h = grind (arith, nat_tests)

pub within_one : (low high k : ℕ) → within low high k ≤ 1
within_one low high k = grind (arith, nat_tests)

pub within_from : (low high k : ℕ) → 1 ≤ within low high k → low ≤ k
within_from low high k h = grind (arith, nat_tests)

pub within_to : (low high k : ℕ) → 1 ≤ within low high k → k < high
within_to low high k h = grind (arith, nat_tests)

same_one : (k : ℕ) → ◌≡◌ {A = ℕ} (cond (k == k) 1 0) 1
same_one k = grind (arith, nat_tests)

module _ {E B : Type 0} where
  pub no_ticket : (v : View E B) → v.ticket ≡ None → has_ticket v ≡ 0
  no_ticket v e = ap (λ (t : Option ℕ). elim t [ None ↦ 0 | Some k ↦ 1 ]) e

  pub no_that : (n : ℕ) (v : View E B) → v.ticket ≡ None → has_that n v ≡ 0
  no_that n v e = ap (λ (t : Option ℕ). elim t [ None ↦ 0 | Some k ↦ cond (k == n) 1 0 ]) e

  pub a_ticket : (v : View E B) (k : ℕ) → v.ticket ≡ Some k → has_ticket v ≡ 1
  a_ticket v k e = ap (λ (t : Option ℕ). elim t [ None ↦ 0 | Some k ↦ 1 ]) e

  pub that_ticket : (n : ℕ) (v : View E B) (k : ℕ) → v.ticket ≡ Some k → has_that n v ≡ cond (k == n) 1 0
  that_ticket n v k e = ap (λ (t : Option ℕ). elim t [ None ↦ 0 | Some k ↦ cond (k == n) 1 0 ]) e

  pub its_ticket : (v : View E B) (k : ℕ) → v.ticket ≡ Some k → has_that k v ≡ 1
  its_ticket v k e = that_ticket k v k e ∙ same_one k

module _ {E T B : Type 0} (list : T → List E) (base : T → B) (fixed : B) (s : State T (View E B)) (t : InTurn list base fixed s) where
  -- a list that begins with all that was seen
  pub common : (l : List E) × (BeginsWithAll l s.views)
  common = go t.one.0 t.one.1
    where
      go : (h : maybe.Option T) → s.homes ≡ h ∷ [] → (l : List E) × (BeginsWithAll l s.views)
      go none e = let a = t.away e in (a.1.0.seen, λ j x d. t.under a.0 a.1.0 a.1.1 a.1.2 j x d)
      go (some y) e = (list y, (t.home y e).2)

  -- two seats do not have one ticket
  pub one_ticket : (i j k : ℕ) (v w : View E B) → get_elem? s.views i ≡ some v → get_elem? s.views j ≡ some w → v.ticket ≡ Some k → w.ticket ≡ Some k → i ≡ j
  one_ticket i j k v w e d p q = dite (ℕ_discrete i j) (λ h. h) (λ n. absurd (
      let two = sum_two (has_that k) s.views i j v w n e d in
      let a = its_ticket v k p in
      let b = its_ticket w k q in
      let c = t.each k in
      let d = within_one t.next t.drawn k in omega arith))

  -- the ticket of a seat that is served is the next
  pub out_now : (i k : ℕ) (v : View E B) → get_elem? s.views i ≡ some v → v.ticket ≡ Some k → 1 ≤ within t.next t.drawn k
  out_now i k v e p = let a = sum_there (has_that k) s.views i v e in let b = its_ticket v k p in let c = t.each k in omega arith

  pub next_is : (i k : ℕ) (v : View E B) → get_elem? s.views i ≡ some v → v.ticket ≡ Some k → t.next % 2 ^ 64 ≡ k % 2 ^ 64 → t.next ≡ k
  next_is i k v e p q =
      let w = out_now i k v e p in
      let a = within_from t.next t.drawn k w in
      let b = within_to t.next t.drawn k w in
      let c = sum_le has_ticket (λ (x : View E B). x.share) s.views (λ j x d. (t.views j x d).part) in
      let d = t.shares in
      let o = t.out in
      one_turn t.next k (2 ^ 64) a (omega arith) q

  -- a seat that has read is the only one that is served
  pub alone : (i j : ℕ) (v w : View E B) → get_elem? s.views i ≡ some v → get_elem? s.views j ≡ some w → v.served ≡ true → w.served ≡ true → j ≡ i
  alone i j v w e d p q = one_ticket j i t.next w v d e ((t.views j w d).served q) ((t.views i v e).served p)

  pub alone_read : (i j : ℕ) (v w : View E B) → get_elem? s.views i ≡ some v → get_elem? s.views j ≡ some w → v.served ≡ true → w.read ≡ true → j ≡ i
  alone_read i j v w e d p q = alone i j v w e d p ((t.views j w d).read q).0
