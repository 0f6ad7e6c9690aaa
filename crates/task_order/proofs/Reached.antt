-- Sets of places, filled in order, hold what their places reach.
use Rattle.std.proofs.Common.{◌≡◌, ◌≢◌, ◌⊎◌, ◌↔◌, ℕ, zero, suc, ◌+◌, ◌<◌, ◌≤◌, ◌==◌, ◌||◌, Bool, true, false, IsTrue, List, [], ◌∷◌, ◌++◌, length, get_or, set, take, refl, sym, ap, ◌∙◌, subst, inl, inr, arith}
use Rattle.std.proofs.lemmas.Bool.{eqb-true, eq-eqb}
use Rattle.std.proofs.lemmas.List.{take_more, take_all}
use Rattle.std.proofs.lemmas.List.Elements.{All-contains, Contains-push_cases}
use Rattle.std.proofs.lemmas.List.Folds.{list_any_more}
use Rattle.std.specs.List.{All, Contains, list_any}
use Rattle.task_order.specs.declared.places.Places.{Places}
use Rattle.task_order.specs.Orders.{row, Reaches, at_once, over, IsOrder}
use Rattle.task_order.specs.Inside.Rows.{has, bits_of, HoldReached}
use Rattle.task_order.proofs.Among.{Among, among_from, contains_from, any_from, any_at, same_or}

pub bits_at : (sets : List Places) (v : ℕ) (x : Places) → v < length sets → x ≡ get_or sets v x → bits_of sets v ≡ x.words.items
bits_at [] v x below is = absurd (omega arith)
bits_at (s ∷ ss) zero x below is = ap (λ (y : Places). y.words.items) (sym is)
bits_at (s ∷ ss) (suc v) x below is = bits_at ss v x (omega arith) is

pub bits_same : (sets : List Places) (v : ℕ) (x : Places) → v < length sets → bits_of (set sets v x) v ≡ x.words.items
bits_same [] v x below = absurd (omega arith)
bits_same (s ∷ ss) zero x below = refl
bits_same (s ∷ ss) (suc v) x below = bits_same ss v x (omega arith)

pub bits_other : (sets : List Places) (v w : ℕ) (x : Places) → w ≢ v → bits_of (set sets v x) w ≡ bits_of sets w
bits_other [] v w x other = refl
bits_other (s ∷ ss) zero zero x other = absurd (other refl)
bits_other (s ∷ ss) zero (suc w) x other = refl
bits_other (s ∷ ss) (suc v) zero x other = refl
bits_other (s ∷ ss) (suc v) (suc w) x other = bits_other ss v w x (λ same. other (ap suc same))

-- ---- one place of a row more

or_swap : (e a b : Bool) → (e || (a || b)) ≡ (a || (e || b))
or_swap true true b = refl
or_swap true false b = refl
or_swap false a b = refl

or_turn : (e a b : Bool) → (a || (e || b)) ≡ (e || (a || b))
or_turn e a b = sym (or_swap e a b)

pub gathered_more : (sets : List Places) (waits : List ℕ) (i p d : ℕ) (x : Places) (before with_row after : Bool) → i < length waits → d ≡ get_or waits i 0 → d < length sets → x ≡ get_or sets d x
    → before ≡ list_any (λ e. (p == e) || has (bits_of sets e) p) (take i waits) → with_row ≡ (before || has x.words.items p) → after ≡ ((p == d) || with_row)
    → after ≡ list_any (λ e. (p == e) || has (bits_of sets e) p) (take (i + 1) waits)
gathered_more sets waits i p d x before with_row after below is low at so_far rowed added =
    added
    ∙ ap (λ b. (p == d) || b) rowed
    ∙ or_swap (p == d) before (has x.words.items p)
    ∙ ap (λ b. before || ((p == d) || b)) (ap (λ ws. has ws p) (sym (bits_at sets d x low at)))
    ∙ ap (λ b. b || ((p == d) || has (bits_of sets d) p)) so_far
    ∙ ap (λ e. list_any (λ e. (p == e) || has (bits_of sets e) p) (take i waits) || ((p == e) || has (bits_of sets e) p)) is
    ∙ sym (list_any_more (λ e. (p == e) || has (bits_of sets e) p) waits i 0 below)

-- ---- what a place reaches

module _ (waits : List (List ℕ)) (sets : List Places) where
  abbrev pub Exact : ℕ → Type 0
  Exact v = (p : ℕ) → IsTrue (has (bits_of sets v) p) ↔ Reaches waits p v

  or_parts : (a b : Bool) → (a || b) ≡ true → (a ≡ true) ⊎ (b ≡ true)
  or_parts true b e = inl refl
  or_parts false b e = inr e

  or_first : (a b : Bool) → a ≡ true → (a || b) ≡ true
  or_first true b e = refl
  or_first false b e = absurd cc

  or_second : (a b : Bool) → b ≡ true → (a || b) ≡ true
  or_second true b e = refl
  or_second false b e = e

  gathers : ℕ → ℕ → Bool
  gathers p d = (p == d) || has (bits_of sets d) p

  reached_by : (v p : ℕ) → ((d : ℕ) → Among d (row waits v) → Exact d) → list_any (λ d. (p == d) || has (bits_of sets d) p) (row waits v) ≡ true → Reaches waits p v
  reached_by v p exact e =
      let (d, among, holds) = any_at (λ d. (p == d) || has (bits_of sets d) p) (row waits v) e in
      elim (or_parts (p == d) (has (bits_of sets d) p) holds) [
        | inl same ↦ at_once (subst (λ x. Contains (row waits v) x) (sym (eqb-true p d same)) (contains_from (row waits v) d among))
        | inr there ↦ over d (contains_from (row waits v) d among) ((exact d among p).0 there)
      ]

  by_reached : (v p : ℕ) → ((d : ℕ) → Among d (row waits v) → Exact d) → Reaches waits p v → list_any (λ d. (p == d) || has (bits_of sets d) p) (row waits v) ≡ true
  by_reached v p exact (at_once among) =
      any_from (λ d. (p == d) || has (bits_of sets d) p) (row waits v) p (among_from (row waits v) p among)
      (or_first (p == p) (has (bits_of sets p) p) (eq-eqb p p refl))
  by_reached v p exact (over u among more) =
      let in_row : Among u (row waits v) = among_from (row waits v) u among in
      any_from (λ d. (p == d) || has (bits_of sets d) p) (row waits v) u in_row
      (or_second (p == u) (has (bits_of sets u) p) ((exact u in_row p).1 more))

  -- a set that gathers a row, whose places have their sets, is the set of its place
  pub gathered_exact : (v : ℕ) (words : List ℕ) → ((d : ℕ) → Among d (row waits v) → Exact d) → ((p : ℕ) → has words p ≡ list_any (λ d. (p == d) || has (bits_of sets d) p) (row waits v)) → (p : ℕ) → IsTrue (has words p) ↔ Reaches waits p v
  gathered_exact v words exact gathered p =
      (λ e. reached_by v p exact (sym (gathered p) ∙ e), λ reaches. gathered p ∙ by_reached v p exact reaches)

-- the sets of the places so far
abbrev pub ExactSoFar : List (List ℕ) → List Places → List ℕ → ℕ → Type 0
ExactSoFar waits sets order k = (v : ℕ) → Contains (take k order) v → (p : ℕ) → IsTrue (has (bits_of sets v) p) ↔ Reaches waits p v

pub exact_more : (waits : List (List ℕ)) (sets : List Places) (order : List ℕ) (k v : ℕ) (x : Places) → IsOrder waits order → length sets ≡ length waits → k < length order → v ≡ get_or order k 0
    → ExactSoFar waits sets order k → ((p : ℕ) → has x.words.items p ≡ list_any (λ d. (p == d) || has (bits_of sets d) p) (row waits v)) → ExactSoFar waits (set sets v x) order (k + 1)
exact_more waits sets order k v x o long below is so_far gathered = λ w among p.
    by_place w p (same_or w v) (Contains-push_cases (take k order) v w (subst (λ xs. Contains xs w) more among))
  where
    more : take (k + 1) order ≡ take k order ++ v ∷ []
    more = take_more order k 0 below ∙ ap (λ d. take k order ++ d ∷ []) (sym is)

    low : v < length sets
    low = let within : get_or order k 0 < length waits = o.within k 0 below in omega (arith, is, within)

    row_exact : (d : ℕ) → Among d (row waits v) → Exact waits sets d
    row_exact d among =
        let all : All (Contains (take k order)) (row waits v) = subst (λ u. All (Contains (take k order)) (row waits u)) (sym is) (o.behind k below) in
        so_far d (All-contains (Contains (take k order)) (row waits v) d all (contains_from (row waits v) d among))

    here : (p : ℕ) → IsTrue (has x.words.items p) ↔ Reaches waits p v
    here p = gathered_exact waits sets v x.words.items row_exact gathered p

    by_place : (w p : ℕ) → (w ≡ v) ⊎ (w ≢ v) → Contains (take k order) w ⊎ (v ≡ w) → IsTrue (has (bits_of (set sets v x) w) p) ↔ Reaches waits p w
    by_place w p (inl same) _ =
        subst (λ u. IsTrue (has (bits_of (set sets v x) u) p) ↔ Reaches waits p u) (sym same)
        (subst (λ ws. IsTrue (has ws p) ↔ Reaches waits p v) (sym (bits_same sets v x low)) (here p))
    by_place w p (inr other) (inl before) =
        subst (λ ws. IsTrue (has ws p) ↔ Reaches waits p w) (sym (bits_other sets v w x other)) (so_far w before p)
    by_place w p (inr other) (inr same) = absurd (other (sym same))

pub all_exact : (waits : List (List ℕ)) (sets : List Places) (order : List ℕ) (k : ℕ) → IsOrder waits order → length sets ≡ length waits → length order ≤ k → ExactSoFar waits sets order k → HoldReached waits sets
all_exact waits sets order k o long past exact = record {
  long = long;
  exact = λ v p below. exact v (subst (λ xs. Contains xs v) (sym (take_all k order past)) (o.whole v below)) p;
}
