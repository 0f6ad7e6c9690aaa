-- Marks spread from the targets over the rows, from the last place of an order to the first.
use Rattle.std.proofs.Common.{◌≡◌, ◌⊎◌, ℕ, suc, ◌<◌, List, [], length, get_or, replicate, take, Bool, true, false, cond, refl, sym, ap, ◌∙◌, subst, inl, inr, arith}
use Rattle.std.proofs.Math.Seq.{take-suc}
use Rattle.std.specs.List.{All, Contains}
use Rattle.std.proofs.lemmas.Bool.{cases_lt}
use Rattle.std.proofs.lemmas.List.{length-replicate, get_or_past, take_all}
use Rattle.std.proofs.lemmas.List.Elements.{All-contains, All-get_or, Contains-push_cases}
use Rattle.task_order.specs.Orders.{row, AreWithin, IsOrder}
use Rattle.task_order.proofs.Among.{Among, among_from, contains_from}
use Rattle.dag_plan.specs.Inside.Marks.{is_marked, marked, spread, Found, target, above, AreFound}
use Rattle.dag_plan.proofs.Marking.{marked_long, marked_within, none_marked, stays, now_marked, only_these}

-- the row of a marked place is marked, or the place is still to come
pub record Spread (rows : List (List ℕ)) (order targets : List ℕ) (left : ℕ) (marks : List Bool) : Type 0 where
  pub long : length marks ≡ length rows
  pub sound : (p : ℕ) → is_marked marks p ≡ true → Found rows targets p
  pub first : (p : ℕ) → Contains targets p → is_marked marks p ≡ true
  pub closed :
      (p : ℕ) → is_marked marks p ≡ true →
      ((q : ℕ) → Contains (row rows p) q → is_marked marks q ≡ true) ⊎ Contains (take left order) p

module _ (rows : List (List ℕ)) (order targets : List ℕ) (within : AreWithin rows) (o : IsOrder rows order) (low : All (λ p. p < length rows) targets) where
  row_low : (v q : ℕ) → Contains (row rows v) q → q < length rows
  row_low v q c =
      elim (cases_lt v (length rows)) [
        | inl below ↦ All-contains (λ d. d < length rows) (row rows v) q (All-get_or (All (λ d. d < length rows)) rows v [] below within) c
        | inr past ↦ absurd (among_from [] q (subst (λ r. Contains r q) (get_or_past rows v [] past) c))
      ]

  pub begin : Spread rows order targets (length order) (marked (replicate (length rows) false) targets)
  begin = record {
    long = marked_long (replicate (length rows) false) targets ∙ length-replicate (length rows) false;
    sound = λ p e. sound_first p (only_these (replicate (length rows) false) targets p e);
    first = λ p c.
        now_marked (replicate (length rows) false) targets p
        (let long : length (replicate (length rows) false) ≡ length rows = length-replicate (length rows) false in
        let below : p < length rows = All-contains (λ p. p < length rows) targets p low c in
        omega arith)
        (among_from targets p c);
    closed = λ p e. inr (whole p e);
  }
    where
      sound_first : (p : ℕ) → (is_marked (replicate (length rows) false) p ≡ true) ⊎ Among p targets → Found rows targets p
      sound_first p (inl e) = absurd (let none : is_marked (replicate (length rows) false) p ≡ false = none_marked (length rows) p in cc)
      sound_first p (inr a) = target (contains_from targets p a)

      whole : (p : ℕ) → is_marked (marked (replicate (length rows) false) targets) p ≡ true → Contains (take (length order) order) p
      whole p e =
          let long : length (marked (replicate (length rows) false) targets) ≡ length rows = marked_long (replicate (length rows) false) targets ∙ length-replicate (length rows) false in
          let below : p < length (marked (replicate (length rows) false) targets) = marked_within (marked (replicate (length rows) false) targets) p e in
          subst (λ xs. Contains xs p) (sym (take_all (length order) order (omega arith))) (o.whole p (omega arith))

  module _ (left : ℕ) (marks : List Bool) (lt : left < length order) (s : Spread rows order targets (suc left) marks) where
    abbrev here : ℕ
    here = get_or order left 0

    by : (b : Bool) → is_marked marks here ≡ b → Spread rows order targets left (cond b (marked marks (row rows here)) marks)
    by true e = record {
      long = marked_long marks (row rows here) ∙ s.long;
      sound = λ p f. sound_more p (only_these marks (row rows here) p f);
      first = λ p c. stays marks (row rows here) p (s.first p c);
      closed = λ p f. closed_more p (only_these marks (row rows here) p f);
    }
      where
        sound_more : (p : ℕ) → (is_marked marks p ≡ true) ⊎ Among p (row rows here) → Found rows targets p
        sound_more p (inl f) = s.sound p f
        sound_more p (inr a) = above here (s.sound here e) (contains_from (row rows here) p a)

        new_closed : (p : ℕ) → (p ≡ here) → (q : ℕ) → Contains (row rows p) q → is_marked (marked marks (row rows here)) q ≡ true
        new_closed p same q c =
            let there : Contains (row rows here) q = subst (λ x. Contains (row rows x) q) same c in
            now_marked marks (row rows here) q (let low : q < length rows = row_low here q there in omega (arith, s.long, low)) (among_from (row rows here) q there)

        old_closed : (p : ℕ) → ((q : ℕ) → Contains (row rows p) q → is_marked marks q ≡ true) ⊎ Contains (take (suc left) order) p →
            ((q : ℕ) → Contains (row rows p) q → is_marked (marked marks (row rows here)) q ≡ true) ⊎ Contains (take left order) p
        old_closed p (inl f) = inl (λ q c. stays marks (row rows here) q (f q c))
        old_closed p (inr c) =
            elim (Contains-push_cases (take left order) here p (subst (λ xs. Contains xs p) (take-suc order left 0 lt) c)) [
              | inl before ↦ inr before
              | inr same ↦ inl (new_closed p (sym same))
            ]

        closed_more : (p : ℕ) → (is_marked marks p ≡ true) ⊎ Among p (row rows here) →
            ((q : ℕ) → Contains (row rows p) q → is_marked (marked marks (row rows here)) q ≡ true) ⊎ Contains (take left order) p
        closed_more p (inl f) = old_closed p (s.closed p f)
        closed_more p (inr a) = inr (All-contains (Contains (take left order)) (row rows here) p (o.behind left lt) (contains_from (row rows here) p a))
    by false e = record {
      long = s.long;
      sound = s.sound;
      first = s.first;
      closed = λ p f. closed_same p f (s.closed p f);
    }
      where
        closed_same : (p : ℕ) → is_marked marks p ≡ true → ((q : ℕ) → Contains (row rows p) q → is_marked marks q ≡ true) ⊎ Contains (take (suc left) order) p →
            ((q : ℕ) → Contains (row rows p) q → is_marked marks q ≡ true) ⊎ Contains (take left order) p
        closed_same p f (inl g) = inl g
        closed_same p f (inr c) =
            elim (Contains-push_cases (take left order) here p (subst (λ xs. Contains xs p) (take-suc order left 0 lt) c)) [
              | inl before ↦ inr before
              | inr same ↦ absurd (let other : is_marked marks p ≡ false = ap (is_marked marks) (sym same) ∙ e in cc)
            ]

    pub more : Spread rows order targets left (spread rows marks here)
    more = by (is_marked marks here) refl

  pub end : (marks : List Bool) → Spread rows order targets 0 marks → AreFound rows targets marks
  end marks s = record { long = s.long; exact = λ p. (s.sound p, whole p) }
    where
      whole : (p : ℕ) → Found rows targets p → is_marked marks p ≡ true
      whole p (target c) = s.first p c
      whole p (above q f c) = next (s.closed q (whole q f))
        where
          next : ((r : ℕ) → Contains (row rows q) r → is_marked marks r ≡ true) ⊎ Contains (take 0 order) q → is_marked marks p ≡ true
          next (inl g) = g p c
          next (inr n) = absurd (among_from (take 0 order) q n)
