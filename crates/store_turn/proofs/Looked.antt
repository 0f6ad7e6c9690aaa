-- A seat that looks whether it is served keeps the rule.
use Rattle.std.proofs.Common.{◌≡◌, ℕ, ◌%◌, ◌^◌, true, false, List, [], ◌∷◌, set, refl, sym, ◌∙◌, ap, arith, subst, inl, inr}
use Rattle.std.specs.Prelude.{sum_by, Some, slice_index}
use mathlib.Core.Option.{some, none}
use mathlib.Core.Logic.{dite}
use native.Mathlib.Decide.{ℕ_discrete}
use lib.ListN.{get_elem?}
use Rattle.atomic_table.specs.Table.{State, keeps, step, Allows}
use Rattle.atomic_table.proofs.Lists.{set_again}
use Rattle.store_turn.specs.declared.rule.View.{View}
use Rattle.store_turn.specs.Lists.{StartsWith}
use Rattle.store_turn.specs.Places.{times}
use Rattle.store_turn.specs.Steps.{looked, at_turn}
use Rattle.store_turn.specs.Tickets.{has_ticket, has_that, ViewOk, InTurn, HasSeen}
use Rattle.store_turn.proofs.Lists.{Some_one, true_false}
use Rattle.store_turn.proofs.Sums.{sum_set, each_set, some_set}
use Rattle.store_turn.proofs.Tickets.{next_is}

module _ {E T B : Type 0} (list : T → List E) (base : T → B) (fixed : B) (s : State T (View E B)) (t : InTurn list base fixed s) (id : ℕ) (v : View E B) (at : get_elem? s.views id ≡ some v)
    (read : v.read ≡ false) where
  looker : View E B
  looker = at_turn v

  same_sum : (f : View E B → ℕ) → f (at_turn v) ≡ f v → sum_by f (set s.views id (at_turn v)) ≡ sum_by f s.views
  same_sum f e = let a = sum_set f s.views id v (at_turn v) at in omega arith

  keeps_views : v.ticket ≡ Some t.next → (j : ℕ) (x : View E B) → get_elem? (set s.views id looker) j ≡ some x → ViewOk fixed t.next t.entries x
  unfolding looker
  keeps_views mine = let ok = t.views id v at in
      each_set (λ j x. ViewOk fixed t.next t.entries x) s.views id looker (λ j x n e. t.views j x e)
      record { part = ok.part; served = λ e. mine; read = λ e. absurd (true_false (sym e ∙ read)); short = ok.short; based = ok.based; left = ok.left; right = ok.right; placed = ok.placed }

  pub look_keeps : v.ticket ≡ Some t.next → InTurn list base fixed record { words = s.words; homes = s.homes; views = set s.views id (at_turn v) }
  unfolding looker
  look_keeps mine = record {
    entries = t.entries;
    drawn = t.drawn;
    next = t.next;
    words = t.words;
    small = t.small;
    out = (let e = same_sum has_ticket refl in let o = t.out in omega arith);
    each = λ k. same_sum (has_that k) refl ∙ t.each k;
    shares = same_sum (λ (x : View E B). x.share) refl ∙ t.shares;
    views = keeps_views mine;
    under = λ j y ey r i x ex.
        let reader : get_elem? s.views j ≡ some y = each_set (λ k z. z.read ≡ true → get_elem? s.views k ≡ some z) s.views id looker (λ k z n e q. e) (λ q. absurd (true_false (sym q ∙ read))) j y ey r in
        each_set (λ k z. StartsWith y.seen z.seen) s.views id looker (λ k z n e. t.under j y reader r k z e) (t.under j y reader r id v at) i x ex;
    home = λ y e. let h = t.home y e in (h.0, h.1, each_set (λ j x. StartsWith (list y) x.seen) s.views id looker (λ j x n e. h.2 j x e) (h.2 id v at));
    one = t.one;
    away = λ e. some_set (λ (z : View E B). z.read ≡ true) s.views id v looker at (λ r. r) (t.away e);
    full = some_set (HasSeen t.entries) s.views id v looker at (λ h. record { share = h.share; all = h.all }) t.full;
    taken = each_set (λ j (x : View E B). x.read ≡ true → s.homes ≡ none ∷ []) s.views id looker (λ j x n e. t.taken j x e) (λ q. absurd (true_false (sym q ∙ read)));
    places = λ x. (let e = same_sum (λ (z : View E B). times x z.places) refl in let p = t.places x in omega arith);
  }

module _ {E T B : Type 0} (list : T → List E) (base : T → B) (fixed : B) where
  pub look_allows : (slots id : ℕ) (v : View E B) (k : ℕ) → v.ticket ≡ Some k → v.read ≡ false
      → Allows (InTurn list base fixed) slots id (v, []) 2 (λ n. n) (looked (step slots 2 0 0 none) (v, []))
  look_allows slots id v k ticket read s t deep at small =
      let found : slice_index s.words 2 ≡ t.next % 2 ^ 64 = ap (λ ws. slice_index ws 2) t.words in
      let words : set s.words 2 (slice_index s.words 2) ≡ s.words = ap (λ ws. set ws 2 (slice_index ws 2)) t.words ∙ sym t.words in
      dite (ℕ_discrete (t.next % 2 ^ 64) (k % 2 ^ 64))
      (λ e. (
        at_turn v,
        keeps,
        tt,
        subst (λ ws. InTurn list base fixed record { words = ws; homes = s.homes; views = set s.views id (at_turn v) }) (sym words)
            (look_keeps list base fixed s t id v at read (ticket ∙ ap (λ n. Some n) (sym (next_is list base fixed s t id k v at ticket e)))),
        λ q same. inl (found ∙ e ∙ ap (λ n. n % 2 ^ 64) (Some_one k q (sym ticket ∙ same)), refl),
      ))
      (λ n. (
        v,
        keeps,
        tt,
        subst (λ ws. InTurn list base fixed record { words = ws; homes = s.homes; views = set s.views id v }) (sym words)
            (subst (λ vs. InTurn list base fixed record { words = s.words; homes = s.homes; views = vs }) (sym (set_again s.views id v at)) t),
        λ q same. inr ((λ e. n (sym found ∙ e ∙ ap (λ m. m % 2 ^ 64) (Some_one q k (sym same ∙ ticket)))), refl),
      ))
