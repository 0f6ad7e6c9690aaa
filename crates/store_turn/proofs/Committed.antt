-- A seat that commits what its job added keeps the rule.
use Rattle.std.proofs.Common.{◌≡◌, ◌≢◌, ℕ, ◌+◌, ◌%◌, ◌^◌, ◌<◌, ◌≤◌, true, cond, List, [], ◌∷◌, length, set, refl, sym, ◌∙◌, ap, arith, subst}
use Rattle.std.specs.Prelude.{sum_by, ◌==◌, slice_index}
use Rattle.std.proofs.Math.Nat.{mod-eq_of_lt}
use mathlib.Core.Option.{some, none}
use lib.ListN.{get_elem?}
use Rattle.atomic_table.specs.Table.{State, keeps, step, Allows}
use Rattle.store_turn.specs.declared.rule.View.{View}
use Rattle.store_turn.specs.Lists.{StartsWith}
use Rattle.store_turn.specs.Places.{times, within}
use Rattle.store_turn.specs.Steps.{committed, added}
use Rattle.store_turn.specs.Tickets.{has_ticket, has_that, ViewOk, InTurn}
use Rattle.store_turn.proofs.Lists.{none_some, starts_here, starts_on}
use Rattle.store_turn.proofs.Places.{times_snoc, rising_snoc, below_snoc}
use Rattle.store_turn.proofs.Sums.{sum_set, each_set, set_there}
use Rattle.store_turn.proofs.Tickets.{alone_read, within_more, a_ticket}

module _ {E T B : Type 0} (list : T → List E) (base : T → B) (fixed : B) (s : State T (View E B)) (t : InTurn list base fixed s) (id : ℕ) (v : View E B) (at : get_elem? s.views id ≡ some v)
    (read : v.read ≡ true) (y : T) (later : StartsWith (list y) v.seen) (more : length (list y) ≡ length v.seen + 1) (fits : length (list y) < 2 ^ 64) where
  serves : v.served ≡ true
  serves = ((t.views id v at).read read).0

  count : length v.seen ≡ t.entries
  count = ((t.views id v at).read read).1

  share : 1 ≤ v.share
  share = let part = (t.views id v at).part in let one = a_ticket v t.next ((t.views id v at).served serves) in omega arith

  -- no other seat has read
  only : (j : ℕ) (x : View E B) → j ≢ id → get_elem? s.views j ≡ some x → x.read ≡ true → ⊥
  only j x n e r = n (alone_read list base fixed s t id j v x at e serves r)

  same_sum : (f : View E B → ℕ) → f (added v (list y)) ≡ f v → sum_by f (set s.views id (added v (list y))) ≡ sum_by f s.views
  same_sum f e = let a = sum_set f s.views id v (added v (list y)) at in omega arith

  keeps_views : (j : ℕ) (x : View E B) → get_elem? (set s.views id (added v (list y))) j ≡ some x → ViewOk fixed t.next (t.entries + 1) x
  keeps_views = let ok = t.views id v at in let c = count in
      each_set (λ j x. ViewOk fixed t.next (t.entries + 1) x) s.views id (added v (list y))
      (λ j x n e. let was = t.views j x e in record { part = was.part; served = was.served; read = λ r. absurd (only j x n e r); short = (let l = was.short in omega arith); based = was.based; left = was.left; right = was.right; placed = was.placed })
      record { part = ok.part; served = ok.served; read = λ e. (serves, omega arith); short = omega arith; based = ok.based; left = starts_on v.left v.seen (list y) ok.left later; right = starts_on v.right v.seen (list y) ok.right later; placed = record { rises = rising_snoc v.places (length v.seen) ok.placed.rises ok.placed.low; low = below_snoc v.places (length v.seen) (length (list y)) ok.placed.low more } }

  keeps_places : (x : ℕ) → sum_by (λ (z : View E B). times x z.places) (set s.views id (added v (list y))) ≤ within 0 (t.entries + 1) x
  keeps_places x =
      let a = sum_set (λ (z : View E B). times x z.places) s.views id v (added v (list y)) at in
      let b = times_snoc x v.places (length v.seen) in
      let c : ◌≡◌ {A = ℕ} (cond (length v.seen == x) 1 0) (cond (t.entries == x) 1 0) = ap (λ n. cond (n == x) 1 0) count in
      let d = within_more 0 t.entries x (omega arith) in
      let p = t.places x in omega arith

  pub commit_keeps : InTurn list base fixed record { words = (t.entries + 1) ∷ t.drawn % 2 ^ 64 ∷ t.next % 2 ^ 64 ∷ []; homes = s.homes; views = set s.views id (added v (list y)) }
  commit_keeps =
      let w : View E B = added v (list y) in
      record {
        entries = t.entries + 1;
        drawn = t.drawn;
        next = t.next;
        words = refl;
        small = (let c = count in omega arith);
        out = (let e = same_sum has_ticket refl in let o = t.out in omega arith);
        each = λ k. same_sum (has_that k) refl ∙ t.each k;
        shares = same_sum (λ (x : View E B). x.share) refl ∙ t.shares;
        views = keeps_views;
        under = λ j z ez r i x ex.
            let is : list y ≡ z.seen = each_set (λ k (u : View E B). u.read ≡ true → list y ≡ u.seen) s.views id w (λ k u n e q. absurd (only k u n e q)) (λ q. refl) j z ez r in
            subst (λ l. StartsWith l x.seen) is (each_set (λ k (u : View E B). StartsWith (list y) u.seen) s.views id w (λ k u n e. starts_on u.seen v.seen (list y) (t.under id v at read k u e) later) (starts_here (list y)) i x ex);
        home = λ z e. absurd (none_some z (sym (t.taken id v at read) ∙ e));
        one = t.one;
        full = (id, (w, set_there s.views id v w at, record { share = share; all = (let c = count in omega arith) }));
        away = λ e. (id, (w, set_there s.views id v w at, read));
        taken = λ j x e q. t.taken id v at read;
        places = keeps_places;
      }

module _ {E T B : Type 0} (list : T → List E) (base : T → B) (fixed : B) where
  pub commit_allows : (slots id : ℕ) (v : View E B) (y : T) → v.read ≡ true → StartsWith (list y) v.seen → length (list y) ≡ length v.seen + 1 → length (list y) < 2 ^ 64
      → Allows (InTurn list base fixed) slots id (v, (0, y) ∷ []) 0 (λ n. (n + 1) % 2 ^ 64) (committed list (step slots 0 1 0 none) (v, (0, y) ∷ []))
  commit_allows slots id v y read later more fits s t deep at small =
      let w : View E B = added v (list y) in
      let c = ((t.views id v at).read read).1 in
      let up : (t.entries + 1) % 2 ^ 64 ≡ t.entries + 1 = mod-eq_of_lt (omega arith) in
      let words : set s.words 0 ((slice_index s.words 0 + 1) % 2 ^ 64) ≡ (t.entries + 1) ∷ t.drawn % 2 ^ 64 ∷ t.next % 2 ^ 64 ∷ [] =
      ap (λ ws. set ws 0 ((slice_index ws 0 + 1) % 2 ^ 64)) t.words ∙ ap (λ k. k ∷ t.drawn % 2 ^ 64 ∷ t.next % 2 ^ 64 ∷ []) up in (
        w,
        keeps,
        tt,
        subst (λ ws. InTurn list base fixed record { words = ws; homes = s.homes; views = set s.views id w }) (sym words) (commit_keeps list base fixed s t id v at read y later more fits),
        (y, refl, refl),
      )
