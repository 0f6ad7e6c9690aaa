-- A served seat that reads takes the value, and the rule is kept.
use Rattle.std.proofs.Common.{◌≡◌, ◌≢◌, ℕ, ◌≤◌, true, false, List, [], ◌∷◌, set, refl, sym, ◌∙◌, ap, arith, subst}
use Rattle.std.specs.Prelude.{sum_by, Some, slice_index}
use mathlib.Core.Option.{some, none}
use mathlib.Core.Option as maybe
use lib.ListN.{get_elem?}
use Rattle.atomic_table.specs.Table.{State, takes, step, Allows}
use Rattle.store_turn.specs.declared.rule.View.{View}
use Rattle.store_turn.specs.Lists.{StartsWith}
use Rattle.store_turn.specs.Places.{times}
use Rattle.store_turn.specs.Steps.{did_read, reading}
use Rattle.store_turn.specs.Tickets.{has_ticket, has_that, ViewOk, InTurn, HasSeen}
use Rattle.store_turn.proofs.Lists.{some_one, true_false, none_some, starts_here, starts_on, starts_length}
use Rattle.store_turn.proofs.Sums.{sum_set, each_set, set_there, some_set}
use Rattle.store_turn.proofs.Tickets.{alone_read, a_ticket}

module _ {E T B : Type 0} (list : T → List E) (base : T → B) (fixed : B) (s : State T (View E B)) (t : InTurn list base fixed s) (id : ℕ) (v : View E B) (at : get_elem? s.views id ≡ some v)
    (served : v.served ≡ true) (read : v.read ≡ false) where
  -- the value is at home
  pub at_home : (y : T) × (s.homes ≡ some y ∷ [])
  at_home = go t.one.0 t.one.1
    where
      go : (h : maybe.Option T) → s.homes ≡ h ∷ [] → (y : T) × (s.homes ≡ some y ∷ [])
      go none e = let a = t.away e in
          let same : a.0 ≡ id = alone_read list base fixed s t id a.0 v a.1.0 at a.1.1 served a.1.2 in
          absurd (true_false (sym a.1.2 ∙ ap (λ (z : View E B). z.read) (some_one a.1.0 v (sym a.1.1 ∙ ap (get_elem? s.views) same ∙ at)) ∙ read))
      go (some y) e = (y, e)

  module _ (y : T) (here : s.homes ≡ some y ∷ []) where
    reader : View E B
    reader = reading v (list y)

    same_sum : (f : View E B → ℕ) → f (reading v (list y)) ≡ f v → sum_by f (set s.views id (reading v (list y))) ≡ sum_by f s.views
    same_sum f e = let a = sum_set f s.views id v (reading v (list y)) at in omega arith

    keeps_views : (j : ℕ) (x : View E B) → get_elem? (set s.views id reader) j ≡ some x → ViewOk fixed t.next t.entries x
    unfolding reader
    keeps_views = let ok = t.views id v at in let h = t.home y here in
        each_set (λ j x. ViewOk fixed t.next t.entries x) s.views id reader (λ j x n e. t.views j x e)
        record { part = ok.part; served = ok.served; read = λ e. (served, h.0); short = (let l = h.0 in omega arith); based = ok.based; left = starts_on v.left v.seen (list y) ok.left (h.2 id v at); right = starts_on v.right v.seen (list y) ok.right (h.2 id v at); placed = record { rises = ok.placed.rises; low = λ x e. (let a = ok.placed.low x e in let b = starts_length (list y) v.seen (h.2 id v at) in omega arith) } }

    -- no other seat has read
    only : (j : ℕ) (x : View E B) → j ≢ id → get_elem? s.views j ≡ some x → x.read ≡ true → ⊥
    only j x n e r = n (alone_read list base fixed s t id j v x at e served r)

    pub read_keeps : InTurn list base fixed record { words = s.words; homes = none ∷ []; views = set s.views id (reading v (list y)) }
    unfolding reader
    read_keeps = record {
      entries = t.entries;
      drawn = t.drawn;
      next = t.next;
      words = t.words;
      small = t.small;
      out = (let e = same_sum has_ticket refl in let o = t.out in omega arith);
      each = λ k. same_sum (has_that k) refl ∙ t.each k;
      shares = same_sum (λ (x : View E B). x.share) refl ∙ t.shares;
      views = keeps_views;
      under = λ j w ew r i x ex.
          let h = t.home y here in
          let is : list y ≡ w.seen = each_set (λ k z. z.read ≡ true → list y ≡ z.seen) s.views id reader (λ k z n e q. absurd (only k z n e q)) (λ q. refl) j w ew r in
          subst (λ l. StartsWith l x.seen) is (each_set (λ k z. StartsWith (list y) z.seen) s.views id reader (λ k z n e. h.2 k z e) (starts_here (list y)) i x ex);
      home = λ z e. absurd (none_some z e);
      one = (none, refl);
      full = some_set (HasSeen t.entries) s.views id v reader at (λ h. record { share = h.share; all = (t.home y here).0 }) t.full;
      away = λ e. (id, (reader, set_there s.views id v reader at, refl));
      taken = λ j x e q. refl;
      places = λ x. (let e = same_sum (λ (z : View E B). times x z.places) refl in let p = t.places x in omega arith);
    }

module _ {E T B : Type 0} (list : T → List E) (base : T → B) (fixed : B) where
  pub read_allows : (slots id : ℕ) (v : View E B) (k : ℕ) → v.ticket ≡ Some k → v.served ≡ true → v.read ≡ false
      → Allows (InTurn list base fixed) slots id (v, []) 0 (λ n. n) (did_read list base (step slots 0 0 0 none) (v, []))
  read_allows slots id v k ticket served read s t deep at small =
      let home = at_home list base fixed s t id v at served read in
      let y = home.0 in
      let words : set s.words 0 (slice_index s.words 0) ≡ s.words = ap (λ ws. set ws 0 (slice_index ws 0)) t.words ∙ sym t.words in
      let homes : set s.homes 0 none ≡ none ∷ [] = ap (λ hs. set hs 0 none) home.1 in
      let ok = t.views id v at in
      let share : 1 ≤ v.share = (let a = ok.part in let b = a_ticket v k ticket in omega arith) in
      let h = t.home y home.1 in (
        reading v (list y),
        takes 0 y,
        ap (λ hs. get_elem? hs 0) home.1,
        subst (λ ws. InTurn list base fixed record { words = ws; homes = set s.homes 0 none; views = set s.views id (reading v (list y)) }) (sym words)
            (subst (λ hs. InTurn list base fixed record { words = s.words; homes = hs; views = set s.views id (reading v (list y)) }) (sym homes)
            (read_keeps list base fixed s t id v at served read y home.1)),
        (y, h.2 id v at, ok.based share ∙ ap (λ b. Some b) (sym h.1), refl),
      )
