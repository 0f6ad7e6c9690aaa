-- A seat that gives the value back and passes the turn on keeps the rule.
use Rattle.std.proofs.Common.{◌≡◌, ◌≢◌, ℕ, ◌+◌, ◌%◌, ◌^◌, ◌<◌, ◌≤◌, true, List, [], ◌∷◌, length, set, refl, sym, ◌∙◌, ap, arith, subst}
use Rattle.std.specs.Prelude.{sum_by, Some, slice_index}
use mathlib.Core.Option.{some, none}
use lib.ListN.{get_elem?}
use Rattle.atomic_table.specs.Table.{State, gives, step, Allows}
use Rattle.store_turn.specs.declared.rule.View.{View}
use Rattle.store_turn.specs.Lists.{StartsWith}
use Rattle.store_turn.specs.Places.{times, within}
use Rattle.store_turn.specs.Steps.{passed, at_rest}
use Rattle.store_turn.specs.Tickets.{has_ticket, has_that, ViewOk, InTurn, HasSeen}
use Rattle.store_turn.proofs.Lists.{Some_one, true_false, some_none, home_one, starts_here}
use Rattle.store_turn.proofs.Sums.{sum_set, each_set, some_set}
use Rattle.store_turn.proofs.Tickets.{alone, alone_read, within_less, within_to, out_now, a_ticket, that_ticket}
use Rattle.store_turn.proofs.Drew.{up_mod}

module _ {E T B : Type 0} (list : T → List E) (base : T → B) (fixed : B) (s : State T (View E B)) (t : InTurn list base fixed s) (id : ℕ) (v : View E B) (at : get_elem? s.views id ≡ some v)
    (read : v.read ≡ true) (y : T) (same : list y ≡ v.seen) (kept : base y ≡ fixed) where
  serves : v.served ≡ true
  serves = ((t.views id v at).read read).0

  count : length v.seen ≡ t.entries
  count = ((t.views id v at).read read).1

  mine : v.ticket ≡ Some t.next
  mine = (t.views id v at).served serves

  -- no other seat is served
  only : (j : ℕ) (x : View E B) → j ≢ id → get_elem? s.views j ≡ some x → x.served ≡ true → ⊥
  only j x n e r = n (alone list base fixed s t id j v x at e serves r)

  not_over : t.next < t.drawn
  not_over = within_to t.next t.drawn t.next (out_now list base fixed s t id t.next v at mine)

  same_sum : (f : View E B → ℕ) → f (at_rest v) ≡ f v → sum_by f (set s.views id (at_rest v)) ≡ sum_by f s.views
  same_sum f e = let a = sum_set f s.views id v (at_rest v) at in omega arith

  keeps_views : (j : ℕ) (x : View E B) → get_elem? (set s.views id (at_rest v)) j ≡ some x → ViewOk fixed (t.next + 1) t.entries x
  keeps_views = let ok = t.views id v at in
      each_set (λ j x. ViewOk fixed (t.next + 1) t.entries x) s.views id (at_rest v)
      (λ j x n e. let was = t.views j x e in record { part = was.part; served = λ r. absurd (only j x n e r); read = λ r. was.read r; short = was.short; based = was.based; left = was.left; right = was.right; placed = was.placed })
      record { part = omega arith; served = λ e. absurd (true_false (sym e)); read = λ e. absurd (true_false (sym e)); short = ok.short; based = ok.based; left = ok.left; right = ok.right; placed = ok.placed }

  none_reads : (j : ℕ) (x : View E B) → get_elem? (set s.views id (at_rest v)) j ≡ some x → x.read ≡ true → ⊥
  none_reads = each_set (λ j (x : View E B). x.read ≡ true → ⊥) s.views id (at_rest v) (λ j x n e r. n (alone_read list base fixed s t id j v x at e serves r)) (λ q. true_false (sym q))

  keeps_each : (k : ℕ) → sum_by (has_that k) (set s.views id (at_rest v)) ≡ within (t.next + 1) t.drawn k
  keeps_each k =
      let a = sum_set (has_that k) s.views id v (at_rest v) at in
      let b = that_ticket k v t.next mine in
      let c = within_less t.next t.drawn k not_over in
      let d = t.each k in omega arith

  keeps_home : (z : T) → some y ∷ [] ≡ some z ∷ [] → (length (list z) ≡ t.entries) × (base z ≡ fixed) × ((j : ℕ) (x : View E B) → get_elem? (set s.views id (at_rest v)) j ≡ some x → StartsWith (list z) x.seen)
  keeps_home z e = subst (λ z. (length (list z) ≡ t.entries) × (base z ≡ fixed) × ((j : ℕ) (x : View E B) → get_elem? (set s.views id (at_rest v)) j ≡ some x → StartsWith (list z) x.seen)) (home_one y z e) (
    ap length same ∙ count,
    kept,
    subst (λ l. (j : ℕ) (x : View E B) → get_elem? (set s.views id (at_rest v)) j ≡ some x → StartsWith l x.seen) (sym same)
        (each_set (λ j (x : View E B). StartsWith v.seen x.seen) s.views id (at_rest v) (λ j x n e. t.under id v at read j x e) (starts_here v.seen)),
  )

  pub pass_keeps : InTurn list base fixed record { words = t.entries ∷ t.drawn % 2 ^ 64 ∷ (t.next + 1) % 2 ^ 64 ∷ []; homes = some y ∷ []; views = set s.views id (at_rest v) }
  pass_keeps = record {
    entries = t.entries;
    drawn = t.drawn;
    next = t.next + 1;
    words = refl;
    small = t.small;
    out = (let a = sum_set has_ticket s.views id v (at_rest v) at in let b = a_ticket v t.next mine in let o = t.out in omega arith);
    each = keeps_each;
    shares = same_sum (λ (x : View E B). x.share) refl ∙ t.shares;
    views = keeps_views;
    under = λ j z ez r i x ex. absurd (none_reads j z ez r);
    home = keeps_home;
    one = (some y, refl);
    full = some_set (HasSeen t.entries) s.views id v (at_rest v) at (λ h. record { share = h.share; all = h.all }) t.full;
    away = λ e. absurd (some_none y e);
    taken = λ j x e q. absurd (none_reads j x e q);
    places = λ x. (let e = same_sum (λ (z : View E B). times x z.places) refl in let p = t.places x in omega arith);
  }

module _ {E T B : Type 0} (list : T → List E) (base : T → B) (fixed : B) where
  pub pass_allows : (slots id : ℕ) (v : View E B) (y : T) → v.read ≡ true → list y ≡ v.seen → 1 ≤ v.share → v.base ≡ Some (base y)
      → Allows (InTurn list base fixed) slots id (v, (0, y) ∷ []) 2 (λ n. (n + 1) % 2 ^ 64) (passed (step slots 2 1 0 none) (v, (0, y) ∷ []))
  pass_allows slots id v y read same share based s t deep at small =
      let w : View E B = at_rest v in
      let kept : base y ≡ fixed = Some_one (base y) fixed (sym based ∙ (t.views id v at).based share) in
      let words : set s.words 2 ((slice_index s.words 2 + 1) % 2 ^ 64) ≡ t.entries ∷ t.drawn % 2 ^ 64 ∷ (t.next + 1) % 2 ^ 64 ∷ [] =
      ap (λ ws. set ws 2 ((slice_index ws 2 + 1) % 2 ^ 64)) t.words ∙ ap (λ k. t.entries ∷ t.drawn % 2 ^ 64 ∷ k ∷ []) (up_mod t.next (2 ^ 64)) in
      let homes : set s.homes 0 (some y) ≡ some y ∷ [] = ap (λ hs. set hs 0 (some y)) (t.taken id v at read) in (
        w,
        gives,
        tt,
        subst (λ ws. InTurn list base fixed record { words = ws; homes = set s.homes 0 (some y); views = set s.views id w }) (sym words)
            (subst (λ hs. InTurn list base fixed record { words = t.entries ∷ t.drawn % 2 ^ 64 ∷ (t.next + 1) % 2 ^ 64 ∷ []; homes = hs; views = set s.views id w }) (sym homes) (pass_keeps list base fixed s t id v at read y same kept)),
        refl,
      )
