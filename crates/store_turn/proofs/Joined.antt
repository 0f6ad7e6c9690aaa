-- Two seats that are joined keep the rule.
use Rattle.std.proofs.Common.{◌≡◌, ◌≢◌, ℕ, ◌+◌, ◌≤◌, Bool, true, false, cond, List, [], length, set, refl, sym, ◌∙◌, ap, arith, subst}
use Rattle.std.specs.Prelude.{sum_by, None, nat_lt}
use mathlib.Core.Option.{some}
use mathlib.Core.Logic.{dite}
use native.Mathlib.Decide.{ℕ_discrete}
use lib.ListN.{get_elem?}
use Rattle.atomic_table.specs.Table.{State}
use Rattle.atomic_table.proofs.Lists.{set_else}
use Rattle.store_turn.specs.declared.rule.View.{View}
use Rattle.store_turn.specs.Lists.{StartsWith, longer}
use Rattle.store_turn.specs.Places.{times}
use Rattle.store_turn.specs.Steps.{joined, spent}
use Rattle.store_turn.specs.Tickets.{has_ticket, has_that, ViewOk, InTurn, BeginsWithAll, SomeSeat, HasSeen}
use Rattle.store_turn.proofs.Lists.{some_one, true_false, starts_none, starts_length, longer_starts}
use Rattle.store_turn.proofs.Places.{rising_merged, below_merged, times_merged}
use Rattle.store_turn.proofs.Sums.{sum_set, sum_two, each_set, set_there}
use Rattle.store_turn.proofs.Tickets.{no_ticket, no_that, within_one, common}

longer_is : {E : Type 0} (P : List E → Type 0) (xs ys : List E) (b : Bool) → P xs → P ys → P (cond b ys xs)
longer_is P xs ys true p q = q
longer_is P xs ys false p q = p

module _ {E T B : Type 0} (list : T → List E) (base : T → B) (fixed : B) (s : State T (View E B)) (t : InTurn list base fixed s) (id : ℕ) (v : View E B) (at : get_elem? s.views id ≡ some v)
    (other : ℕ) (u : View E B) (apart : other ≢ id) (there : get_elem? s.views other ≡ some u)
    (ticket : v.ticket ≡ None) (served : v.served ≡ false) (read : v.read ≡ false) (share : 1 ≤ v.share)
    (ticket_u : u.ticket ≡ None) (read_u : u.read ≡ false) where
  still : get_elem? (set s.views id (joined v u)) other ≡ some u
  still = set_else s.views id other (joined v u) apart ∙ there

  same_sum : (f : View E B → ℕ) → f (joined v u) ≡ f v + f u → f spent ≡ 0 → sum_by f (set (set s.views id (joined v u)) other spent) ≡ sum_by f s.views
  same_sum f e z = let a = sum_set f s.views id v (joined v u) at in let b = sum_set f (set s.views id (joined v u)) other u spent still in omega arith

  -- what holds of each view, after both have changed
  each_after : (P : ℕ → View E B → Type 0) → ((j : ℕ) (x : View E B) → get_elem? s.views j ≡ some x → P j x) → P id (joined v u) → P other spent → (j : ℕ) (x : View E B) → get_elem? (set (set s.views id (joined v u)) other spent) j ≡ some x → P j x
  each_after P all pj ps = each_set P (set s.views id (joined v u)) other spent (λ j x n e. each_set P s.views id (joined v u) (λ k z m d. all k z d) pj j x e) ps

  apart_places : (x : ℕ) → times x v.places + times x u.places ≤ 1
  apart_places x = let two = sum_two (λ (z : View E B). times x z.places) s.views id other v u (λ e. apart (sym e)) at there in let p = t.places x in let o = within_one 0 t.entries x in omega arith

  joined_ok : ViewOk fixed t.next t.entries (joined v u)
  joined_ok = let ok = t.views id v at in let okay = t.views other u there in
      let l = common list base fixed s t in
      let both = longer_starts l.0 v.seen u.seen (l.1 id v at) (l.1 other u there) in
      record {
        part = (let k = no_ticket v ticket in omega arith);
        served = ok.served;
        read = λ e. absurd (true_false (sym e ∙ read));
        short = longer_is (λ l. length l ≤ t.entries) v.seen u.seen (nat_lt (length v.seen) (length u.seen)) ok.short okay.short;
        based = λ _. ok.based share;
        left = both.0;
        right = both.1;
        placed = record {
          rises = rising_merged v.places u.places ok.placed.rises okay.placed.rises apart_places;
          low = below_merged v.places u.places (length v.seen) (length u.seen) (length (longer v.seen u.seen)) ok.placed.low okay.placed.low (starts_length (longer v.seen u.seen) v.seen both.0) (starts_length (longer v.seen u.seen) u.seen both.1);
        };
      }

  spent_ok : ViewOk {E = E} fixed t.next t.entries spent
  spent_ok = record { part = omega arith; served = λ e. absurd (true_false (sym e)); read = λ e. absurd (true_false (sym e)); short = omega arith; based = λ e. absurd (omega arith); left = starts_none []; right = starts_none []; placed = record { rises = tt; low = λ x e. absurd (omega arith) } }

  old_reader : (j : ℕ) (x : View E B) → get_elem? (set (set s.views id (joined v u)) other spent) j ≡ some x → x.read ≡ true → get_elem? s.views j ≡ some x
  old_reader = each_after (λ k z. z.read ≡ true → get_elem? s.views k ≡ some z) (λ k z e q. e) (λ q. absurd (true_false (sym q ∙ read))) (λ q. absurd (true_false (sym q)))

  -- a list that begins with what both had seen begins with what the joined seat has seen
  starts_both : (l : List E) → StartsWith l v.seen → StartsWith l u.seen → StartsWith l (joined v u).seen
  starts_both l a b = longer_is (λ m. StartsWith l m) v.seen u.seen (nat_lt (length v.seen) (length u.seen)) a b

  each_starts : (l : List E) → (BeginsWithAll l s.views) → (j : ℕ) (x : View E B) → get_elem? (set (set s.views id (joined v u)) other spent) j ≡ some x → StartsWith l x.seen
  each_starts l all = each_after (λ k z. StartsWith l z.seen) all (starts_both l (all id v at) (all other u there)) record { rest = l; goes_on = refl }

  still_read : (j : ℕ) (x : View E B) → get_elem? s.views j ≡ some x → x.read ≡ true → get_elem? (set (set s.views id (joined v u)) other spent) j ≡ some x
  still_read j x e r =
      let a : j ≢ other = λ q. true_false (sym r ∙ ap (λ (z : View E B). z.read) (some_one x u (sym e ∙ ap (get_elem? s.views) q ∙ there)) ∙ read_u) in
      let b : j ≢ id = λ q. true_false (sym r ∙ ap (λ (z : View E B). z.read) (some_one x v (sym e ∙ ap (get_elem? s.views) q ∙ at)) ∙ read) in
      set_else (set s.views id (joined v u)) other j spent a ∙ set_else s.views id j (joined v u) b ∙ e

  -- if one of the two had seen all entries, the joined seat has
  still_full : SomeSeat (HasSeen t.entries) (set (set s.views id (joined v u)) other spent)
  still_full =
      let a = t.full in
      let joined_there = set_else (set s.views id (joined v u)) other id spent (λ e. apart (sym e)) ∙ set_there s.views id v (joined v u) at in
      let ok = joined_ok in
      let from_u = starts_length (longer v.seen u.seen) u.seen ok.right in
      let from_v = starts_length (longer v.seen u.seen) v.seen ok.left in
      let short = ok.short in
      dite (ℕ_discrete a.0 other)
      (λ same.
      let all : length u.seen ≡ t.entries = subst (λ (z : View E B). length z.seen ≡ t.entries) (some_one a.1.0 u (sym a.1.1 ∙ ap (get_elem? s.views) same ∙ there)) a.1.2.all in
      (id, (joined v u, joined_there, record { share = omega arith; all = omega arith })))
      (λ other_one.
      dite (ℕ_discrete a.0 id)
      (λ same.
      let all : length v.seen ≡ t.entries = subst (λ (z : View E B). length z.seen ≡ t.entries) (some_one a.1.0 v (sym a.1.1 ∙ ap (get_elem? s.views) same ∙ at)) a.1.2.all in
      (id, (joined v u, joined_there, record { share = omega arith; all = omega arith })))
      (λ third. (a.0, (a.1.0, set_else (set s.views id (joined v u)) other a.0 spent other_one ∙ set_else s.views id a.0 (joined v u) third ∙ a.1.1, a.1.2))))

  pub join_keeps : InTurn list base fixed record { words = s.words; homes = s.homes; views = set (set s.views id (joined v u)) other spent }
  join_keeps = record {
    entries = t.entries;
    drawn = t.drawn;
    next = t.next;
    words = t.words;
    small = t.small;
    out = (let e = same_sum has_ticket (let a = no_ticket u ticket_u in omega arith) refl in let o = t.out in omega arith);
    each = λ k. same_sum (has_that k) (let a = no_that k u ticket_u in omega arith) refl ∙ t.each k;
    shares = same_sum (λ (x : View E B). x.share) refl refl ∙ t.shares;
    views = each_after (λ j x. ViewOk fixed t.next t.entries x) t.views joined_ok spent_ok;
    under = λ j y ey r i x ex. let reader = old_reader j y ey r in each_starts y.seen (λ k z e. t.under j y reader r k z e) i x ex;
    home = λ y e. let h = t.home y e in (h.0, h.1, each_starts (list y) h.2);
    one = t.one;
    full = still_full;
    away = λ e. let a = t.away e in (a.0, (a.1.0, still_read a.0 a.1.0 a.1.1 a.1.2, a.1.2));
    taken = λ j x e q. t.taken j x (old_reader j x e q) q;
    places = λ x. (let e = same_sum (λ (z : View E B). times x z.places) (times_merged x v.places u.places) refl in let p = t.places x in omega arith);
  }

module _ {E T B : Type 0} (list : T → List E) (base : T → B) (fixed : B) where
  pub join_joins : (s : State T (View E B)) → InTurn list base fixed s → (id : ℕ) (v : View E B) (other : ℕ) (u : View E B) → get_elem? s.views id ≡ some v → other ≢ id → get_elem? (set s.views id (joined v u)) other ≡ some u
      → v.ticket ≡ None → v.served ≡ false → v.read ≡ false → 1 ≤ v.share → u.ticket ≡ None → u.read ≡ false
      → InTurn list base fixed record { words = s.words; homes = s.homes; views = set (set s.views id (joined v u)) other spent }
  join_joins s t id v other u at apart there a b c d e f =
      join_keeps list base fixed s t id v at other u apart (sym (set_else s.views id other (joined v u) apart) ∙ there) a b c d e f
