-- A seat that is split keeps the rule.
use Rattle.std.proofs.Common.{◌≡◌, ℕ, ◌+◌, ◌≤◌, true, false, List, [], ◌∷◌, ◌++◌, set, sym, ◌∙◌, arith}
use Rattle.std.specs.Prelude.{sum_by, None}
use mathlib.Core.Option.{some, none}
use lib.ListN.{get_elem?}
use Rattle.std.proofs.lemmas.List.Sums.{sum_by_push}
use Rattle.atomic_table.specs.Table.{State}
use Rattle.atomic_table.proofs.Lists.{at_longer}
use Rattle.store_turn.specs.declared.rule.View.{View}
use Rattle.store_turn.specs.Lists.{StartsWith}
use Rattle.store_turn.specs.Places.{times}
use Rattle.store_turn.specs.Steps.{half, other_half}
use Rattle.store_turn.specs.Tickets.{has_ticket, has_that, ViewOk, InTurn, SomeSeat, HasSeen}
use Rattle.store_turn.proofs.Lists.{true_false, starts_none}
use Rattle.store_turn.proofs.Sums.{sum_set, each_split, some_set}
use Rattle.store_turn.proofs.Tickets.{no_ticket}

module _ {E T B : Type 0} (list : T → List E) (base : T → B) (fixed : B) (s : State T (View E B)) (t : InTurn list base fixed s) (id : ℕ) (v : View E B) (at : get_elem? s.views id ≡ some v)
    (share : 2 ≤ v.share) (ticket : v.ticket ≡ None) (served : v.served ≡ false) (read : v.read ≡ false) where
  after : List (View E B)
  after = set s.views id (half v) ++ other_half v ∷ []

  same_sum : (f : View E B → ℕ) → f (half v) + f (other_half v) ≡ f v → sum_by f after ≡ sum_by f s.views
  unfolding after
  same_sum f e = let a = sum_by_push f (set s.views id (half v)) (other_half v) in let b = sum_set f s.views id v (half v) at in omega arith

  keeps_views : (j : ℕ) (x : View E B) → get_elem? after j ≡ some x → ViewOk fixed t.next t.entries x
  unfolding after
  keeps_views = let ok = t.views id v at in
      each_split (λ j x. ViewOk fixed t.next t.entries x) s.views id (half v) (other_half v) t.views
      record { part = (let k = no_ticket v ticket in omega arith); served = ok.served; read = ok.read; short = ok.short; based = λ _. ok.based (omega arith); left = ok.left; right = ok.right; placed = ok.placed }
      (λ j. record { part = omega arith; served = λ e. absurd (true_false (sym e)); read = λ e. absurd (true_false (sym e)); short = ok.short; based = λ _. ok.based (omega arith); left = starts_none v.seen; right = starts_none v.seen; placed = record { rises = tt; low = λ x e. absurd (omega arith) } })

  some_longer : {P : View E B → Type 0} → SomeSeat P (set s.views id (half v)) → SomeSeat P after
  unfolding after
  some_longer one = (one.0, (one.1.0, at_longer (set s.views id (half v)) (other_half v ∷ []) one.0 one.1.0 one.1.1, one.1.2))

  pub split_keeps : InTurn list base fixed record { words = s.words; homes = s.homes; views = set s.views id (half v) ++ other_half v ∷ [] }
  unfolding after
  split_keeps = record {
    entries = t.entries;
    drawn = t.drawn;
    next = t.next;
    words = t.words;
    small = t.small;
    out = (let e = same_sum has_ticket (omega arith) in let o = t.out in omega arith);
    each = λ k. same_sum (has_that k) (omega arith) ∙ t.each k;
    shares = same_sum (λ x. x.share) (omega arith) ∙ t.shares;
    views = keeps_views;
    under = λ j y ey r i x ex.
        let reader : get_elem? s.views j ≡ some y = each_split (λ k z. z.read ≡ true → get_elem? s.views k ≡ some z) s.views id (half v) (other_half v) (λ k z e q. e) (λ q. absurd (true_false (sym q ∙ read))) (λ k q. absurd (true_false (sym q))) j y ey r in
        each_split (λ k z. StartsWith y.seen z.seen) s.views id (half v) (other_half v) (λ k z e. t.under j y reader r k z e) (t.under j y reader r id v at) (λ k. t.under j y reader r id v at) i x ex;
    home = λ y e. let h = t.home y e in (h.0, h.1, each_split (λ j x. StartsWith (list y) x.seen) s.views id (half v) (other_half v) h.2 (h.2 id v at) (λ j. h.2 id v at));
    one = t.one;
    away = λ e. some_longer (some_set (λ (z : View E B). z.read ≡ true) s.views id v (half v) at (λ r. r) (t.away e));
    full = some_longer (some_set (HasSeen t.entries) s.views id v (half v) at (λ h. record { share = omega arith; all = h.all }) t.full);
    taken = each_split (λ j (x : View E B). x.read ≡ true → s.homes ≡ none ∷ []) s.views id (half v) (other_half v) (λ j x e. t.taken j x e) (λ q. absurd (true_false (sym q ∙ read))) (λ j q. absurd (true_false (sym q)));
    places = λ x. (let e = same_sum (λ (z : View E B). times x z.places) (omega arith) in let p = t.places x in omega arith);
  }
