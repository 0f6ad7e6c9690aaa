-- A seat that draws a ticket keeps the rule.
use Rattle.std.proofs.Common.{◌≡◌, ℕ, ◌+◌, ◌%◌, ◌^◌, ◌≤◌, true, false, List, [], ◌∷◌, set, refl, sym, ◌∙◌, ap, arith, subst}
use Rattle.std.specs.Prelude.{None, slice_index}
use mathlib.Core.Option.{some, none}
use lib.ListN.{get_elem?}
use Rattle.atomic_table.specs.Table.{State, keeps, step, Allows}
use Rattle.std.proofs.Math.Nat.{add-mul-mod_self_right, mod-add-div'}
use Rattle.std.proofs.Common.{◌/◌}
use Rattle.store_turn.specs.declared.rule.View.{View}
use Rattle.store_turn.specs.Lists.{StartsWith}
use Rattle.store_turn.specs.Places.{times}
use Rattle.store_turn.specs.Steps.{drew, with_ticket}
use Rattle.store_turn.specs.Tickets.{has_ticket, has_that, ViewOk, InTurn, HasSeen}
use Rattle.store_turn.proofs.Lists.{true_false}
use Rattle.store_turn.proofs.Sums.{sum_set, each_set, some_set}
use Rattle.store_turn.proofs.Tickets.{no_ticket, no_that, within_more}

module _ {E T B : Type 0} (list : T → List E) (base : T → B) (fixed : B) (s : State T (View E B)) (t : InTurn list base fixed s) (id : ℕ) (v : View E B) (at : get_elem? s.views id ≡ some v)
    (share : 1 ≤ v.share) (ticket : v.ticket ≡ None) (served : v.served ≡ false) (read : v.read ≡ false) where
  drawer : View E B
  drawer = with_ticket v t.drawn

  keeps_views : (j : ℕ) (x : View E B) → get_elem? (set s.views id drawer) j ≡ some x → ViewOk fixed t.next t.entries x
  unfolding drawer
  keeps_views = let ok = t.views id v at in
      each_set (λ j x. ViewOk fixed t.next t.entries x) s.views id drawer (λ j x n e. t.views j x e)
      record { part = share; served = λ e. absurd (true_false (sym e ∙ served)); read = λ e. absurd (true_false (sym e ∙ read)); short = ok.short; based = ok.based; left = ok.left; right = ok.right; placed = ok.placed }

  pub draw_keeps : InTurn list base fixed record { words = t.entries ∷ (t.drawn + 1) % 2 ^ 64 ∷ t.next % 2 ^ 64 ∷ []; homes = s.homes; views = set s.views id (with_ticket v t.drawn) }
  unfolding drawer
  draw_keeps = record {
    entries = t.entries;
    drawn = t.drawn + 1;
    next = t.next;
    words = refl;
    small = t.small;
    out = (let e = sum_set has_ticket s.views id v drawer at in let k = no_ticket v ticket in let o = t.out in omega arith);
    each = λ k. (let e = sum_set (has_that k) s.views id v drawer at in let z = no_that k v ticket in let o = t.out in let w = t.each k in let m = within_more t.next t.drawn k (omega arith) in omega arith);
    shares = (let e = sum_set (λ (x : View E B). x.share) s.views id v drawer at in let o = t.shares in omega arith);
    views = keeps_views;
    under = λ j y ey r i x ex.
        let reader : get_elem? s.views j ≡ some y = each_set (λ k z. z.read ≡ true → get_elem? s.views k ≡ some z) s.views id drawer (λ k z n e q. e) (λ q. absurd (true_false (sym q ∙ read))) j y ey r in
        each_set (λ k z. StartsWith y.seen z.seen) s.views id drawer (λ k z n e. t.under j y reader r k z e) (t.under j y reader r id v at) i x ex;
    home = λ y e. let h = t.home y e in (h.0, h.1, each_set (λ j x. StartsWith (list y) x.seen) s.views id drawer (λ j x n e. h.2 j x e) (h.2 id v at));
    one = t.one;
    away = λ e. some_set (λ (z : View E B). z.read ≡ true) s.views id v drawer at (λ r. r) (t.away e);
    full = some_set (HasSeen t.entries) s.views id v drawer at (λ h. record { share = h.share; all = h.all }) t.full;
    taken = each_set (λ j (x : View E B). x.read ≡ true → s.homes ≡ none ∷ []) s.views id drawer (λ j x n e. t.taken j x e) (λ q. absurd (true_false (sym q ∙ read)));
    places = λ x. (let e = sum_set (λ (z : View E B). times x z.places) s.views id v drawer at in let p = t.places x in omega arith);
  }

-- a word counts on at its end
pub up_mod : (n m : ℕ) → (n % m + 1) % m ≡ (n + 1) % m
up_mod n m = sym (add-mul-mod_self_right (n % m + 1) (n / m) m) ∙ ap (λ k. k % m) (let e = mod-add-div' n m in omega (arith, e))

module _ {E T B : Type 0} (list : T → List E) (base : T → B) (fixed : B) where
  pub draw_allows : (slots id : ℕ) (v : View E B) → 1 ≤ v.share → v.ticket ≡ None → v.served ≡ false → v.read ≡ false
      → Allows (InTurn list base fixed) slots id (v, []) 1 (λ n. (n + 1) % 2 ^ 64) (drew (step slots 1 1 0 none) (v, []))
  draw_allows slots id v share ticket served read s t deep at small =
      let w : View E B = with_ticket v t.drawn in
      let words : set s.words 1 ((slice_index s.words 1 + 1) % 2 ^ 64) ≡ t.entries ∷ (t.drawn + 1) % 2 ^ 64 ∷ t.next % 2 ^ 64 ∷ [] =
      ap (λ ws. set ws 1 ((slice_index ws 1 + 1) % 2 ^ 64)) t.words ∙ ap (λ k. t.entries ∷ k ∷ t.next % 2 ^ 64 ∷ []) (up_mod t.drawn (2 ^ 64)) in (
        w,
        keeps,
        tt,
        subst (λ ws. InTurn list base fixed record { words = ws; homes = s.homes; views = set s.views id w }) (sym words) (draw_keeps list base fixed s t id v at share ticket served read),
        (t.drawn, ap (λ ws. slice_index ws 1) t.words, refl),
      )
