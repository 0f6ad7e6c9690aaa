-- Where one seat at rest has the whole, the value is at home.
use Rattle.std.proofs.Common.{◌≡◌, ◌≢◌, ℕ, false, List, [], ◌∷◌, sym, ◌∙◌, ap, arith, subst, length}
use Rattle.std.specs.Prelude.{Some}
use mathlib.Core.Option.{some, none}
use mathlib.Core.Option as maybe
use mathlib.Core.Logic.{dite}
use native.Mathlib.Decide.{ℕ_discrete}
use lib.ListN.{get_elem?}
use Rattle.atomic_table.specs.Table.{State, Seen, Final}
use Rattle.store_turn.specs.declared.rule.View.{View}
use Rattle.store_turn.specs.Tickets.{InTurn}
use Rattle.store_turn.proofs.Lists.{some_one, true_false, same_list}
use Rattle.store_turn.proofs.Sums.{sum_two}
use Rattle.store_turn.proofs.Tickets.{a_ticket}

module _ {E T B : Type 0} (list : T → List E) (base : T → B) (fixed : B) (s : State T (View E B)) (t : InTurn list base fixed s) (id : ℕ) (v : View E B) (at : get_elem? s.views id ≡ some v)
    (whole : v.share ≡ 4294967296) (read : v.read ≡ false) where
  pub at_home : (y : T) × (s.homes ≡ some y ∷ [])
  at_home = go t.one.0 t.one.1
    where
      go : (h : maybe.Option T) → s.homes ≡ h ∷ [] → (y : T) × (s.homes ≡ some y ∷ [])
      go none e =
          let a = t.away e in
          let w = a.1.0 in
          let ok = t.views a.0 w a.1.1 in
          let apart : id ≢ a.0 = λ q. true_false (sym a.1.2 ∙ ap (λ (z : View E B). z.read) (some_one w v (sym a.1.1 ∙ ap (get_elem? s.views) (sym q) ∙ at)) ∙ read) in
          let two = sum_two (λ (z : View E B). z.share) s.views id a.0 v w apart at a.1.1 in
          let part = ok.part in
          let one = a_ticket w t.next (ok.served (ok.read a.1.2).0) in
          let all = t.shares in absurd (omega arith)
      go (some y) e = (y, e)

  -- no other seat has a share, so it is this one that has seen all entries
  saw_all : length v.seen ≡ t.entries
  saw_all =
      let f = t.full in
      dite (ℕ_discrete id f.0)
      (λ same. subst (λ (z : View E B). length z.seen ≡ t.entries) (some_one f.1.0 v (sym f.1.1 ∙ ap (get_elem? s.views) (sym same) ∙ at)) f.1.2.all)
      (λ apart. absurd (
      let two = sum_two (λ (z : View E B). z.share) s.views id f.0 v f.1.0 apart at f.1.1 in
      let share = f.1.2.share in
      let all = t.shares in omega arith))

module _ {E T B : Type 0} (list : T → List E) (base : T → B) (fixed : B) where
  -- what is taken out is what the seat saw
  pub closes : (id : ℕ) (v : View E B) (words : List ℕ) (slots : List T) (x : T) → Final (Seen (InTurn list base fixed) id v) words slots → v.share ≡ 4294967296 → v.read ≡ false → get_elem? slots 0 ≡ some x
      → (list x ≡ v.seen) × (v.base ≡ Some (base x))
  closes id v words slots x f whole read first =
      let s = f.0 in
      let t = f.1.0 in
      let at = f.1.1 in
      let home = at_home list base fixed s t id v at whole read in
      let y = home.0 in
      let is : y ≡ x = some_one y x (sym (f.4 0 y (ap (λ hs. get_elem? hs 0) home.1)) ∙ first) in
      let h = t.home y home.1 in
      let based = (t.views id v at).based (omega arith) in (
        subst (λ z. list z ≡ v.seen) is (same_list v.seen (list y) (h.2 id v at) (let n = h.0 in let all = saw_all list base fixed s t id v at whole read in omega arith)),
        based ∙ ap (λ b. Some b) (sym h.1) ∙ ap (λ z. Some (base z)) is,
      )
