-- A seat that recalls what was joined keeps the rule.
use Rattle.std.proofs.Common.{◌≡◌, ℕ, List, [], set, refl, sym, ◌∙◌, ap, subst}
use Rattle.std.specs.Prelude.{slice_index}
use mathlib.Core.Option.{none}
use Rattle.atomic_table.specs.Table.{keeps, step, Allows}
use Rattle.atomic_table.proofs.Lists.{set_again}
use Rattle.store_turn.specs.declared.rule.View.{View}
use Rattle.store_turn.specs.Steps.{recalled}
use Rattle.store_turn.specs.Tickets.{InTurn}

module _ {E T B : Type 0} (list : T → List E) (base : T → B) (fixed : B) where
  pub recall_allows : (slots id : ℕ) (v : View E B) → Allows (InTurn list base fixed) slots id (v, []) 0 (λ n. n) (recalled (step slots 0 0 0 none) (v, []))
  recall_allows slots id v s t deep at small =
      let words : set s.words 0 (slice_index s.words 0) ≡ s.words = ap (λ ws. set ws 0 (slice_index ws 0)) t.words ∙ sym t.words in
      let ok = t.views id v at in (
        v,
        keeps,
        tt,
        subst (λ ws. InTurn list base fixed record { words = ws; homes = s.homes; views = set s.views id v }) (sym words)
            (subst (λ vs. InTurn list base fixed record { words = s.words; homes = s.homes; views = vs }) (sym (set_again s.views id v at)) t),
        (refl, ok.left, ok.right, ok.placed),
      )
