use Rattle.std.proofs.Common.{◌≡◌, ◌∷◌, ◌++◌, length, [], subst, sym, ap, ◌∙◌, arith}
use Rattle.atomic_table.specs.Table.{opening}
use Rattle.store_turn.specs.Steps.{first_view}
use Rattle.store_turn.specs.Tickets.{InTurn}
use Rattle.store_turn.proofs.FirstView.{opens}
use Rattle.store_turn.proofs.table.TurnTable.new.Goals as goal

pub new-requires : goal.new-requires
new-requires g c =
    let list = g.T.Grows.list in
    let base = g.T.Grows.base in
    let y = c.of-key.result.value in
    let n = c.len-entries.result in
    let is : y ≡ c.args.value = c.of-key.ensures in
    let count : n ≡ length (list y) = c.len-entries.ensures ∙ ap (λ z. length (list z)) (sym is) in
    let items : c.push_reserved.new.self.items ≡ y ∷ [] = c.push_reserved.ensures.items ∙ ap (λ l. l ++ c.args.value ∷ []) c.in_ok-slots.ensures.items ∙ ap (λ z. z ∷ []) (sym is) in
    subst (λ zs. InTurn list base (base y) (opening (n ∷ 0 ∷ 0 ∷ []) zs (first_view (list y) (base y)))) (sym items)
    (opens list base n y count (let t = c.len-entries.type_inv in omega arith))
