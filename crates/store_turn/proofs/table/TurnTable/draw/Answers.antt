use Rattle.std.proofs.Common.{ℕ, List, arith, subst, sym, ap, ◌∙◌, ◌%◌, ◌+◌, ◌^◌}
use Rattle.std.specs.Prelude.{Some}
use Rattle.atomic_table.specs.Table.{Allows, step}
use mathlib.Core.Option.{none}
use Rattle.store_turn.specs.Steps.{drew}
use Rattle.store_turn.specs.Tickets.{InTurn}
use Rattle.store_turn.proofs.Drew.{draw_allows}
use Rattle.store_turn.proofs.table.TurnTable.draw.Goals as goal

pub fetch_add-requires : goal.fetch_add-requires
fetch_add-requires g c =
    let table = c.args.self.now.table.shared in
    let place = c.args.seat.now in
    let rests = c.requires.rests in
    let P : List (ℕ × g.row.T.Denot) → Type 0 = λ l. Allows (InTurn g.T.Grows.list g.T.Grows.base (g.T.Grows.base table.key.value)) table.table_id.slots place.id (place.me.0, l) 1 (λ n. (n + 1) % 2 ^ 64) (drew (step table.table_id.slots 1 1 0 none) (place.me.0, l)) in (
      c.requires.of,
      (let w = c.args.self.now.sized.0 in omega arith),
      subst P (sym rests.free) (draw_allows g.T.Grows.list g.T.Grows.base (g.T.Grows.base table.key.value) table.table_id.slots place.id place.me.0 rests.some_share rests.no_ticket rests.not_served rests.not_read),
    )

pub returns-clause-drew : goal.returns-clause-drew
returns-clause-drew g c =
    let e = c.fetch_add.ensures.2 in
    record { ticket = e.0; told_is = e.1; now = e.2 ∙ ap (λ (l : List (ℕ × g.row.T.Denot)). (record c.args.seat.now.me.0 { ticket = Some e.0 }, l)) c.requires.rests.free }
