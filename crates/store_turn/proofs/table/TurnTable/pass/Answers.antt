use Rattle.std.proofs.Common.{ℕ, List, arith, subst, sym, ◌%◌, ◌+◌, ◌^◌}
use Rattle.atomic_table.specs.Table.{Allows, step}
use mathlib.Core.Option.{none}
use Rattle.store_turn.specs.Steps.{passed}
use Rattle.store_turn.specs.Tickets.{InTurn}
use Rattle.store_turn.proofs.Passed.{pass_allows}
use Rattle.store_turn.proofs.table.TurnTable.pass.Goals as goal

pub fetch_add-requires : goal.fetch_add-requires
fetch_add-requires g c =
    let table = c.args.self.now.table.shared in
    let place = c.args.seat.now in
    let same = c.requires.same in
    let P : List (ℕ × g.row.T.Denot) → Type 0 = λ l. Allows (InTurn g.T.Grows.list g.T.Grows.base (g.T.Grows.base table.key.value)) table.table_id.slots place.id (place.me.0, l) 2 (λ n. (n + 1) % 2 ^ 64) (passed (step table.table_id.slots 2 1 0 none) (place.me.0, l)) in (
      c.requires.of,
      (let w = c.args.self.now.sized.0 in omega arith),
      subst P (sym same.out) (pass_allows g.T.Grows.list g.T.Grows.base (g.T.Grows.base table.key.value) table.table_id.slots place.id place.me.0 same.after same.read same.all same.some_share same.kept),
    )
