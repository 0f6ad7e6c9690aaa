use Rattle.std.proofs.Common.{ℕ, List, arith, subst, sym, ◌%◌, ◌+◌, ◌^◌}
use Rattle.atomic_table.specs.Table.{Allows, step}
use mathlib.Core.Option.{none}
use Rattle.store_turn.specs.Steps.{committed}
use Rattle.store_turn.specs.Tickets.{InTurn}
use Rattle.store_turn.proofs.Committed.{commit_allows}
use Rattle.store_turn.proofs.table.TurnTable.commit.Goals as goal

pub fetch_add-requires : goal.fetch_add-requires
fetch_add-requires g c =
    let table = c.args.self.now.table.shared in
    let place = c.args.seat.now in
    let more = c.requires.more in
    let P : List (ℕ × g.row.T.Denot) → Type 0 = λ l. Allows (InTurn g.T.Grows.list g.T.Grows.base (g.T.Grows.base table.key.value)) table.table_id.slots place.id (place.me.0, l) 0 (λ n. (n + 1) % 2 ^ 64) (committed g.T.Grows.list (step table.table_id.slots 0 1 0 none) (place.me.0, l)) in (
      c.requires.of,
      (let w = c.args.self.now.sized.0 in omega arith),
      subst P (sym more.out) (commit_allows g.T.Grows.list g.T.Grows.base (g.T.Grows.base table.key.value) table.table_id.slots place.id place.me.0 more.after more.read more.later more.one_more more.fits),
    )
