use Rattle.std.proofs.Common.{arith, subst, sym, refl}
use Rattle.atomic_table.specs.Table.{Me, Allows, step}
use mathlib.Core.Option.{none}
use Rattle.store_turn.specs.declared.rule.View.{View}
use Rattle.store_turn.specs.Steps.{looked}
use Rattle.store_turn.specs.Tickets.{InTurn}
use Rattle.store_turn.proofs.Looked.{look_allows}
use Rattle.store_turn.proofs.table.TurnTable.look.Goals as goal

pub load-requires : goal.load-requires
load-requires g c =
    let table = c.args.self.now.table.shared in
    let place = c.args.seat.now in
    let holds = c.requires.holds.1 in
    let P : Me g.row.T.Denot (View g.row.T-Item.Denot g.row.T-Base.Denot) → Type 0 = λ m. Allows (InTurn g.T.Grows.list g.T.Grows.base (g.T.Grows.base table.key.value)) table.table_id.slots place.id m 2 (λ n. n) (looked (step table.table_id.slots 2 0 0 none) m) in (
      c.requires.of,
      (let w = c.args.self.now.sized.0 in omega arith),
      subst P (sym holds.now) (look_allows g.T.Grows.list g.T.Grows.base (g.T.Grows.base table.key.value) table.table_id.slots place.id _ holds.ticket refl c.requires.holds.2),
    )
