use Rattle.std.proofs.Common.{ℕ, List, arith, subst, sym, ◌∙◌, ap}
use Rattle.atomic_table.specs.Table.{Me, Allows, step}
use mathlib.Core.Option.{none}
use Rattle.store_turn.specs.declared.rule.View.{View}
use Rattle.store_turn.specs.Steps.{recalled}
use Rattle.store_turn.specs.Tickets.{InTurn}
use Rattle.store_turn.proofs.Recalled.{recall_allows}
use Rattle.store_turn.proofs.Joined.{join_joins}
use Rattle.store_turn.proofs.table.TurnTable.join.Goals as goal

pub join_seat-requires : goal.join_seat-requires
join_seat-requires g c =
    let rests = c.requires.rests in
    let theirs = c.requires.other_rests in (
      c.requires.of,
      c.requires.other_of,
      theirs.free,
      (let w = c.args.self.now.sized.0 in omega arith),
      λ s t at apart there. join_joins g.T.Grows.list g.T.Grows.base (g.T.Grows.base c.args.self.now.table.shared.key.value) s t c.args.seat.now.id c.args.seat.now.me.0 c.args.other.id c.args.other.me.0 at apart there rests.no_ticket rests.not_served rests.not_read rests.some_share theirs.no_ticket theirs.not_read,
    )

pub load-requires : goal.load-requires
load-requires g c =
    let table = c.args.self.now.table.shared in
    let place = c.join_seat.new.seat in
    let P : List (ℕ × g.row.T.Denot) → Type 0 = λ l. Allows (InTurn g.T.Grows.list g.T.Grows.base (g.T.Grows.base table.key.value)) table.table_id.slots place.id (place.me.0, l) 0 (λ n. n) (recalled (step table.table_id.slots 0 0 0 none) (place.me.0, l)) in (
      c.join_seat.ensures.0 ∙ c.requires.of,
      (let w = c.args.self.now.sized.0 in omega arith),
      subst P (sym (ap (λ (m : Me g.row.T.Denot (View g.row.T-Item.Denot g.row.T-Base.Denot)). m.1) c.join_seat.ensures.2 ∙ c.requires.rests.free)) (recall_allows g.T.Grows.list g.T.Grows.base (g.T.Grows.base table.key.value) table.table_id.slots place.id place.me.0),
    )
