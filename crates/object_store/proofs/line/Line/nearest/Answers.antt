use Rattle.std.proofs.Common.{◌+◌, ◌-◌, length, refl, sym, subst, arith}
use Rattle.std.proofs.lemmas.Option.{slice_get_read}
use Rattle.object_store.specs.Inside.Rows.{StandsIn, row_size}
use Rattle.object_store.proofs.Places.{get_at, get_later}
use Rattle.object_store.proofs.line.Line.nearest.Goals as goal

pub returns-then-at-last_row-clause-stands : goal.returns-then-at-last_row-clause-stands
returns-then-at-last_row-clause-stands g c = λ ms stands.
    let s = c.self.inside in
    let here = subst (λ r. StandsIn r ms) (sym c.self.view_is) stands in
    let m = c.index.result.now in
    let start = length s.changes.items - length s.later.items in
    let i = c.args.at - (c.len.result - c.len-2.result) - 1 in
    get_at ms c.args.at (start + (i + 1)) m (omega arith)
    (here.last_row (i + 1) m (get_later s.first s.later.items i m (slice_get_read s.later.items (length s.later.items) i m refl (omega arith) c.index.ensures)))

pub returns-then-at-last_row-2-clause-stands : goal.returns-then-at-last_row-2-clause-stands
returns-then-at-last_row-2-clause-stands g c = λ ms stands.
    let s = c.self.inside in
    let here = subst (λ r. StandsIn r ms) (sym c.self.view_is) stands in
    let start = length s.changes.items - length s.later.items in
    get_at ms c.args.at (start + 0) s.first (omega arith) (here.last_row 0 s.first refl)

pub returns-then-at-last_row-3-clause-stands : goal.returns-then-at-last_row-3-clause-stands
returns-then-at-last_row-3-clause-stands g c = λ ms stands.
    let s = c.self.inside in
    let here = subst (λ r. StandsIn r ms) (sym c.self.view_is) stands in
    let m = c.index-then-at-last_row-3.result.now in
    let start = length s.changes.items - length s.later.items in
    get_at ms (c.len.result - c.len-2.result - row_size) (start - row_size) m (omega arith)
    (here.row_before m (slice_get_read s.rows.items (length s.rows.items) 1 m refl (omega arith) c.index-then-at-last_row-3.ensures))
