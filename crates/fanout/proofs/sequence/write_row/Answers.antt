use Rattle.std.proofs.Common.{◌+◌, ◌-◌, ◌++◌, map, ℤ, ap, ◌∙◌}
use Rattle.serde_json.specs.Data.{Data, string}
use Rattle.fanout.specs.Items.{number_items}
use Rattle.fanout.specs.Inside.Rows.{row_of, number_from}
use Rattle.fanout.specs.Sequences.{written, numbers, numbers_from}
use Rattle.fanout.specs.Inside.Shapes.{parts_of_shape}
use Rattle.fanout.proofs.Written.{row_step, row_begins, number_from-next}
use Rattle.fanout.proofs.sequence.write_row.Goals as goal

pub loop-place-init : goal.loop-place-init
loop-place-init c =
    let row = c.args.row.now in
    let f : ℤ → Data = λ z. string (written (parts_of_shape c.args.format.now) z) in
    ap (λ l. l ++ map f (numbers_from (row.count - 0) (row_of row).step (number_from row.down row.first 0))) c.in_ok-items.ensures
    ∙ row_begins f row.count row.down (row_of row).step row.first

pub loop-place-preserved : goal.loop-place-preserved
loop-place-preserved c =
    let row = c.args.row.now in
    let f : ℤ → Data = λ z. string (written (parts_of_shape c.args.format.now) z) in
    row_step f row.count c.loop-place.place (row_of row).step (number_from row.down row.first c.loop-place.place) (number_from row.down row.first (c.loop-place.place + 1))
    c.loop-place.items c.push.new.self (number_items (parts_of_shape c.args.format.now, numbers (row_of row))) c.in_ok-row_item.field-0
    c.loop-place-test.true c.loop-place.invariant c.in_ok-row_item.ensures c.in_ok-push.ensures.ok
    (number_from-next row.down row.first c.loop-place.place)
