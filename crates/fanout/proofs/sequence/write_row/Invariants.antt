use Rattle.std.proofs.Common.{◌≡◌, ◌-◌, ◌++◌, map}
use Rattle.serde_json.specs.Data.{string}
use Rattle.fanout.specs.Items.{number_items}
use Rattle.fanout.specs.Inside.Rows.{row_of, number_from}
use Rattle.fanout.specs.Sequences.{written, numbers_from, numbers}
use Rattle.fanout.specs.Inside.Shapes.{parts_of_shape}
use Rattle.fanout.proofs.sequence.write_row.Given as goal

abbrev pub invariant-loop-place : goal.invariant-loop-place
invariant-loop-place l =
    l.items
    ++ map
    (λ z. string (written (parts_of_shape l.format) z))
    (numbers_from (l.row.count - l.place) (row_of l.row).step (number_from l.row.down l.row.first l.place))
    ≡ number_items (parts_of_shape l.format, numbers (row_of l.row))
