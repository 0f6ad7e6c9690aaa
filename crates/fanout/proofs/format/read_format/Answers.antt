use Rattle.std.proofs.Common.{◌∙◌, ap, option_map}
use Rattle.fanout.specs.Sequences.{checked_format}
use Rattle.fanout.specs.Inside.Shapes.{around}
use Rattle.fanout.proofs.FormatParts.{checked-around}
use Rattle.fanout.proofs.format.read_format.Goals as goal

pub returns : goal.returns
returns c =
    let before = c.in_ok-before.before in
    let width = c.in_ok-before.width in
    ap checked_format (c.in_ok-before.ensures ∙ ap (λ o. option_map (around before width) o) c.in_ok-after.ensures)
    ∙ checked-around before c.in_ok-after.after width
