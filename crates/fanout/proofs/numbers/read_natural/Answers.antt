use Rattle.std.proofs.Common.{◌≡◌, true}
use Rattle.fanout.specs.Sequences.{are_digits}
use Rattle.fanout.proofs.WholeOf.{parse-are_digits}
use Rattle.fanout.proofs.numbers.read_natural.Goals as goal

pub returns-in_default-clause-told : goal.returns-in_default-clause-told
returns-in_default-clause-told c =
    let form : are_digits c.args.text.now ≡ true = cc in
    let said = parse-are_digits c.args.text.now c.parse.result c.parse.ensures.value.0 form in
    absurd cc
