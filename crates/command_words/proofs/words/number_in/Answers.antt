use Rattle.std.proofs.Common.{◌≡◌, true}
use Rattle.command_words.specs.Orders.{are_digits}
use Rattle.command_words.proofs.ParsesDigits.{parses_digits}
use Rattle.command_words.proofs.words.number_in.Goals as goal

pub returns-in-Err : goal.returns-in-Err
returns-in-Err c =
    let form : are_digits c.args.text.now ≡ true = cc in
    let said = parses_digits c.args.text.now c.parse.result c.parse.ensures.value.0 form in
    absurd cc

pub returns-in-Ok : goal.returns-in-Ok
returns-in-Ok c =
    let form : are_digits c.args.text.now ≡ true = cc in
    let said = parses_digits c.args.text.now c.parse.result c.parse.ensures.value.0 form in
    cc
