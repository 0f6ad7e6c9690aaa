use Rattle.std.proofs.Common.{◌≡◌, true}
use Rattle.template_reader.specs.Texts.{is_short_number}
use Rattle.template_reader.proofs.ShortNumbers.{parse-is_short_number}
use Rattle.template_reader.proofs.retries.number_within.Goals as goal

pub returns-in_default : goal.returns-in_default
returns-in_default c =
    let form : is_short_number c.args.text.now ≡ true = cc in
    let said = parse-is_short_number c.args.text.now c.parse.result c.parse.ensures.value.0 form in
    absurd cc
