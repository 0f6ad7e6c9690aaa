use Rattle.std.proofs.Common.{Some, None, arith}
use Rattle.std.proofs.lemmas.Str.Pattern.{split_parts}
use Rattle.node_names.proofs.BeginsWithNone.{no_bracket, no_number}
use Rattle.node_names.proofs.reading.group_at.Goals as goal

pub returns-in_default : goal.returns-in_default
returns-in_default c = no_bracket c.args.after.now (split_parts 93 c.args.after.now None c.in_default.ensures.cases (omega arith))

pub returns-in_default-number_of : goal.returns-in_default-number_of
returns-in_default-number_of c =
    let parts = split_parts 93 c.args.after.now (Some (c.in-Some.digits, c.in-Some.rest)) c.in-Some.ensures.cases (omega arith) in
    no_number c.args.after.now c.in-Some.digits.now c.in-Some.rest.now parts.0 parts.1 c.in_default-number_of.ensures
