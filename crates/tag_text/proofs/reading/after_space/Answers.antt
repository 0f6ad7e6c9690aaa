use Rattle.std.proofs.Common.{None, arith}
use Rattle.std.proofs.lemmas.Str.Pattern.{strip_prefix_char}
use Rattle.tag_text.proofs.WithoutSpaces.{no_front}
use Rattle.tag_text.proofs.reading.after_space.Goals as goal

pub returns-clause-trimmed : goal.returns-clause-trimmed
returns-clause-trimmed c =
    let text = c.args.text.now in
    let no_space = strip_prefix_char 32 text None c.in_default.ensures.cases (omega arith) in
    let tab = strip_prefix_char 9 text c.strip_prefix-2.result c.strip_prefix-2.ensures.cases (omega arith) in
    no_front text _ c.strip_prefix-2.result no_space tab
