use Rattle.std.proofs.Common.{None, arith}
use Rattle.std.proofs.lemmas.Str.Pattern.{strip_suffix_char}
use Rattle.tag_text.proofs.WithoutSpaces.{no_end}
use Rattle.tag_text.proofs.reading.before_space.Goals as goal

pub returns-clause-trimmed : goal.returns-clause-trimmed
returns-clause-trimmed c =
    let text = c.args.text.now in
    let no_space = strip_suffix_char 32 text None c.in_default.ensures.cases (omega arith) in
    let tab = strip_suffix_char 9 text c.strip_suffix-2.result c.strip_suffix-2.ensures.cases (omega arith) in
    no_end text _ c.strip_suffix-2.result no_space tab
