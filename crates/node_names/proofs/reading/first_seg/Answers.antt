use Rattle.std.proofs.Common.{None, arith}
use Rattle.std.proofs.lemmas.Str.Pattern.{strip_prefix_char}
use Rattle.node_names.proofs.BeginsWithNone.{no_mark}
use Rattle.node_names.proofs.reading.first_seg.Goals as goal

pub returns : goal.returns
returns c =
    let text = c.args.text.now in
    no_mark text (strip_prefix_char 46 text None c.in_default.ensures.cases (omega arith))
    (strip_prefix_char 91 text None c.in_default-strip_prefix.ensures.cases (omega arith))
    (strip_prefix_char 40 text None c.in_default-strip_prefix-2.ensures.cases (omega arith))
