use Rattle.std.proofs.Common.{◌≡◌, false, codes, nat_eq, arith, lit<, None}
use Rattle.std.specs.List.{starts_with}
use Rattle.std.proofs.lemmas.Grind.{common_steps}
use Rattle.std.proofs.lemmas.Str.Pattern.{strip_prefix_char}
use Rattle.fanout.proofs.WholeOf.{no_minus}
use Rattle.fanout.proofs.numbers.read_whole.Goals as goal

pub returns-in_err-read_natural-in-None-clause-told :
    goal.returns-in_err-read_natural-in-None-clause-told
returns-in_err-read_natural-in-None-clause-told c =
    let plain : starts_with nat_eq c.args.text.now (codes "-") ≡ false = no_minus c.args.text.now (strip_prefix_char 45 c.args.text.now None c.in-None.ensures.cases (lit< tt)) in
    grind (arith, common_steps, plain)
