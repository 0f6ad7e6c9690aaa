use Rattle.std.proofs.Common.{◌≡◌, ◌<◌, rules, arith, None, Some, length, get_or, drop, ◌∙◌, sym, ap, lit<, option_map}
use Rattle.std.proofs.lemmas.Grind.{common_steps}
use Rattle.std.proofs.lemmas.Str.Pattern.{strip_prefix_char}
use Rattle.fanout.specs.Inside.Shapes.{width_read}
use Rattle.fanout.proofs.FormatParts.{not_short, wide_number-no_zero, number_behind-zero, head_rest}
use Rattle.fanout.proofs.format.read_width.Goals as goal

pub returns-in_err-wide : goal.returns-in_err-wide
returns-in_err-wide c =
    let t = c.args.text.now in
    let no_d = strip_prefix_char 100 t None c.in_default.ensures.cases (lit< tt) in
    let no_zero = strip_prefix_char 48 t None c.in_err-wide.ensures.cases (lit< tt) in
    let is : c.from_residual.result ≡ None = search rules in
    not_short t no_d ∙ wide_number-no_zero t no_zero ∙ ap (option_map width_read) (sym is)

pub returns-in_err-strip_prefix : goal.returns-in_err-strip_prefix
returns-in_err-strip_prefix c =
    let wide = c.in_ok-wide.wide.now in
    let digit = c.in_ok-digit.field-0.now in
    let some : 0 < length wide = grind arith in
    let first : get_or wide 0 0 ≡ digit = grind (arith, common_steps) in
    let no_digit = strip_prefix_char digit wide None c.in_err-strip_prefix.ensures.cases (omega arith) in
    absurd (no_digit (drop 1 wide) (head_rest wide digit some first))

pub returns-in_err-rest : goal.returns-in_err-rest
returns-in_err-rest c =
    let t = c.args.text.now in
    let wide = c.in_ok-wide.wide.now in
    let digit = c.in_ok-digit.field-0.now in
    let tail = c.in_ok-strip_prefix.field-0.now in
    let no_d = strip_prefix_char 100 t None c.in_default.ensures.cases (lit< tt) in
    let zero = strip_prefix_char 48 t (Some c.in_ok-wide.wide) c.in_ok-wide.ensures.cases (lit< tt) in
    let next = strip_prefix_char digit wide (Some c.in_ok-strip_prefix.field-0) c.in_ok-strip_prefix.ensures.cases (omega arith) in
    let no_end = strip_prefix_char 100 tail None c.in_err-rest.ensures.cases (lit< tt) in
    let is : c.from_residual-in_err-rest.result ≡ None = search rules in
    number_behind-zero t wide tail digit no_d zero next no_end ∙ ap (option_map width_read) (sym is)
