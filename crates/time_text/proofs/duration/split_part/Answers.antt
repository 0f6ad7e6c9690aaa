use Rattle.std.proofs.Common.{rules, arith, length}
use Rattle.std.specs.Char.{is_ascii_digit}
use Rattle.std.proofs.lemmas.List.{take_rest}
use Rattle.std.proofs.lemmas.List.Sums.{prefix_len-le-length}
use Rattle.time_text.proofs.duration.split_part.Goals as goal

pub split_at-requires : goal.split_at-requires
split_at-requires c = omega (arith, c.front_len.ensures, prefix_len-le-length is_ascii_digit c.args.text.now)

pub returns-then-starts_with-clause-rest : goal.returns-then-starts_with-clause-rest
returns-then-starts_with-clause-rest c = rw (take_rest c.split_at.result.1.now (length c.args.unit.now)) (search rules)
