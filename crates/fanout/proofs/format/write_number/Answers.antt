use Rattle.std.proofs.Common.{arith}
use Rattle.fanout.proofs.Written.{written-around}
use Rattle.fanout.proofs.format.write_number.Goals as goal

pub returns : goal.returns
returns c = let f = c.args.format.now in grind (arith, written-around f.before f.after f.width c.args.number)
