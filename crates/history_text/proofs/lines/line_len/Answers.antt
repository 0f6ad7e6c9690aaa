use Rattle.std.proofs.Common.{arith}
use Rattle.history_text.proofs.Feeds.{line_more}
use Rattle.history_text.proofs.lines.line_len.Goals as goal

pub loop-i-preserved : goal.loop-i-preserved
loop-i-preserved c = line_more c.args.bytes.now c.loop-i.i 0 (omega arith) c.loop-i.invariant c.if-byte-eq10.false
