use Rattle.std.proofs.Common.{◌≡◌, true, take}
use Rattle.history_text.specs.Inside.Bytes.{is_one_line}
use Rattle.history_text.proofs.lines.line_len.Given as goal

abbrev pub invariant-loop-i : goal.invariant-loop-i
invariant-loop-i l = is_one_line (take l.i l.bytes) ≡ true
