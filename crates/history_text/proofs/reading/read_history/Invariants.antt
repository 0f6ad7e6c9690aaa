use Rattle.std.proofs.Common.{◌≡◌, ◌+◌, ◌≤◌, ◌++◌, length}
use Rattle.history_text.specs.Lines.{history_text}
use Rattle.history_text.specs.Readable.{AreReadable}
use Rattle.history_text.proofs.reading.read_history.Given as goal

-- what is read, and what is left
abbrev pub invariant-loop-rest : goal.invariant-loop-rest
invariant-loop-rest l = record {
  readable : AreReadable l.entries;
  whole : history_text l.entries ++ l.rest ≡ l.fn.bytes;
  count : length l.entries + length l.rest ≤ length l.fn.bytes;
}

abbrev pub decreases-loop-rest : goal.decreases-loop-rest
decreases-loop-rest l = length l.rest
