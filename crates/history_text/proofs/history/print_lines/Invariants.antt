use Rattle.std.proofs.Common.{◌≡◌, ◌++◌, take}
use Rattle.history_text.specs.Lines.{history_text}
use Rattle.history_text.proofs.history.print_lines.Given as goal

abbrev pub invariant-loop-entry : goal.invariant-loop-entry
invariant-loop-entry l = l.text ≡ l.initial.text ++ history_text (take l.entry-index l.entries)
