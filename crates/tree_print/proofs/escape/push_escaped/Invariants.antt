use Rattle.std.proofs.Common.{◌≡◌, ◌++◌, take}
use Rattle.tree_types.specs.Texts.{escaped}
use Rattle.tree_print.proofs.escape.push_escaped.Given as goal

abbrev pub invariant-loop-byte : goal.invariant-loop-byte
invariant-loop-byte l = l.line ≡ l.initial.line ++ escaped (take l.byte-index l.bytes)
