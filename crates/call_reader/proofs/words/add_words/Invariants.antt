-- The names so far, and those that are left.
use Rattle.std.proofs.Common.{◌≡◌, ◌++◌, drop, map}
use Rattle.std.specs.List.{flat_map}
use Rattle.call_reader.specs.Words.{if_any, between_spaces}
use Rattle.call_reader.proofs.words.add_words.Given as goal

abbrev pub invariant-loop-i : goal.invariant-loop-i
invariant-loop-i l = l.names ++ flat_map if_any (map (λ part. part.now) (drop l.i l.parts.items)) ≡ l.initial.names ++ between_spaces l.text
