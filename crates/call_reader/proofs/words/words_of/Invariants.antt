-- The names so far, and those in the parts that are left.
use Rattle.std.proofs.Common.{◌≡◌, ◌++◌, drop, map}
use Rattle.std.specs.List.{flat_map}
use Rattle.call_reader.specs.Words.{between_spaces, words}
use Rattle.call_reader.proofs.words.words_of.Given as goal

abbrev pub invariant-loop-i : goal.invariant-loop-i
invariant-loop-i l = l.names ++ flat_map between_spaces (map (λ part. part.now) (drop l.i l.parts.items)) ≡ words l.text
