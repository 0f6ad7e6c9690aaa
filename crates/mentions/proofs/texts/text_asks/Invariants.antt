-- The parts that are left decide.
use Rattle.std.proofs.Common.{◌≡◌, drop}
use Rattle.mentions.specs.Mentions as meant
use Rattle.mentions.proofs.texts.text_asks.Given as goal

abbrev pub invariant-loop-i : goal.invariant-loop-i
invariant-loop-i l = meant.text_asks l.prefix (drop l.i l.text) ≡ meant.text_asks l.prefix l.text
