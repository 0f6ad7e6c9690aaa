-- The arguments that are left decide.
use Rattle.std.proofs.Common.{◌≡◌, drop}
use Rattle.mentions.specs.Mentions as meant
use Rattle.mentions.proofs.texts.arguments_ask.Given as goal

abbrev pub invariant-loop-i : goal.invariant-loop-i
invariant-loop-i l = meant.arguments_ask l.prefix (drop l.i l.arguments) ≡ meant.arguments_ask l.prefix l.arguments
