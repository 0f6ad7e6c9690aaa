-- The outputs that are left decide.
use Rattle.std.proofs.Common.{◌≡◌, drop}
use Rattle.mentions.specs.Mentions as meant
use Rattle.mentions.proofs.asking.outputs_ask_for.Given as goal

abbrev pub invariant-loop-i : goal.invariant-loop-i
invariant-loop-i l = meant.outputs_ask l.prefix (drop l.i l.declared) ≡ meant.outputs_ask l.prefix l.declared
