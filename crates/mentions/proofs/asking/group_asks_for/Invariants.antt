-- The calls that are left decide.
use Rattle.std.proofs.Common.{◌≡◌, drop}
use Rattle.mentions.specs.Mentions as meant
use Rattle.mentions.proofs.asking.group_asks_for.Given as goal

abbrev pub invariant-loop-i : goal.invariant-loop-i
invariant-loop-i l = meant.group_asks l.prefix (drop l.i l.calls) ≡ meant.group_asks l.prefix l.calls
