use Rattle.std.proofs.Common.{◌≡◌, drop}
use Rattle.scopes.specs.Substitution.{said}
use Rattle.scopes.proofs.Said.{onto}
use Rattle.scopes.proofs.substituting.subst.Given as goal

-- what was said, and what is said of the rest, is what is said of the whole
abbrev pub invariant-loop-i : goal.invariant-loop-i
invariant-loop-i l = onto l.front (said l.scope (drop l.i l.text)) ≡ said l.scope l.text
