-- The places that are left decide.
use Rattle.std.proofs.Common.{◌≡◌, drop}
use Rattle.wf_check.specs.Verdicts.{asked}
use Rattle.wf_check.proofs.asking.asked.Given as goal

abbrev pub invariant-loop-i : goal.invariant-loop-i
invariant-loop-i l = asked l.rule (drop l.i l.places) ≡ asked l.rule l.places
