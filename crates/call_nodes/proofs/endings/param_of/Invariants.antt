-- The parameters that are left decide.
use Rattle.std.proofs.Common.{◌≡◌, drop}
use Rattle.meaning.specs.Outputs.{param}
use Rattle.call_nodes.proofs.endings.param_of.Given as goal

abbrev pub invariant-loop-i : goal.invariant-loop-i
invariant-loop-i l = param l.name (drop l.i l.params) ≡ param l.name l.params
