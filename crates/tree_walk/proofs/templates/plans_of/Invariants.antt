-- The templates before this one have their plans.
use Rattle.std.proofs.Common.{◌≡◌, length}
use Rattle.tree_walk.proofs.Planned.{FirstPlanned}
use Rattle.tree_walk.proofs.templates.plans_of.Given as goal

abbrev pub invariant-loop-i : goal.invariant-loop-i
invariant-loop-i l = record {
  long : length l.plans ≡ l.i;
  planned : FirstPlanned l.manifest.templates l.plans;
}
