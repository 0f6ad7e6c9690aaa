-- The tasks that are left decide.
use Rattle.std.proofs.Common.{◌≡◌, drop}
use Rattle.wf_places.specs.Inside.Spelling.{all_fit}
use Rattle.wf_places.proofs.dags.all_fit.Given as goal

abbrev pub invariant-loop-i : goal.invariant-loop-i
invariant-loop-i l = all_fit (drop l.i l.tasks) ≡ all_fit l.tasks
