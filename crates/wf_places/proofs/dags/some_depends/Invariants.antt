-- The tasks that are left decide.
use Rattle.std.proofs.Common.{◌≡◌, drop}
use Rattle.wf_places.specs.Inside.Spelling.{some_depends}
use Rattle.wf_places.proofs.dags.some_depends.Given as goal

abbrev pub invariant-loop-i : goal.invariant-loop-i
invariant-loop-i l = some_depends (drop l.i l.tasks) ≡ some_depends l.tasks
