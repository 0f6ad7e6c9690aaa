-- The places so far, and those of the tasks that are left.
use Rattle.std.proofs.Common.{◌≡◌, ◌++◌, drop}
use Rattle.wf_places.specs.Dags.{tasks_places}
use Rattle.wf_places.specs.Inside.Views.{around_of}
use Rattle.wf_places.proofs.dags.add_tasks.Given as goal

abbrev pub invariant-loop-i : goal.invariant-loop-i
invariant-loop-i l = l.out.items ++ tasks_places (around_of l.inside l.spot) l.inside.ancestry l.at l.i (drop l.i l.tasks) ≡ l.initial.out.items ++ tasks_places (around_of l.inside l.spot) l.inside.ancestry l.at 0 l.tasks
