-- What is found and what is left make the whole.
use Rattle.std.proofs.Common.{◌≡◌, ◌++◌, drop}
use Rattle.dag_plan.specs.Inside.Marks.{unmarked}
use Rattle.dag_plan.proofs.marks.unmarked.Given as goal

abbrev pub invariant-loop-i : goal.invariant-loop-i
invariant-loop-i l = l.found ++ unmarked l.i (drop l.i l.marks) ≡ unmarked 0 l.marks
