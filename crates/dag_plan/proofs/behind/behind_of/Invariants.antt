-- The rows so far that name each place.
use Rattle.std.proofs.Common.{◌≡◌, ℕ, ◌<◌, [], length, get_or, take}
use Rattle.dag_plan.specs.Plans.{rows_with}
use Rattle.dag_plan.proofs.behind.behind_of.Given as goal

abbrev pub invariant-loop-i : goal.invariant-loop-i
invariant-loop-i l = record {
  long : length l.lists.items ≡ length l.rows;
  each : (p : ℕ) → p < length l.rows → get_or l.lists.items p [] ≡ rows_with p 0 (take l.i l.rows);
}
