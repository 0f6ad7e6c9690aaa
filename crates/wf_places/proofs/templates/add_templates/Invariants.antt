-- The places so far, and those of the templates that are left.
use Rattle.std.proofs.Common.{◌≡◌, ◌++◌, drop}
use Rattle.wf_places.specs.Places.{templates_places}
use Rattle.wf_places.specs.Inside.Views.{around_workflow}
use Rattle.wf_places.proofs.templates.add_templates.Given as goal

abbrev pub invariant-loop-i : goal.invariant-loop-i
invariant-loop-i l = l.out.items ++ templates_places l.limits (around_workflow l.outside) l.at l.i (drop l.i l.templates) ≡ l.initial.out.items ++ templates_places l.limits (around_workflow l.outside) l.at 0 l.templates
