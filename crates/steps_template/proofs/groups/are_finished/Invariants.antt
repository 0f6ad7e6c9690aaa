-- The members that are left decide.
use Rattle.std.proofs.Common.{◌≡◌, drop}
use Rattle.std.specs.List.{list_all}
use Rattle.steps_template.specs.declared.groups.Member.{Member}
use Rattle.steps_template.proofs.groups.are_finished.Given as goal

abbrev pub invariant-loop-i : goal.invariant-loop-i
invariant-loop-i l = list_all (λ (m : Member). m.finished) (drop l.i l.members) ≡ list_all (λ (m : Member). m.finished) l.members
