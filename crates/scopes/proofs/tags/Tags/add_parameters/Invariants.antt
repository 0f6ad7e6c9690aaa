use Rattle.std.proofs.Common.{◌≤◌, ◌++◌, length, drop}
use Rattle.scopes.specs.Substitution.{parameter_tags}
use Rattle.scopes.specs.Values.{HasValuesOf}
use Rattle.scopes.proofs.tags.Tags.add_parameters.Given as goal

-- the last parameters have their values
abbrev pub invariant-loop-left : goal.invariant-loop-left
invariant-loop-left l =
    record {
      within : l.left ≤ length l.params;
      given : HasValuesOf l.self (parameter_tags l.prefix (drop l.left l.params) ++ l.fn.self);
    }

abbrev pub decreases-loop-left : goal.decreases-loop-left
decreases-loop-left l = l.left
