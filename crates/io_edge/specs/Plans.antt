-- Which calls of an object in memory fail. This plan is the project's own: with it a test picks the call that fails.
use Rattle.std.specs.Prelude.{Bool, ◌==◌, if◌then◌else◌}
use Rattle.std.specs.List.{list_any}
use Rattle.io_edge.specs.Cause.{counted}
use Rattle.io_edge.specs.declared.call_plan.CallPlan.{CallPlan}

-- the number of the next call is among those that fail
abbrev pub fails_next : CallPlan → Bool
fails_next plan = list_any (λ number. number == counted plan.calls) plan.failing

-- the plan after one more call, with one more fault where it failed
abbrev pub after_call : CallPlan → Bool → CallPlan
after_call plan failed = record plan {
  calls = counted plan.calls;
  faults = if failed then counted plan.faults else plan.faults;
}
