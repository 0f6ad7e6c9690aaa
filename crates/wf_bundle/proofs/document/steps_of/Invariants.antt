-- What is listed and what is left make the whole.
use Rattle.std.proofs.Common.{◌≡◌, ◌++◌}
use Rattle.std.specs.List.{filter_map}
use Rattle.std.specs.Vec.Iter.{into_iter_items}
use Rattle.wf_bundle.proofs.document.steps_of.Given as goal

abbrev pub invariant-loop-step : goal.invariant-loop-step
invariant-loop-step l = l.steps ++ filter_map (λ step. step) (into_iter_items l.step-iterator) ≡ filter_map (λ step. step) l.fn.said
