-- What is added and what is left are the pods, and what is left decides beside what is added.
use Rattle.std.proofs.Common.{◌≡◌, ◌++◌, []}
use Rattle.std.specs.Vec.Iter.{into_iter_items}
use Rattle.wf_bundle.specs.Outcomes.{pods_differ_from}
use Rattle.wf_bundle.specs.Inside.Pods.{pods_of}
use Rattle.wf_bundle.proofs.outcomes.Outcomes.of_plan.Given as goal

abbrev pub invariant-loop-pod : goal.invariant-loop-pod
invariant-loop-pod l = (pods_of l.pods.entries ++ into_iter_items l.pod-iterator ≡ l.fn.plan.pods) × (pods_differ_from (pods_of l.pods.entries) (into_iter_items l.pod-iterator) ≡ pods_differ_from [] l.fn.plan.pods)
