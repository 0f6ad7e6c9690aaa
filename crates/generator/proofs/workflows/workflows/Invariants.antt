-- The workflows so far.
use Rattle.std.proofs.Common.{◌≡◌, take, map}
use Rattle.serde_json.specs.View.{view}
use Rattle.generator.specs.Bundles.{workflow}
use Rattle.generator.proofs.workflows.workflows.Given as goal

abbrev pub invariant-loop-one : goal.invariant-loop-one
invariant-loop-one l = map view l.values.items ≡ map workflow (take l.one-index l.drawn)
