-- The pods that fail of the workflows so far.
use Rattle.std.proofs.Common.{◌≡◌, take, map}
use Rattle.std.specs.Prelude.{flat_map}
use Rattle.serde_json.specs.View.{view}
use Rattle.generator.specs.Bundles.{pods_of}
use Rattle.generator.proofs.outcomes.pods.Given as goal

abbrev pub invariant-loop-one : goal.invariant-loop-one
invariant-loop-one l = map view l.pods.items ≡ flat_map pods_of (take l.one-index l.drawn)
