-- A pod's node Succeeds by its outcome, or by a cache.
use Rattle.askings.proofs.PodsSucceed.{pods_succeed}
use Rattle.askings.proofs.laws.pods_succeed.Goals as goal

pub returns : goal.returns
returns c = pods_succeed
