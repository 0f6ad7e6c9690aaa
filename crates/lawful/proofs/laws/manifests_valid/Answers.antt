-- Each workflow of a lawful history is valid.
use Rattle.lawful.proofs.ManifestsValid.{manifests_valid}
use Rattle.lawful.proofs.laws.manifests_valid.Goals as goal

pub returns : goal.returns
returns c = manifests_valid
