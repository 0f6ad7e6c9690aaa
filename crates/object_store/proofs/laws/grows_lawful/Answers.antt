use Rattle.history.proofs.Extends.{lawful-grown}
use Rattle.object_store.proofs.laws.grows_lawful.Goals as goal

pub returns : goal.returns
returns g c = λ law. lawful-grown (g.C.Content.justified law)
