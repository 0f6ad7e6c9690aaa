-- What is told of the locks that a workflow asks for since its last fact.
use Rattle.std.specs.Prelude.{◌≡◌, List, [], ◌∷◌, ◌++◌}
use Rattle.tree_types.specs.declared.fact.Fact.{Fact}
use Rattle.pod_laws.specs.NewPods.{NoneNew}
use Rattle.pod_laws.specs.NewLocks.{locks}
use Rattle.tree_incr.specs.Workflows.{Workflow}

-- it asks for no lock that it did not ask for before its last fact
pub record LastAddsNoLock (w : Workflow) : Type 0 where
  pub before : List Fact
  pub fact : Fact
  pub last : w.facts ≡ before ++ fact ∷ []
  pub locks : NoneNew (locks w.manifest w.facts) (locks w.manifest before)
