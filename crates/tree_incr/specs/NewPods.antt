-- What is told of the pods that a workflow asks for since its last fact.
use Rattle.std.specs.Prelude.{◌≡◌, ◌≤◌, ◌+◌, ℕ, List, [], ◌∷◌, ◌++◌}
use Rattle.tree_types.specs.declared.fact.Fact.{Fact}
use Rattle.tree_types.specs.declared.want.Want.{Want}
use Rattle.pod_laws.specs.NewPods.{pods, NoneNew, OneNew, KeepsNames, KeepsFront}
use Rattle.tree_incr.specs.declared.new_pods.NewPods.{NewPods}
use Rattle.tree_incr.specs.declared.new_pods.NewPods.TheVariants.{None, OneAtMost, Unknown}
use Rattle.tree_incr.specs.Workflows.{Workflow}

-- so the pods that it asks for stand to those that it asked for before its last fact, which keep the names of their nodes and,
-- but for one at the most, what stands in front of them
pub record LastAdds (Stand : List Want → List Want → Type 0) (w : Workflow) : Type 0 where
  pub before : List Fact
  pub fact : Fact
  pub last : w.facts ≡ before ++ fact ∷ []
  pub names : KeepsNames w.manifest before w.facts
  pub front : KeepsFront (pods w.manifest w.facts) (pods w.manifest before)
  pub pods : Stand (pods w.manifest w.facts) (pods w.manifest before)

abbrev pub TellsNewPods : NewPods → Workflow → Type 0
TellsNewPods None w = LastAdds NoneNew w
TellsNewPods OneAtMost w = LastAdds OneNew w
TellsNewPods Unknown w = Unit {0}

-- by how many pods a fact answers, how many were asked for, and how many are now
abbrev pub FitsCounts : ℕ → ℕ → ℕ → NewPods → Type 0
FitsCounts answered before now None = answered + now ≤ before
FitsCounts answered before now OneAtMost = answered + now ≤ before + 1
FitsCounts answered before now Unknown = Unit {0}
