-- Which locks a tree asks for once one fact more is recorded, beside those that it asked for before.
use Rattle.std.specs.Prelude.{◌≤◌, ◌+◌, ℕ, List, [], ◌∷◌, ◌++◌, length}
use Rattle.tree_types.specs.declared.fact.Fact.{Fact}
use Rattle.tree_types.specs.declared.fact.Fact.TheVariants.{Granted}
use Rattle.tree_types.specs.declared.want.Want.{Want}
use Rattle.wf_manifest.specs.declared.manifest.Manifest.{Manifest}
use Rattle.meaning.specs.Answers.{Facts}
use Rattle.meaning.specs.Trees.{wants}
use Rattle.tree_state.specs.Finding.{locks_in}
use Rattle.pod_laws.specs.NewPods.{NoneNew, IsAnswer}

-- the locks that the tree of some facts asks for
abbrev pub locks : Manifest → Facts → List Want
locks m J = locks_in (wants m J)

-- how many of them a fact answers, at the most
abbrev pub granted : Fact → ℕ
granted (Granted p) = 1
granted _ = 0

-- ---- the law

-- where no more locks are asked for than are left of those before, they are these
abbrev pub NoneNewLocksByCount : Type 0
NoneNewLocksByCount =
    (m : Manifest) (J : Facts) (f : Fact) → IsAnswer m J f →
    granted f + length (locks m (J ++ f ∷ [])) ≤ length (locks m J) → NoneNew (locks m (J ++ f ∷ [])) (locks m J)
