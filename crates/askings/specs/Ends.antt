-- How a pod's node Succeeds.
use Rattle.std.specs.Prelude.{◌≡◌, Bool, true, false, Some}
use Rattle.tree_types.specs.declared.phase.Phase.TheVariants.{Succeeded}
use Rattle.tree_types.specs.declared.node.Kind.TheVariants as kind
use Rattle.tree_types.specs.declared.node.Note.{Note}
use Rattle.tree_types.specs.declared.node.Note.TheVariants as note
use Rattle.tree_types.specs.declared.node.Node.{Node}
use Rattle.tree_types.specs.declared.outcome.Outcome.{Outcome}
use Rattle.tree_types.specs.Phases.{is_succeeded}
use Rattle.wf_manifest.specs.declared.manifest.Manifest.{Manifest}
use Rattle.meaning.specs.Answers.{Answers}
use Rattle.meaning.specs.Trees.{lines, nodes_in}
use Rattle.growth.specs.Growth.{Among}
use Rattle.growth.specs.Ticks.{place_of}

-- the node was answered by a cache
abbrev pub is_hit : Note → Bool
is_hit (note.Hit cache key) = true
is_hit _ = false

-- the place of this node has an outcome, and it Succeeded
abbrev pub HasSucceeded : Answers → Node → Type 0
HasSucceeded A n = (o : Note × Outcome) × (A.outcome (place_of n) ≡ Some o) × (is_succeeded o.1.phase ≡ true)

-- where this is a pod's node that Succeeded, and no cache answered it, its outcome Succeeded
abbrev pub SucceededByOutcome : Answers → Node → Type 0
SucceededByOutcome A n =
    n.kind ≡ kind.Pod → n.phase ≡ Succeeded → is_hit n.note ≡ false → HasSucceeded A n

-- so it is with each node of a tree
abbrev pub PodsSucceed : Type 0
PodsSucceed = (m : Manifest) (A : Answers) (n : Node) → Among n (nodes_in (lines m A)) → SucceededByOutcome A n
