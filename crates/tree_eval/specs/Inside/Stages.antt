-- A workflow before it runs, and while it runs.
use Rattle.std.specs.Prelude.{◌≡◌, ◌<◌, ◌≤◌, [], Bool, true, false, Option, None, Result, Ok, Err, length}
use Rattle.base_types.specs.Limits.{most_nodes}
use Rattle.tree_types.specs.declared.path.LockId.{LockId}
use Rattle.wf_manifest.specs.declared.manifest.Manifest.{Manifest}
use Rattle.meaning.specs.Answers.{Answers}
use Rattle.meaning.specs.Trees.{lock_granted, lines, nodes_in}
use Rattle.tree_state.specs.declared.refused.TreeRefused.{TreeRefused}
use Rattle.tree_state.specs.declared.refused.TreeRefused.TheVariants.{TooLarge, Memory}
use Rattle.tree_eval.specs.Whole.{Whole, whole}

-- what the workflow is, or there are too many nodes
abbrev pub GivesWhole : Result Whole TreeRefused → Manifest → Answers → Type 0
GivesWhole (Ok w) m A = (w ≡ whole m A) × (length (nodes_in (lines m A)) ≤ most_nodes)
GivesWhole (Err TooLarge) m A = most_nodes < length (nodes_in (lines m A))
GivesWhole (Err Memory) m A = Unit {0}

-- a lock that is not granted
abbrev pub unless : Bool → Option LockId → Option LockId
unless true l = None
unless false l = l

abbrev pub awaited : Answers → Option LockId → Option LockId
awaited A l = unless (A.granted []) l

-- the workflow is started, and its own lock, if it has one, is granted
pub record Runs (m : Manifest) (A : Answers) : Type 0 where
  pub started : A.started ≡ true
  pub granted : lock_granted A m.lock ≡ true
