-- What the entrypoint and the exit handler make, or the root alone, and the workflow's phase.
use Rattle.std.specs.Prelude.{◌≡◌, List, [], ◌∷◌, ◌++◌, Bool, true, false, Option, Some, None, Result}
use Rattle.tree_types.specs.declared.path.LockId.{LockId}
use Rattle.tree_types.specs.declared.phase.Phase.{Phase}
use Rattle.tree_types.specs.declared.node.Note.{Note}
use Rattle.tree_types.specs.declared.node.Note.TheVariants as note
use Rattle.tree_types.specs.declared.want.Want.{Want}
use Rattle.tree_types.specs.declared.want.Want.TheVariants as want
use Rattle.wf_manifest.specs.declared.manifest.Manifest.{Manifest}
use Rattle.meaning.specs.declared.lines.Line.{Line}
use Rattle.meaning.specs.Answers.{path, Answers}
use Rattle.meaning.specs.Lines.{Made, nothing, made, lines_in}
use Rattle.meaning.specs.Trees.{pending_root, main_made, exit_of, exit_lines, lines, phase, nodes_in}
use Rattle.tree_state.specs.declared.refused.TreeRefused.{TreeRefused}
use Rattle.tree_eval.specs.Within.{within}

-- what the entrypoint makes, and the exit handler where it runs
abbrev pub Pair : Type 0
Pair = Made × Option Made

-- the root alone, with this note, and what it asks for
abbrev pub root_alone : Manifest → Note → List Want → Pair
root_alone m n ws = (made (pending_root m n) ws nothing, None)

abbrev pub running_pair : Manifest → Answers → Pair
running_pair m A = (main_made m A, exit_of m A (main_made m A))

abbrev pub locked_pair : Manifest → Answers → LockId → Bool → Pair
locked_pair m A l false = root_alone m (note.Waiting l) (want.Lock (path []) l ∷ [])
locked_pair m A l true = running_pair m A

abbrev pub started_pair : Manifest → Answers → Option LockId → Pair
started_pair m A None = running_pair m A
started_pair m A (Some l) = locked_pair m A l (A.granted [])

abbrev pub pair_by : Manifest → Answers → Bool → Pair
pair_by m A false = root_alone m note.None []
pair_by m A true = started_pair m A m.lock

-- before it is started, and before its own lock is granted, a workflow is its root alone
abbrev pub pair : Manifest → Answers → Pair
pair m A = pair_by m A A.started

pub record Whole : Type 0 where
  pub main : Made
  pub exit : Option Made
  pub phase : Phase

abbrev pub whole : Manifest → Answers → Whole
whole m A = record { main = (pair m A).0; exit = (pair m A).1; phase = phase m A }

abbrev pub lines_of : Whole → List Line
lines_of w = lines_in w.main ++ exit_lines w.exit

-- that of a tree of at most 10,000 nodes
abbrev pub meant_whole : Manifest → Answers → Result Whole TreeRefused
meant_whole m A = within (nodes_in (lines m A)) (whole m A)

-- its lines are those of the workflow
abbrev pub LinesAreMeant : Type 0
LinesAreMeant = (m : Manifest) (A : Answers) → lines_of (whole m A) ≡ lines m A
