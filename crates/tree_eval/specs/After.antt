-- A workflow's tree once one fact more is recorded.
use Rattle.std.specs.Prelude.{◌≡◌, ◌<◌, ◌≤◌, Option, Some, None, Result, Ok, Err, length}
use Rattle.base_types.specs.Limits.{most_nodes}
use Rattle.base_types.specs.declared.memory.Memory.{Memory as NoMemory}
use Rattle.wf_manifest.specs.declared.manifest.Manifest.{Manifest}
use Rattle.meaning.specs.Answers.{Answers}
use Rattle.meaning.specs.Trees.{lines, nodes_in}
use Rattle.tree_state.specs.declared.refused.TreeRefused.{TreeRefused}
use Rattle.tree_state.specs.declared.refused.TreeRefused.TheVariants.{TooLarge, Memory}
use Rattle.tree_eval.specs.Whole.{Whole, whole}

-- what is made is what the manifest means by these answers, and is not too large, or it is too large; or nothing is said
abbrev pub IsMeant : Manifest → Answers → Result (Option Whole) TreeRefused → Type 0
IsMeant m A (Ok (Some w)) = (w ≡ whole m A) × (length (nodes_in (lines m A)) ≤ most_nodes)
IsMeant m A (Ok None) = Unit {0}
IsMeant m A (Err TooLarge) = most_nodes < length (nodes_in (lines m A))
IsMeant m A (Err Memory) = Unit {0}

-- what is made is what the manifest means by these answers, and is not too large; or nothing is said
abbrev pub RunsOn : Manifest → Answers → Result (Option Whole) NoMemory → Type 0
RunsOn m A (Ok (Some w)) = (w ≡ whole m A) × (length (nodes_in (lines m A)) ≤ most_nodes)
RunsOn m A (Ok None) = Unit {0}
RunsOn m A (Err e) = Unit {0}
