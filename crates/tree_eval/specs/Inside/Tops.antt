-- What the entrypoint makes, and the exit handler.
use Rattle.std.specs.Prelude.{◌≡◌, ℕ, ◌+◌, ◌<◌, ◌≤◌, List, ◌++◌, Bool, true, false, Option, Some, None, option_map, Result, Ok, Err}
use Rattle.base_types.specs.Limits.{most_nodes}
use Rattle.tree_types.specs.declared.phase.Phase.{Phase}
use Rattle.wf_manifest.specs.declared.manifest.Manifest.{Manifest}
use Rattle.meaning.specs.declared.lines.Line.{Line}
use Rattle.meaning.specs.Answers.{Answers}
use Rattle.meaning.specs.Lines.{Made, lines_in}
use Rattle.meaning.specs.Trees.{main_made, exit_of, exit_lines}
use Rattle.hooks_exit.specs.Exits.{phase_of as by_phases}
use Rattle.tree_state.specs.declared.refused.TreeRefused.{TreeRefused}
use Rattle.tree_state.specs.declared.refused.TreeRefused.TheVariants.{TooLarge, Memory}
use Rattle.tree_state.specs.Counting.{count}
use Rattle.tree_eval.specs.declared.tops.Tops.{Tops}

-- a name, once something is over
abbrev pub once : Bool → Option (List ℕ) → Option (List ℕ)
once true name = name
once false name = None

-- ---- the exit handler

abbrev pub count_exit : Option Made → ℕ
count_exit None = 0
count_exit (Some h) = count h

abbrev pub exit_phase : Option Made → Option Phase
exit_phase exit = option_map (λ h. h.own.node.phase) exit

-- what it makes, if it runs, for which the room is taken; or there is too little room for it
abbrev pub GivesExit : ℕ → ℕ → Result (Option Made) TreeRefused → Option Made → Type 0
GivesExit before after (Ok exit) o = (exit ≡ o) × (after + count_exit o ≡ before)
GivesExit before after (Err TooLarge) o = before < count_exit o
GivesExit before after (Err Memory) o = Unit {0}

-- ---- both

abbrev pub meant_tops : Manifest → Answers → Tops
meant_tops m A = record { main = main_made m A; exit = exit_of m A (main_made m A) }

abbrev pub count_tops : Tops → ℕ
count_tops tops = count tops.main + count_exit tops.exit

abbrev pub lines_of : Tops → List Line
lines_of tops = lines_in tops.main ++ exit_lines tops.exit

abbrev pub phase_of : Tops → Phase
phase_of tops = by_phases tops.main.own.node.phase (exit_phase tops.exit)

-- what both make, or there are too many nodes
abbrev pub GivesTops : Result Tops TreeRefused → Manifest → Answers → Type 0
GivesTops (Ok tops) m A = (tops ≡ meant_tops m A) × (count_tops (meant_tops m A) ≤ most_nodes)
GivesTops (Err TooLarge) m A = most_nodes < count_tops (meant_tops m A)
GivesTops (Err Memory) m A = Unit {0}
