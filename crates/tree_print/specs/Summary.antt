-- How the counts of a run are written. All of it is this project's own.
use Rattle.std.specs.Prelude.{ℕ, List, [], ◌∷◌, ◌++◌, codes, decimal}
use Rattle.tree_types.specs.declared.phase.Phase.TheVariants.{Pending, Running, Succeeded, Failed, Error}
use Rattle.tree_types.specs.Phases.{phase_text}
use Rattle.tree_print.specs.declared.counts.Counts.{Counts}

-- a word, its number and a line feed
abbrev pub count_line : List ℕ → ℕ → List ℕ
count_line word n = word ++ codes " " ++ decimal n ++ 10 ∷ []

-- the workflows, the workflows by phase, the stored nodes and the pods
abbrev pub summary_text : Counts → List ℕ
summary_text c =
    count_line (codes "workflows") c.workflows
    ++ count_line (phase_text Pending) c.pending
    ++ count_line (phase_text Running) c.running
    ++ count_line (phase_text Succeeded) c.succeeded
    ++ count_line (phase_text Failed) c.failed
    ++ count_line (phase_text Error) c.error
    ++ count_line (codes "nodes") c.nodes
    ++ count_line (codes "pods") c.pods
