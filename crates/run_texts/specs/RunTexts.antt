-- What is written of a run at its end: the trees of its workflows or what it counts, and its history. All of it is this
-- project's own.
use Rattle.std.specs.Prelude.{ℕ, List, [], ◌++◌, length, map, flat_map, sum_by, count_by, Bool, true, false, if◌then◌else◌, Option, Some, None, codes}
use Rattle.tree_types.specs.declared.phase.Phase.{Phase}
use Rattle.tree_types.specs.declared.phase.Phase.TheVariants.{Pending, Running}
use Rattle.tree_types.specs.declared.entry.Entry.{Entry}
use Rattle.tree_types.specs.declared.entry.Entry.TheVariants.{Create}
use Rattle.tree_types.specs.Phases.{is_succeeded, is_failed, is_error}
use Rattle.tree_types.specs.Texts.{tree_text}
use Rattle.tree_print.specs.declared.counts.Counts.{Counts}
use Rattle.tree_print.specs.Summary.{summary_text}
use Rattle.history_text.specs.Lines.{history_text}
use Rattle.meaning.specs.Answers.{answers}
use Rattle.meaning.specs.Trees.{phase}
use Rattle.law.specs.Documents.{Text}
use Rattle.law.specs.Contents.{Flow, Story, flow_of}
use Rattle.law.specs.Justified.{tree_of}
use Rattle.run_laws.specs.Submissions.{submitted}

-- ---- the trees of the workflows

abbrev pub phase_of : Flow → Phase
phase_of f = phase f.manifest (answers f.journal)

abbrev pub flow_text : Text → Flow → List ℕ
flow_text w f = tree_text w (phase_of f) (tree_of f)

-- nothing where there is none
abbrev pub text_in : Text → Option Flow → List ℕ
text_in w None = []
text_in w (Some f) = flow_text w f

-- the text of a workflow and its tree, where it stands
abbrev pub workflow_text : Story → Text → List ℕ
workflow_text h w = text_in w (flow_of h w)

-- of the submitted workflows, in the order in which they were submitted
abbrev pub trees_text : Story → List ℕ
trees_text h = flat_map (workflow_text h) (submitted h)

-- ---- what is counted

abbrev pub is_pending : Phase → Bool
is_pending Pending = true
is_pending _ = false

abbrev pub is_running : Phase → Bool
is_running Running = true
is_running _ = false

-- whether it stands, and in a phase of this kind
abbrev pub stands_in : (Phase → Bool) → Option Flow → Bool
stands_in kind None = false
stands_in kind (Some f) = kind (phase_of f)

-- how many of the submitted workflows stand in a phase of this kind
abbrev pub standing : (Phase → Bool) → Story → ℕ
standing kind h = count_by (λ w. stands_in kind (flow_of h w)) (submitted h)

-- how many nodes it has
abbrev pub nodes_in : Option Flow → ℕ
nodes_in None = 0
nodes_in (Some f) = length (tree_of f)

-- the creation of a pod
abbrev pub is_create : Entry → Bool
is_create (Create w node p begin) = true
is_create _ = false

-- the submitted workflows, and of them those in each phase; the nodes of their trees; and the pods that were created
abbrev pub counts_of : Story → Counts
counts_of h = record {
  workflows = length (submitted h);
  pending = standing is_pending h;
  running = standing is_running h;
  succeeded = standing is_succeeded h;
  failed = standing is_failed h;
  error = standing is_error h;
  nodes = sum_by (λ w. nodes_in (flow_of h w)) (submitted h);
  pods = count_by (λ e. is_create e.entry) h.events;
}

abbrev pub summary_of : Story → List ℕ
summary_of h = summary_text (counts_of h)

-- ---- the text of a run

-- a line for each entry
abbrev pub entries_text : Story → List ℕ
entries_text h = history_text (map (λ e. e.entry) h.events)

-- the trees or what is counted, and then the history where it is wanted
abbrev pub run_text : Bool → Bool → Story → List ℕ
run_text summary history h =
    (if summary then summary_of h else trees_text h) ++ (if history then entries_text h else [])

-- ---- trees that are too large

abbrev pub too_large_line : Text → List ℕ
too_large_line name = codes "argo: too large: " ++ name ++ codes "\n"

-- a line for each of these workflows
abbrev pub too_large_text : List Text → List ℕ
too_large_text names = flat_map too_large_line names
