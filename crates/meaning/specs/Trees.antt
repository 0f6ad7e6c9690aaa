-- The tree of a manifest and recorded facts, what it asks for, and which tasks may begin.
use Rattle.std.specs.Prelude.{◌≡◌, ℕ, zero, suc, List, [], ◌∷◌, ◌++◌, map, Bool, true, false, Option, Some, None, Ok, Err, if◌then◌else◌, codes, filter_map}
pub use Rattle.base_types.specs.Limits.{most_depth, most_nodes}
use Rattle.tree_types.specs.declared.path.Sel.TheVariants.{Main, Exit}
use Rattle.tree_types.specs.declared.path.Path.{Path}
use Rattle.tree_types.specs.declared.path.LockId.{LockId}
use Rattle.tree_types.specs.declared.phase.Phase.{Phase}
use Rattle.tree_types.specs.declared.phase.Phase.TheVariants.{Pending, Running, Error}
use Rattle.tree_types.specs.declared.node.Note.{Note}
use Rattle.tree_types.specs.declared.node.Note.TheVariants as note
use Rattle.tree_types.specs.declared.node.Node.{Node}
use Rattle.tree_types.specs.declared.outcome.Param.{Param}
use Rattle.tree_types.specs.declared.fact.Fact.TheVariants.{Begun}
use Rattle.tree_types.specs.declared.want.Want.{Want}
use Rattle.tree_types.specs.declared.want.Want.TheVariants as want
use Rattle.tree_types.specs.Phases.{is_succeeded}
use Rattle.node_names.specs.declared.seg.Seg.TheVariants as seg
use Rattle.node_names.specs.Names.{suffix}
use Rattle.wf_manifest.specs.declared.calls.Argument.{Argument}
use Rattle.wf_manifest.specs.declared.manifest.Manifest.{Manifest}
use Rattle.scopes.specs.Substitution.{Found, Scope, said, workflow_tags}
use Rattle.meaning.specs.declared.lines.Place.{Place}
use Rattle.meaning.specs.declared.lines.Line.{Line}
use Rattle.meaning.specs.declared.lines.Line.TheVariants.{Stands, Asks, MayBegin}
use Rattle.meaning.specs.Answers.{path, Facts, Answers, answers}
use Rattle.meaning.specs.Lines.{Made, lines_in, no_outputs, node, alone, status_tag}
use Rattle.meaning.specs.Calls.{kind_named, call_of_template, calls}

-- ---- the tags of a workflow (Argo, "Workflow variables", Global)

-- in `spec.arguments` of a valid manifest only `workflow.name` stands as a tag, which has a value
abbrev pub found_or_empty : Found (List ℕ) → List ℕ
found_or_empty (Ok v) = v
found_or_empty (Err fault) = []

abbrev pub workflow_param : Manifest → Argument → Param
workflow_param m a = record { name = a.name; value = found_or_empty (said (workflow_tags m.name []) a.value) }

abbrev pub globals_of : Manifest → Scope
globals_of m = workflow_tags m.name (map (workflow_param m) m.arguments)

-- ---- the entrypoint and the exit handler (Argo, "Exit handlers")

abbrev pub root : Manifest → Place
root m = record { sels = Main ∷ []; name = m.name; depth = 1 }

abbrev pub exit_root : Manifest → Place
exit_root m = record { sels = Exit ∷ []; name = m.name ++ suffix seg.Exit; depth = 1 }

-- a call of a template with the workflow's arguments, with so many depths left, its own among them
abbrev pub top_call_within : ℕ → Manifest → Answers → Scope → Place → List ℕ → Made
top_call_within zero m A globals place template = alone place (kind_named m template) Error note.TooDeep
top_call_within (suc left) m A globals place template =
    call_of_template m A globals (calls m A globals left) place globals template m.arguments (λ b. b)

-- so the entrypoint and the exit handler are called, both at depth 1 (the limit is own)
abbrev pub top_call : Manifest → Answers → Scope → Place → List ℕ → Made
top_call m A globals place template = top_call_within most_depth m A globals place template

abbrev pub main_made : Manifest → Answers → Made
main_made m A = top_call m A (globals_of m) (root m) m.entrypoint

-- below the exit handler `workflow.status` says the entrypoint's phase
abbrev pub status_tags : Manifest → Made → Scope
status_tags m b = status_tag (codes "workflow") b.own.node.phase ++ globals_of m

abbrev pub exit_made : Manifest → Answers → Made → List ℕ → Made
exit_made m A b template = top_call m A (status_tags m b) (exit_root m) template

abbrev pub exit_if : Bool → Manifest → Answers → Made → Option (List ℕ) → Option Made
exit_if true m A b (Some template) = Some (exit_made m A b template)
exit_if over m A b _ = None

-- the exit handler runs once the entrypoint's node is finished, whatever its phase
abbrev pub exit_of : Manifest → Answers → Made → Option Made
exit_of m A b = exit_if b.own.finished m A b m.on_exit

-- ---- the lines of a workflow

abbrev pub exit_lines : Option Made → List Line
exit_lines None = []
exit_lines (Some h) = lines_in h

abbrev pub running_lines : Manifest → Answers → Made → List Line
running_lines m A b = lines_in b ++ exit_lines (exit_of m A b)

-- the root alone: before it is started, and before the workflow's own lock is granted
abbrev pub pending_root : Manifest → Note → Node
pending_root m n = node (root m) (kind_named m m.entrypoint) Pending n no_outputs

-- Synchronization (Argo, "Workflow-level synchronization"): the workflow's lock is asked for before its root runs
abbrev pub lines_locked : Manifest → Answers → LockId → Bool → List Line
lines_locked m A l false = Stands (pending_root m (note.Waiting l)) ∷ Asks (want.Lock (path []) l) ∷ []
lines_locked m A l true = running_lines m A (main_made m A)

abbrev pub lines_started : Manifest → Answers → Option LockId → List Line
lines_started m A None = running_lines m A (main_made m A)
lines_started m A (Some l) = lines_locked m A l (A.granted [])

abbrev pub lines_by : Manifest → Answers → Bool → List Line
lines_by m A false = Stands (pending_root m note.None) ∷ []
lines_by m A true = lines_started m A m.lock

abbrev pub lines : Manifest → Answers → List Line
lines m A = lines_by m A A.started

-- ---- three readings of the lines

abbrev pub node_in : Line → Option Node
node_in (Stands n) = Some n
node_in _ = None

abbrev pub want_in : Line → Option Want
want_in (Asks w) = Some w
want_in _ = None

abbrev pub beginning_in : Line → Option Path
beginning_in (MayBegin p) = Some p
beginning_in _ = None

abbrev pub nodes_in : List Line → List Node
nodes_in ls = filter_map node_in ls

abbrev pub wants_in : List Line → List Want
wants_in ls = filter_map want_in ls

abbrev pub beginnings_in : List Line → List Path
beginnings_in ls = filter_map beginning_in ls

-- the nodes of the tree that a journal gives, in tree order
abbrev pub tree : Manifest → Facts → List Node
tree m J = nodes_in (lines m (answers J))

-- which path asks for what, in tree order
abbrev pub wants : Manifest → Facts → List Want
wants m J = wants_in (lines m (answers J))

-- the tasks that may begin, in tree order
abbrev pub beginnings : Manifest → Facts → List Path
beginnings m J = beginnings_in (lines m (answers J))

-- ---- beginnings (own)

abbrev pub begin_at : Facts → Path → Facts
begin_at J p = J ++ Begun p ∷ []

-- a journal and what `close` makes of it: the first task that may begin begins, until there is none
pub data Closes (m : Manifest) : Facts → Facts → Type 0 where
  closed : {J : Facts} → beginnings m J ≡ [] → Closes m J J
  begins : {J K : Facts} {p : Path} {ps : List Path} →
      beginnings m J ≡ p ∷ ps → Closes m (begin_at J p) K → Closes m J K

-- ---- the workflow's phase (own)

-- the entrypoint's phase, but the exit handler's where the entrypoint Succeeded and the exit handler did not
abbrev pub workflow_phase : Phase → Option Phase → Phase
workflow_phase main None = main
workflow_phase main (Some exit) = if is_succeeded main then exit else main

abbrev pub ended_phase : Made → Option Made → Phase
ended_phase b None = workflow_phase b.own.node.phase None
ended_phase b (Some h) =
    if h.own.finished then workflow_phase b.own.node.phase (Some h.own.node.phase) else Running

-- Running until all is finished
abbrev pub running_phase : Manifest → Answers → Made → Phase
running_phase m A b = if b.own.finished then ended_phase b (exit_of m A b) else Running

abbrev pub granted_phase : Manifest → Answers → Bool → Phase
granted_phase m A false = Pending
granted_phase m A true = running_phase m A (main_made m A)

-- the workflow's own lock, if it has one, is granted
abbrev pub lock_granted : Answers → Option LockId → Bool
lock_granted A None = true
lock_granted A (Some l) = A.granted []

abbrev pub started_phase : Manifest → Answers → Bool → Phase
started_phase m A false = Pending
started_phase m A true = granted_phase m A (lock_granted A m.lock)

-- Pending until it is started and its own lock is granted
abbrev pub phase : Manifest → Answers → Phase
phase m A = started_phase m A A.started
