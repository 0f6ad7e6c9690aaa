-- What tasks see of each other, and what becomes of a task by it.
use Rattle.std.specs.Prelude.{ℕ, zero, suc, List, [], ◌∷◌, ◌≡◌, map, Bool, true, false, not, ◌&&◌, ◌||◌, Option, Some, None, bytes_eq, if◌then◌else◌}
use Rattle.std.specs.List.{list_all}
use Rattle.tree_types.specs.declared.phase.Phase.{Phase}
use Rattle.tree_types.specs.declared.phase.Phase.TheVariants.{Omitted}
use Rattle.tree_types.specs.declared.node.Kind.TheVariants as kind
use Rattle.tree_types.specs.declared.node.Note.{Note}
use Rattle.tree_types.specs.declared.node.Note.TheVariants as note
use Rattle.tree_types.specs.Phases.{worst_of}
use Rattle.depends_expr.specs.declared.results.TaskResult.{TaskResult}
use Rattle.depends_expr.specs.Expression.{Expression}
use Rattle.depends_expr.specs.Truth.{truth, names_of}
use Rattle.wf_manifest.specs.declared.calls.ContinueOn.{ContinueOn}
use Rattle.wf_manifest.specs.declared.calls.Task.{Task}
use Rattle.wf_manifest.specs.declared.calls.Dag.{Dag}
use Rattle.meaning.specs.Lines.{alone}
use Rattle.meaning.specs.Steps.{covered, covers_failed, covers_error}
use Rattle.meaning.specs.Dags.{Names, Standing, waiting, ready, exists, is_existing, is_ready, is_over, branch_of, result_of, Look, is_meant, standing}
use Rattle.dag_template.specs.declared.states.TaskState.{TaskState}
use Rattle.dag_template.specs.States.{state_of, phase_of, stated, nowhere, as_stated, as_begun}
use Rattle.dag_template.specs.declared.stands.Stand.{Stand}
use Rattle.dag_template.specs.declared.judging.Verdict.{Verdict}
use Rattle.dag_template.specs.declared.judging.Verdict.TheVariants.{Waits, Holds, Denied}

abbrev pub says_denied : Note → Bool
says_denied note.DependsFalse = true
says_denied _ = false

-- an Omitted task: its `depends` is false
abbrev pub is_denied : Standing → Bool
is_denied (exists m branch seen) = says_denied m.own.node.note
is_denied _ = false

-- what others see of a standing
abbrev pub sight : Standing → Stand
sight s = record {
  existing = is_existing s;
  denied = is_denied s;
  ready = is_ready s;
  over = is_over s;
  branch = branch_of s;
  result = result_of s;
}

-- a task that waits, or is none
abbrev pub waits : Stand
waits = sight waiting

-- how the first task of a name stands
abbrev pub stand_of : List Task → List Stand → List ℕ → Stand
stand_of [] ss n = waits
stand_of (t ∷ ts) [] n = waits
stand_of (t ∷ ts) (s ∷ ss) n = if bytes_eq t.call.name n then s else stand_of ts ss n

-- how the task of a name stands
abbrev pub Sight : Type 0
Sight = List ℕ → Stand

abbrev pub verdict_by : List Stand → Bool → Verdict
verdict_by found holds =
    if list_all (λ s. s.over) found
    then (if holds then Holds else Denied (worst_of (map (λ s. s.branch) found)))
    else Waits

-- by what a `depends` says
abbrev pub verdict_named : Sight → Expression → Verdict
verdict_named of e = verdict_by (map of (names_of e)) (truth (λ n. (of n).result) e)

abbrev pub covers : Option ContinueOn → ContinueOn
covers on = record { failed = covers_failed on; error = covers_error on }

-- the failures of the first task of a name that its own `continueOn` covers
abbrev pub covers_of : List Task → List ℕ → ContinueOn
covers_of [] n = covers None
covers_of (t ∷ ts) n = if bytes_eq t.call.name n then covers t.call.continue_on else covers_of ts n

-- a dependency is met by a task that Succeeded or was Skipped, or by a covered failure
abbrev pub is_met : ContinueOn → TaskResult → Bool
is_met on r = r.succeeded || r.skipped || (on.failed && r.failed) || (on.error && r.errored)

-- the failures of the task at a position that its own `continueOn` covers
abbrev pub covers_at : List Task → ℕ → ContinueOn
covers_at [] p = covers None
covers_at (t ∷ ts) zero = covers t.call.continue_on
covers_at (t ∷ ts) (suc p) = covers_at ts p

abbrev pub are_met : List Task → Names → List Stand → Bool
are_met ts [] ss = true
are_met ts (n ∷ ns) [] = true
are_met ts (n ∷ ns) (s ∷ ss) = is_met (covers_of ts n) s.result && are_met ts ns ss

-- by the positions of the dependencies
abbrev pub are_met_at : List Task → List ℕ → List Stand → Bool
are_met_at ts [] ss = true
are_met_at ts (p ∷ ps) [] = true
are_met_at ts (p ∷ ps) (s ∷ ss) = is_met (covers_at ts p) s.result && are_met_at ts ps ss

-- by `dependencies`
abbrev pub verdict_listed : List Task → Sight → Names → Verdict
verdict_listed ts of ns = verdict_by (map of ns) (are_met ts ns (map of ns))

abbrev pub verdict_waiting : List Task → Sight → Option Expression → Option Names → Verdict
verdict_waiting ts of (Some e) dependencies = verdict_named of e
verdict_waiting ts of None (Some ns) = verdict_listed ts of ns
verdict_waiting ts of None None = Holds

-- what becomes of a task
abbrev pub verdict : List Task → Sight → Task → Verdict
verdict ts of t = verdict_waiting ts of t.depends t.dependencies

-- ---- how a task stands by it

-- a task that nothing holds back, where it need not wait to be begun or where its beginning is recorded
abbrev pub freed : Option ContinueOn → TaskState → Bool → Stand
freed on s false = sight ready
freed on s true = sight (exists (stated nowhere s) (covered on (phase_of s)) [])

-- an Omitted task, with its branch phase
abbrev pub omitted : Phase → Stand
omitted branch = sight (exists (alone nowhere kind.Skipped Omitted note.DependsFalse) branch [])

abbrev pub stand_by : Bool → Option ContinueOn → TaskState → Verdict → Stand
stand_by fail_fast on s Waits = waits
stand_by fail_fast on s Holds = freed on s (not fail_fast || s.begun)
stand_by fail_fast on s (Denied branch) = omitted branch

-- how a task stands that is a target or an ancestor of one, or that is neither
abbrev pub stand_if : Dag → Sight → Task → TaskState → Bool → Stand
stand_if d of t s false = waits
stand_if d of t s true = stand_by d.fail_fast t.call.continue_on s (verdict d.tasks of t)

-- so each task is seen as it stands, given how the others are seen
abbrev pub SeenAsItStands : Type 0
SeenAsItStands =
    (d : Dag) (states : List TaskState) (at : Look) (i : ℕ) (t : Task) →
    sight (standing (as_begun states) (as_stated states) nowhere [] d at i t)
    ≡ stand_if d (λ n. sight (at n)) t (state_of states i) (is_meant d t)
