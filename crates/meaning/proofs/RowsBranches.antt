-- Worked examples of DAGs without `failFast`: targets, results of looped tasks, dependencies and branch phases.
use Rattle.std.proofs.Common.{◌≡◌, refl}
use Rattle.std.specs.Fmt.{digits}
use Rattle.std.specs.Prelude.{ℕ, List, [], ◌∷◌, true, false, Some, codes}
use Rattle.serde_json.proofs.OnLiterals.{serde_json_on_literals}
use Rattle.tree_types.specs.declared.path.Sel.TheVariants.{Task as task_sel, Item}
use Rattle.tree_types.specs.declared.outcome.Outcome.{Outcome}
use Rattle.tree_types.specs.declared.fact.Fact.{Fact}
use Rattle.tree_types.specs.declared.fact.Fact.TheVariants.{Started}
use Rattle.depends_expr.specs.Expression as depends
use Rattle.depends_expr.specs.Expression.{Expression, bare, has, both}
use Rattle.wf_manifest.specs.declared.calls.Call.{Call}
use Rattle.wf_manifest.specs.declared.calls.Task.{Task}
use Rattle.wf_manifest.specs.declared.templates.Body.TheVariants as body
use Rattle.wf_manifest.specs.declared.manifest.Manifest.{Manifest}
use Rattle.meaning.proofs.Samples.{workflow, call, call_echo, echo, call_each, over, param, task, task_if, task_after, dag_workflow, succeeded, failed, errored, settled, printed, params_at}

abbrev ended : ℕ → Outcome → Fact
ended i o = settled (task_sel i ∷ []) o

-- ---- `target`

-- B waits for a failure of A, and C for nothing
abbrev with_targets : List (List ℕ) → Manifest
with_targets names =
    workflow (codes "t")
    (body.Dag (record {
      targets = names;
      fail_fast = false;
      tasks = task (call (codes "A"))
          ∷ task_if (call (codes "B")) (has (codes "A") depends.failed)
          ∷ task (call (codes "C")) ∷ [];
    }))

-- C is neither a target nor an ancestor of one, so it does not exist; the failure of A is not of a target
pub one_target : printed (with_targets (codes "B" ∷ [])) (Started ∷ ended 0 failed ∷ ended 1 succeeded ∷ [])
    ≡ codes "workflow t Succeeded"
    ∷ codes "  Succeeded DAG t"
    ∷ codes "    Failed Pod t.A"
    ∷ codes "    Succeeded Pod t.B"
    ∷ []
unfolding digits
one_target = refl

-- where A is a target too, its failure is the DAG's
pub two_targets : printed (with_targets (codes "A" ∷ codes "B" ∷ []))
    (Started ∷ ended 0 failed ∷ ended 1 succeeded ∷ [])
    ≡ codes "workflow t Failed"
    ∷ codes "  Failed DAG t"
    ∷ codes "    Failed Pod t.A"
    ∷ codes "    Succeeded Pod t.B"
    ∷ []
unfolding digits
two_targets = refl

-- without `target` the targets are the tasks that no task depends on: B and C
pub no_target : printed (with_targets []) (Started ∷ ended 0 failed ∷ ended 1 succeeded ∷ ended 2 failed ∷ [])
    ≡ codes "workflow t Failed"
    ∷ codes "  Failed DAG t"
    ∷ codes "    Failed Pod t.A"
    ∷ codes "    Succeeded Pod t.B"
    ∷ codes "    Failed Pod t.C"
    ∷ []
unfolding digits
no_target = refl

-- ---- `AnySucceeded` and `AllFailed`

-- A, then B where some item of A is Succeeded, and C where all are Failed
abbrev behind_items : Call → Manifest
behind_items a =
    dag_workflow (codes "l")
    (task a
    ∷ task_if (call (codes "B")) (has (codes "A") depends.any_succeeded)
    ∷ task_if (call (codes "C")) (has (codes "A") depends.all_failed) ∷ []) []

abbrev looped_a : Call
looped_a = call_each (codes "A") (over (codes "x" ∷ codes "y" ∷ []))

abbrev item_ended : ℕ → Outcome → Fact
item_ended i o = settled (task_sel 0 ∷ Item i ∷ []) o

-- one item of two: B exists, and C is omitted behind the failure of A
pub one_item_succeeded : printed (behind_items looped_a)
    (Started ∷ item_ended 0 succeeded ∷ item_ended 1 failed ∷ ended 1 succeeded ∷ [])
    ≡ codes "workflow l Failed"
    ∷ codes "  Failed DAG l"
    ∷ codes "    Failed TaskGroup l.A"
    ∷ codes "      Succeeded Pod l.A(0:x)"
    ∷ codes "      Failed Pod l.A(1:y)"
    ∷ codes "    Succeeded Pod l.B"
    ∷ codes "    Omitted Skipped l.C -- depends is false"
    ∷ []
unfolding digits serde_json_on_literals
one_item_succeeded = refl

-- both items failed: C exists, and B is omitted
pub each_item_failed : printed (behind_items looped_a)
    (Started ∷ item_ended 0 failed ∷ item_ended 1 failed ∷ ended 2 succeeded ∷ [])
    ≡ codes "workflow l Failed"
    ∷ codes "  Failed DAG l"
    ∷ codes "    Failed TaskGroup l.A"
    ∷ codes "      Failed Pod l.A(0:x)"
    ∷ codes "      Failed Pod l.A(1:y)"
    ∷ codes "    Omitted Skipped l.B -- depends is false"
    ∷ codes "    Succeeded Pod l.C"
    ∷ []
unfolding digits serde_json_on_literals
each_item_failed = refl

-- an item that is Error is neither Succeeded nor Failed
pub an_item_is_error : printed (behind_items looped_a) (Started ∷ item_ended 0 failed ∷ item_ended 1 errored ∷ [])
    ≡ codes "workflow l Error"
    ∷ codes "  Error DAG l"
    ∷ codes "    Error TaskGroup l.A"
    ∷ codes "      Failed Pod l.A(0:x)"
    ∷ codes "      Error Pod l.A(1:y)"
    ∷ codes "    Omitted Skipped l.B -- depends is false"
    ∷ codes "    Omitted Skipped l.C -- depends is false"
    ∷ []
unfolding digits serde_json_on_literals
an_item_is_error = refl

-- of a task without a loop both are false, of one that succeeded
pub no_loop_succeeded : printed (behind_items (call (codes "A"))) (Started ∷ ended 0 succeeded ∷ [])
    ≡ codes "workflow l Succeeded"
    ∷ codes "  Succeeded DAG l"
    ∷ codes "    Succeeded Pod l.A"
    ∷ codes "    Omitted Skipped l.B -- depends is false"
    ∷ codes "    Omitted Skipped l.C -- depends is false"
    ∷ []
unfolding digits serde_json_on_literals
no_loop_succeeded = refl

-- and of one that failed
pub no_loop_failed : printed (behind_items (call (codes "A"))) (Started ∷ ended 0 failed ∷ [])
    ≡ codes "workflow l Failed"
    ∷ codes "  Failed DAG l"
    ∷ codes "    Failed Pod l.A"
    ∷ codes "    Omitted Skipped l.B -- depends is false"
    ∷ codes "    Omitted Skipped l.C -- depends is false"
    ∷ []
unfolding digits serde_json_on_literals
no_loop_failed = refl

-- of a loop over no items both are false too
pub no_items_at_all : printed (behind_items (call_each (codes "A") (over []))) (Started ∷ [])
    ≡ codes "workflow l Succeeded"
    ∷ codes "  Succeeded DAG l"
    ∷ codes "    Skipped Skipped l.A -- Skipped, empty params"
    ∷ codes "    Omitted Skipped l.B -- depends is false"
    ∷ codes "    Omitted Skipped l.C -- depends is false"
    ∷ []
unfolding digits serde_json_on_literals
no_items_at_all = refl

-- ---- `dependencies` with `continueOn`

abbrev covering : List ℕ → Task
covering name = task (record (call name) { continue_on = Some (record { failed = true; error = false }) })

abbrev covering_errors : List ℕ → Task
covering_errors name = task (record (call name) { continue_on = Some (record { failed = false; error = true }) })

-- C waits for A, whose failures are covered, and for B, whose errors are
abbrev behind_covered : Manifest
behind_covered =
    dag_workflow (codes "o")
    (covering (codes "A") ∷ covering_errors (codes "B") ∷ task_after (codes "C") (codes "A" ∷ codes "B" ∷ []) ∷ []) []

-- A failed and B is Error, and C begins all the same; the DAG is Succeeded
pub both_are_covered : printed behind_covered (Started ∷ ended 0 failed ∷ ended 1 errored ∷ ended 2 succeeded ∷ [])
    ≡ codes "workflow o Succeeded"
    ∷ codes "  Succeeded DAG o"
    ∷ codes "    Failed Pod o.A"
    ∷ codes "    Error Pod o.B"
    ∷ codes "    Succeeded Pod o.C"
    ∷ []
unfolding digits
both_are_covered = refl

-- an Error of A is not covered by `failed`: C is omitted, and its branch is Error
pub an_error_is_not_covered : printed behind_covered (Started ∷ ended 0 errored ∷ ended 1 succeeded ∷ [])
    ≡ codes "workflow o Error"
    ∷ codes "  Error DAG o"
    ∷ codes "    Error Pod o.A"
    ∷ codes "    Succeeded Pod o.B"
    ∷ codes "    Omitted Skipped o.C -- depends is false"
    ∷ []
unfolding digits
an_error_is_not_covered = refl

-- nor is a failure of B by `error`; the covered failure of A does not count in the branch of C
pub a_failure_is_not_covered : printed behind_covered (Started ∷ ended 0 failed ∷ ended 1 failed ∷ [])
    ≡ codes "workflow o Failed"
    ∷ codes "  Failed DAG o"
    ∷ codes "    Failed Pod o.A"
    ∷ codes "    Failed Pod o.B"
    ∷ codes "    Omitted Skipped o.C -- depends is false"
    ∷ []
unfolding digits
a_failure_is_not_covered = refl

-- where only covered ones failed, a task that is itself a target leaves the DAG Succeeded
pub a_covered_target : printed (dag_workflow (codes "o") (covering (codes "A") ∷ []) []) (Started ∷ ended 0 failed ∷ [])
    ≡ codes "workflow o Succeeded" ∷ codes "  Succeeded DAG o" ∷ codes "    Failed Pod o.A" ∷ []
unfolding digits
a_covered_target = refl

-- ---- the tags that a task sees

-- B waits for A, and C for B alone: C gives echo what both said
abbrev telling : Manifest
telling =
    dag_workflow (codes "g")
    (task (call (codes "A")) ∷ task_after (codes "B") (codes "A" ∷ [])
    ∷ record (task (call_echo (codes "C") (codes "{{tasks.A.outputs.result}} {{tasks.B.status}}"))) {
      dependencies = Some (codes "B" ∷ []);
    } ∷ [])
    (echo ∷ [])

-- those of the tasks that it depends on, directly or not
pub tags_of_ancestors : params_at (codes "g.C") telling
    (Started ∷ ended 0 (record succeeded { result = Some (codes "r") }) ∷ ended 1 succeeded ∷ [])
    ≡ param (codes "x") (codes "r Succeeded") ∷ []
unfolding digits
tags_of_ancestors = refl

-- ---- a task that is omitted behind a failure

-- B waits for A, C for B, and D for B being omitted
abbrev chain : List Task → Manifest
chain more =
    dag_workflow (codes "c")
    (task (call (codes "A")) ∷ task_after (codes "B") (codes "A" ∷ [])
    ∷ task_after (codes "C") (codes "B" ∷ []) ∷ more) []

-- C is the only target: the branch of an omitted task is the worst of those before it, here through two of them
pub a_failure_comes_through : printed (chain []) (Started ∷ ended 0 failed ∷ [])
    ≡ codes "workflow c Failed"
    ∷ codes "  Failed DAG c"
    ∷ codes "    Failed Pod c.A"
    ∷ codes "    Omitted Skipped c.B -- depends is false"
    ∷ codes "    Omitted Skipped c.C -- depends is false"
    ∷ []
unfolding digits
a_failure_comes_through = refl

-- D waits for both that are omitted, and is the only target: its own success ends the branch
pub it_was_waited_for : printed
    (chain
    (task_if (call (codes "D")) (both (has (codes "B") depends.omitted) (has (codes "C") depends.omitted)) ∷ []))
    (Started ∷ ended 0 failed ∷ ended 3 succeeded ∷ [])
    ≡ codes "workflow c Succeeded"
    ∷ codes "  Succeeded DAG c"
    ∷ codes "    Failed Pod c.A"
    ∷ codes "    Omitted Skipped c.B -- depends is false"
    ∷ codes "    Omitted Skipped c.C -- depends is false"
    ∷ codes "    Succeeded Pod c.D"
    ∷ []
unfolding digits
it_was_waited_for = refl

-- behind a success and an error, the branch of an omitted task is Error
pub the_worst_before_it : printed
    (dag_workflow (codes "c")
    (task (call (codes "A")) ∷ task (call (codes "B"))
    ∷ task_if (call (codes "C")) (both (bare (codes "A")) (has (codes "B") depends.failed)) ∷ []) [])
    (Started ∷ ended 0 succeeded ∷ ended 1 errored ∷ [])
    ≡ codes "workflow c Error"
    ∷ codes "  Error DAG c"
    ∷ codes "    Succeeded Pod c.A"
    ∷ codes "    Error Pod c.B"
    ∷ codes "    Omitted Skipped c.C -- depends is false"
    ∷ []
unfolding digits
the_worst_before_it = refl

-- `depends` is asked once all that it names are finished, not before
pub it_waits_for_all : printed
    (dag_workflow (codes "c")
    (task (call (codes "A")) ∷ task (call (codes "B")) ∷ task_after (codes "C") (codes "A" ∷ codes "B" ∷ []) ∷ []) [])
    (Started ∷ ended 0 failed ∷ [])
    ≡ codes "workflow c Running"
    ∷ codes "  Running DAG c"
    ∷ codes "    Failed Pod c.A"
    ∷ codes "    Running Pod c.B"
    ∷ []
unfolding digits
it_waits_for_all = refl
