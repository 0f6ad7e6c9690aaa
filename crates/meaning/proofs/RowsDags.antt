-- Worked examples of DAGs.
use Rattle.std.proofs.Common.{◌≡◌, refl}
use Rattle.std.specs.Fmt.{digits}
use Rattle.std.specs.Prelude.{ℕ, List, [], ◌∷◌, true, codes}
use Rattle.tree_types.specs.declared.path.Sel.TheVariants.{Main, Task as task_sel}
use Rattle.tree_types.specs.declared.fact.Fact.{Fact}
use Rattle.tree_types.specs.declared.fact.Fact.TheVariants.{Started}
use Rattle.depends_expr.specs.Expression.{bare, has, both, failed as has_failed, succeeded as has_succeeded}
use Rattle.wf_manifest.specs.declared.calls.Task.{Task}
use Rattle.wf_manifest.specs.declared.templates.Body.TheVariants as body
use Rattle.wf_manifest.specs.declared.manifest.Manifest.{Manifest}
use Rattle.meaning.specs.Answers.{path}
use Rattle.meaning.specs.Trees.{beginnings}
use Rattle.meaning.proofs.Samples.{workflow, call, call_when, task, task_if, task_after, succeeded, failed, settled, begun, printed}

-- a workflow of a DAG with `failFast`
abbrev dag_of : List ℕ → List Task → Manifest
dag_of name ts = workflow name (body.Dag (record { targets = []; fail_fast = true; tasks = ts }))

-- ---- a task that waits for a failure

abbrev diamond : Manifest
diamond =
    dag_of (codes "d")
    (task (call (codes "A"))
    ∷ task_if (call (codes "B")) (bare (codes "A"))
    ∷ task_if (call (codes "C")) (bare (codes "A"))
    ∷ task_if (call (codes "D")) (both (has (codes "B") has_failed) (bare (codes "C")))
    ∷ [])

abbrev diamond_facts : List Fact
diamond_facts =
    Started ∷ begun 0 ∷ settled (task_sel 0 ∷ []) succeeded ∷ begun 1 ∷ begun 2
    ∷ settled (task_sel 1 ∷ []) failed ∷ settled (task_sel 2 ∷ []) succeeded ∷ begun 3
    ∷ settled (task_sel 3 ∷ []) succeeded ∷ []

pub a_failure_that_was_waited_for : printed diamond diamond_facts
    ≡ codes "workflow d Succeeded"
    ∷ codes "  Succeeded DAG d"
    ∷ codes "    Succeeded Pod d.A"
    ∷ codes "    Failed Pod d.B"
    ∷ codes "    Succeeded Pod d.C"
    ∷ codes "    Succeeded Pod d.D"
    ∷ []
unfolding digits
a_failure_that_was_waited_for = refl

-- ---- `failFast`: a target's failure before or after the tasks of another branch began

abbrev two_branches : Manifest
two_branches =
    dag_of (codes "f")
    (task (call (codes "T1"))
    ∷ task (call (codes "V"))
    ∷ task_after (codes "U") (codes "V" ∷ [])
    ∷ task_after (codes "T2") (codes "U" ∷ [])
    ∷ [])

pub a_failure_first : printed two_branches
    (Started ∷ begun 0 ∷ begun 1 ∷ settled (task_sel 0 ∷ []) failed ∷ settled (task_sel 1 ∷ []) succeeded ∷ [])
    ≡ codes "workflow f Failed"
    ∷ codes "  Failed DAG f"
    ∷ codes "    Failed Pod f.T1"
    ∷ codes "    Succeeded Pod f.V"
    ∷ []
unfolding digits
a_failure_first = refl

pub a_failure_later : printed two_branches
    (Started ∷ begun 0 ∷ begun 1 ∷ settled (task_sel 1 ∷ []) succeeded ∷ begun 2 ∷ settled (task_sel 0 ∷ []) failed
    ∷ settled (task_sel 2 ∷ []) succeeded ∷ begun 3 ∷ settled (task_sel 3 ∷ []) succeeded ∷ [])
    ≡ codes "workflow f Failed"
    ∷ codes "  Failed DAG f"
    ∷ codes "    Failed Pod f.T1"
    ∷ codes "    Succeeded Pod f.V"
    ∷ codes "    Succeeded Pod f.U"
    ∷ codes "    Succeeded Pod f.T2"
    ∷ []
unfolding digits
a_failure_later = refl

-- ---- a skipped task, and one that is omitted

abbrev skipping : Manifest
skipping =
    dag_of (codes "k")
    (task (call_when (codes "A") (codes "1 == 2"))
    ∷ task_if (call (codes "B")) (bare (codes "A"))
    ∷ task_if (call (codes "C")) (has (codes "A") has_succeeded)
    ∷ [])

pub skipped_and_omitted : printed skipping (Started ∷ begun 0 ∷ begun 1 ∷ settled (task_sel 1 ∷ []) succeeded ∷ [])
    ≡ codes "workflow k Succeeded"
    ∷ codes "  Succeeded DAG k"
    ∷ codes "    Skipped Skipped k.A -- when is false"
    ∷ codes "    Succeeded Pod k.B"
    ∷ codes "    Omitted Skipped k.C -- depends is false"
    ∷ []
unfolding digits
skipped_and_omitted = refl

-- ---- a task that is Error as soon as it begins dooms its DAG

abbrev doomed : Manifest
doomed = dag_of (codes "z") (task (call_when (codes "A") (codes "1 =")) ∷ task (call (codes "B")) ∷ [])

pub both_may_begin : beginnings doomed (Started ∷ [])
    ≡ path (Main ∷ task_sel 0 ∷ []) ∷ path (Main ∷ task_sel 1 ∷ []) ∷ []
unfolding digits
both_may_begin = refl

pub none_may_begin : beginnings doomed (Started ∷ begun 0 ∷ []) ≡ []
unfolding digits
none_may_begin = refl

pub an_error_at_once : printed doomed (Started ∷ begun 0 ∷ [])
    ≡ codes "workflow z Error"
    ∷ codes "  Error DAG z"
    ∷ codes "    Error Pod z.A -- bad when"
    ∷ []
unfolding digits
an_error_at_once = refl
