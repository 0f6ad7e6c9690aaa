-- Worked examples of `valueFrom.parameter`, and of the outputs of looped calls.
use Rattle.std.proofs.Common.{◌≡◌, refl}
use Rattle.std.specs.Fmt.{digits}
use Rattle.std.specs.Prelude.{ℕ, List, [], ◌∷◌, true, false, Some, codes}
use Rattle.serde_json.proofs.OnLiterals.{serde_json_on_literals}
use Rattle.tree_types.specs.declared.path.Sel.TheVariants.{Group, Step, Task as task_sel, Item}
use Rattle.tree_types.specs.declared.outcome.Outcome.{Outcome}
use Rattle.tree_types.specs.declared.fact.Fact.{Fact}
use Rattle.tree_types.specs.declared.fact.Fact.TheVariants.{Started}
use Rattle.tag_text.specs.Parts.{parts_of}
use Rattle.depends_expr.specs.Expression.{has, failed as has_failed}
use Rattle.wf_manifest.specs.declared.templates.OutputDecl.{OutputDecl}
use Rattle.wf_manifest.specs.declared.templates.Body.{Body}
use Rattle.wf_manifest.specs.declared.templates.Body.TheVariants as body
use Rattle.wf_manifest.specs.declared.templates.Template.{Template}
use Rattle.wf_manifest.specs.declared.calls.Call.{Call}
use Rattle.wf_manifest.specs.declared.calls.Loop.{Loop}
use Rattle.wf_manifest.specs.declared.manifest.Manifest.{Manifest}
use Rattle.meaning.proofs.Samples.{template, container, workflow_of, call, call_when, call_with, over, task, task_if, declared, declared_from, param, succeeded, failed, settled, printed, params_at}

-- an output of `valueFrom.parameter` with a default
abbrev from_or : List ℕ → List ℕ → List ℕ → OutputDecl
from_or name text default = record (declared_from name text) { default = Some default }

-- a workflow whose main declares these outputs
abbrev declaring : List OutputDecl → Body → List Template → Manifest
declaring ds b ts = workflow_of (codes "w") (record (template (codes "main") b) { outputs = ds } ∷ container ∷ ts)

-- ---- steps

-- the step a, and behind it the step b
abbrev a_then_b : Body
a_then_b = body.Steps ((call (codes "a") ∷ []) ∷ (call_when (codes "b") (codes "1 == 2") ∷ []) ∷ [])

-- a value where the tag has one, else the default; the tags of all its steps may stand there, and several in a text
abbrev of_steps : List OutputDecl
of_steps =
    from_or (codes "r") (codes "{{steps.a.outputs.result}}") (codes "1")
    ∷ from_or (codes "p") (codes "{{steps.a.outputs.parameters.p}}") (codes "2")
    ∷ declared_from (codes "s") (codes "{{steps.a.status}} and {{steps.b.status}}")
    ∷ from_or (codes "t") (codes "{{steps.a.status}} {{steps.b.outputs.result}}") (codes "3") ∷ []

pub outputs_of_steps : params_at (codes "w") (declaring of_steps a_then_b [])
    (Started ∷ settled (Group 0 ∷ Step 0 ∷ []) (record succeeded { result = Some (codes "seven") }) ∷ [])
    ≡ param (codes "r") (codes "seven")
    ∷ param (codes "p") (codes "2")
    ∷ param (codes "s") (codes "Succeeded and Skipped")
    ∷ param (codes "t") (codes "3") ∷ []
unfolding digits
outputs_of_steps = refl

-- steps that would not be Succeeded have none of them
pub no_outputs_of_failed_steps : params_at (codes "w") (declaring of_steps a_then_b [])
    (Started ∷ settled (Group 0 ∷ Step 0 ∷ []) (record failed { result = Some (codes "seven") }) ∷ []) ≡ []
unfolding digits
no_outputs_of_failed_steps = refl

-- ---- a DAG

-- A, and B, which waits for a failure of A
abbrev a_and_b : Body
a_and_b =
    body.Dag (record {
      targets = [];
      fail_fast = false;
      tasks = task (call (codes "A")) ∷ task_if (call (codes "B")) (has (codes "A") has_failed) ∷ [];
    })

abbrev of_a_dag : List OutputDecl
of_a_dag =
    from_or (codes "r") (codes "{{tasks.A.outputs.result}}") (codes "1")
    ∷ from_or (codes "q") (codes "{{tasks.B.outputs.result}}") (codes "2")
    ∷ declared_from (codes "s") (codes "{{tasks.B.status}}") ∷ []

-- an omitted task has a status, and no result
pub outputs_of_a_dag : params_at (codes "w") (declaring of_a_dag a_and_b [])
    (Started ∷ settled (task_sel 0 ∷ []) (record succeeded { result = Some (codes "seven") }) ∷ [])
    ≡ param (codes "r") (codes "seven") ∷ param (codes "q") (codes "2") ∷ param (codes "s") (codes "Omitted") ∷ []
unfolding digits
outputs_of_a_dag = refl

-- of a task that does not exist there is no tag at all: here A alone is meant
abbrev only_a : Body
only_a =
    body.Dag (record {
      targets = codes "A" ∷ [];
      fail_fast = false;
      tasks = task (call (codes "A")) ∷ task (call (codes "B")) ∷ [];
    })

pub a_missing_output_of_a_dag : printed (declaring of_a_dag only_a [])
    (Started ∷ settled (task_sel 0 ∷ []) (record succeeded { result = Some (codes "seven") }) ∷ [])
    ≡ codes "workflow w Error" ∷ codes "  Error DAG w -- missing output s" ∷ codes "    Succeeded Pod w.A" ∷ []
unfolding digits
a_missing_output_of_a_dag = refl

-- it keeps what it has
pub a_dag_keeps_what_it_has : params_at (codes "w") (declaring of_a_dag only_a [])
    (Started ∷ settled (task_sel 0 ∷ []) (record succeeded { result = Some (codes "seven") }) ∷ [])
    ≡ param (codes "r") (codes "seven") ∷ param (codes "q") (codes "2") ∷ []
unfolding digits
a_dag_keeps_what_it_has = refl

-- ---- a looped call

-- t declares p, which has the default 0 where the pod succeeded
abbrev with_p : Template
with_p = record (template (codes "t") body.Pod) { outputs = declared (codes "p") (Some (codes "0")) ∷ [] }

-- the step s of t over 1, 2, 3 and 4, whose failures are covered, and which is skipped for 4
abbrev looped_s : Loop → Call
looped_s l = record (call_with (codes "s") (codes "t") []) {
  each = Some l;
  when = Some (parts_of (codes "{{item}} < 4"));
  continue_on = Some (record { failed = true; error = false });
}

abbrev one_to_four : Loop
one_to_four = over (codes "1" ∷ codes "2" ∷ codes "3" ∷ codes "4" ∷ [])

-- main's outputs are those of s, each as a list
abbrev of_s : List OutputDecl
of_s =
    from_or (codes "rs") (codes "{{steps.s.outputs.result}}") (codes "none")
    ∷ from_or (codes "ps") (codes "{{steps.s.outputs.parameters.p}}") (codes "none")
    ∷ from_or (codes "xs") (codes "{{steps.s.outputs.parameters.x}}") (codes "none") ∷ []

abbrev over_s : Loop → Manifest
over_s l = declaring of_s (body.Steps ((looped_s l ∷ []) ∷ [])) (with_p ∷ [])

abbrev item_ended : ℕ → Outcome → Fact
item_ended i o = settled (Group 0 ∷ Step 0 ∷ Item i ∷ []) o

-- the first succeeded with a result and p; the second failed with a result and without p; the third succeeded with
-- neither, so that p is its default; the fourth is skipped. x is declared by no template, so it is in no list
pub outputs_of_a_loop : params_at (codes "w") (over_s one_to_four)
    (Started
    ∷ item_ended 0 (record succeeded {
      result = Some (codes "a");
      params = param (codes "p") (codes "b") ∷ param (codes "x") (codes "c") ∷ [];
    })
    ∷ item_ended 1 (record failed { result = Some (codes "d") })
    ∷ item_ended 2 succeeded ∷ [])
    ≡ param (codes "rs") (codes "[\"a\",\"d\",null,null]")
    ∷ param (codes "ps") (codes "[\"b\",null,\"0\",null]")
    ∷ param (codes "xs") (codes "none") ∷ []
unfolding digits serde_json_on_literals
outputs_of_a_loop = refl

-- the results are a list even where no item has one
pub a_list_of_nulls : params_at (codes "w") (over_s (over (codes "1" ∷ codes "4" ∷ [])))
    (Started ∷ item_ended 0 failed ∷ [])
    ≡ param (codes "rs") (codes "[null,null]")
    ∷ param (codes "ps") (codes "[null,null]")
    ∷ param (codes "xs") (codes "none") ∷ []
unfolding digits serde_json_on_literals
a_list_of_nulls = refl

-- over no items there are no lists
pub no_lists_without_items : params_at (codes "w") (over_s (over [])) (Started ∷ [])
    ≡ param (codes "rs") (codes "none") ∷ param (codes "ps") (codes "none") ∷ param (codes "xs") (codes "none") ∷ []
unfolding digits serde_json_on_literals
no_lists_without_items = refl

-- a TaskGroup has no outputs before all its items are finished, so what follows waits: here the second item runs
pub an_item_runs : printed (over_s (over (codes "1" ∷ codes "2" ∷ []))) (Started ∷ item_ended 0 succeeded ∷ [])
    ≡ codes "workflow w Running"
    ∷ codes "  Running Steps w"
    ∷ codes "    Running StepGroup w[0]"
    ∷ codes "      Running TaskGroup w[0].s"
    ∷ codes "        Succeeded Pod w[0].s(0:1)"
    ∷ codes "        Running Pod w[0].s(1:2)"
    ∷ []
unfolding digits serde_json_on_literals
an_item_runs = refl

-- ---- a condition over an output that is not there

-- a has no result, so the condition of b is at fault, with the kind of its template
pub an_unresolved_condition : printed
    (declaring []
    (body.Steps
    ((call (codes "a") ∷ []) ∷ (call_when (codes "b") (codes "{{steps.a.outputs.result}} == 1") ∷ []) ∷ [])) [])
    (Started ∷ settled (Group 0 ∷ Step 0 ∷ []) succeeded ∷ [])
    ≡ codes "workflow w Error"
    ∷ codes "  Error Steps w"
    ∷ codes "    Succeeded StepGroup w[0]"
    ∷ codes "      Succeeded Pod w[0].a"
    ∷ codes "    Error StepGroup w[1]"
    ∷ codes "      Error Pod w[1].b -- unresolved steps.a.outputs.result"
    ∷ []
unfolding digits
an_unresolved_condition = refl
