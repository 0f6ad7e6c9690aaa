-- DAGs in scopes with the same values: their tasks stand the same, as the tags before a task are those of what tasks made.
use Rattle.std.proofs.Common.{◌≡◌, ℕ, zero, suc, List, [], ◌++◌, Bool, true, false, not, ◌||◌, Option, Some, None, refl, ap, ◌∙◌, length}
use Rattle.std.specs.Prelude.{codes}
use Rattle.std.specs.List.{list_all}
use Rattle.tree_types.specs.declared.node.Kind.TheVariants as kind
use Rattle.tree_types.specs.declared.node.Note.TheVariants as note
use Rattle.depends_expr.specs.Expression.{Expression}
use Rattle.depends_expr.specs.Truth.{truth, named}
use Rattle.wf_manifest.specs.declared.templates.OutputDecl.{OutputDecl}
use Rattle.wf_manifest.specs.declared.calls.Task.{Task}
use Rattle.wf_manifest.specs.declared.calls.Dag.{Dag}
use Rattle.scopes.specs.Substitution.{Scope}
use Rattle.scopes.specs.Values.{HasValuesOf}
use Rattle.scopes.proofs.ValueIn.{append_alike, over_alike}
use Rattle.meaning.specs.declared.lines.Place.{Place}
use Rattle.meaning.specs.Answers.{Answers}
use Rattle.meaning.specs.Lines.{Made, no_outputs, made}
use Rattle.meaning.specs.Outputs.{ended_node}
use Rattle.meaning.specs.Steps.{Caller, covered}
use Rattle.meaning.specs.Dags.{awaited, is_meant, exists, is_over, result_of, Look, Standings, look, task_place, tags_before, begun_task, free_by, free, decided_by, waits_by, meant, meant_by, standing, with_standing, standings_by, rounds, standings, is_doomed, dag_phase, tasks_below, dag_tags, dag_by, dag_made}
use Rattle.scope_laws.specs.Agreeing.{Agree, BegunTasksAgree}
use Rattle.scope_laws.proofs.Texts.{computed_agrees}
use Rattle.scope_laws.proofs.Bodies.{numbered_same}

-- what stands makes the same node
pub dag_by_agrees : (place : Place) (scope around : Scope) (declared : List OutputDecl) (d : Dag) (ss : Standings) → HasValuesOf scope around → dag_by place scope declared d ss ≡ dag_by place around declared d ss
dag_by_agrees place scope around declared d ss same =
    let tags : Scope = dag_tags ss in
    λ i. made (ended_node place kind.DAG (dag_phase d ss) note.None no_outputs (computed_agrees (tags ++ scope) (tags ++ around) (append_alike tags scope around same) declared i)) [] (tasks_below (is_doomed d ss) place 0 ss)

-- the task that begins makes the same, also behind tags that are not the same lists
pub begun_tasks_agree : BegunTasksAgree
begun_tasks_agree A called other place scope around d seen before i t agree same like =
    let e = agree (codes "tasks.") (task_place place i t) (seen ++ scope) (before ++ around) t.call (over_alike before around seen scope like same) in
    (e, ap (λ (m : Made). covered t.call.continue_on m.own.node.phase) e, like)

module _ (A : Answers) (called other : Caller) (agree : Agree called other) (place : Place) (scope around : Scope) (same : HasValuesOf scope around) (d : Dag) where
  pub begun_agrees : (seen : Scope) (i : ℕ) (t : Task) → begun_task A called place scope d seen i t ≡ begun_task A other place around d seen i t
  begun_agrees seen i t =
      ap (λ (m : Made). exists m (covered t.call.continue_on m.own.node.phase) seen) (agree (codes "tasks.") (task_place place i t) (seen ++ scope) (seen ++ around) t.call (append_alike seen scope around same))

  free_by_agrees : (seen : Scope) (i : ℕ) (t : Task) (b : Bool) → free_by A called place scope d seen i t b ≡ free_by A other place around d seen i t b
  free_by_agrees seen i t false = refl
  free_by_agrees seen i t true = begun_agrees seen i t

  free_agrees : (seen : Scope) (i : ℕ) (t : Task) → free A called place scope d seen i t ≡ free A other place around d seen i t
  free_agrees seen i t = free_by_agrees seen i t (not d.fail_fast || A.begun (task_place place i t).sels)

  decided_agrees : (at : Look) (i : ℕ) (t : Task) (e : Expression) (b : Bool) → decided_by A called place scope d at i t e b ≡ decided_by A other place around d at i t e b
  decided_agrees at i t e false = refl
  decided_agrees at i t e true = free_agrees (tags_before at (named e)) i t

  waits_agrees : (at : Look) (i : ℕ) (t : Task) (e : Expression) (b : Bool) → waits_by A called place scope d at i t e b ≡ waits_by A other place around d at i t e b
  waits_agrees at i t e false = refl
  waits_agrees at i t e true = decided_agrees at i t e (truth (λ n. result_of (at n)) e)

  meant_agrees : (at : Look) (i : ℕ) (t : Task) (e : Option Expression) → meant A called place scope d at i t e ≡ meant A other place around d at i t e
  meant_agrees at i t None = free_agrees [] i t
  meant_agrees at i t (Some e) = waits_agrees at i t e (list_all (λ n. is_over (at n)) (named e))

  meant_by_agrees : (at : Look) (i : ℕ) (t : Task) (b : Bool) → meant_by A called place scope d at i t b ≡ meant_by A other place around d at i t b
  meant_by_agrees at i t false = refl
  meant_by_agrees at i t true = meant_agrees at i t (awaited d.tasks t)

  pub standing_agrees : (at : Look) (i : ℕ) (t : Task) → standing A called place scope d at i t ≡ standing A other place around d at i t
  standing_agrees at i t = meant_by_agrees at i t (is_meant d t)

  pub standings_by_agree : (at : Look) → standings_by A called place scope d at ≡ standings_by A other place around d at
  standings_by_agree at =
      numbered_same (with_standing A called place scope d at) (with_standing A other place around d at) 0 d.tasks (λ i t j. (t, standing_agrees at i t j))

  pub rounds_agree : (n : ℕ) → rounds A called place scope d n ≡ rounds A other place around d n
  rounds_agree zero = refl
  rounds_agree (suc n) =
      ap (λ (before : Standings). standings_by A called place scope d (look before)) (rounds_agree n) ∙ standings_by_agree (look (rounds A other place around d n))

  pub standings_agree : standings A called place scope d ≡ standings A other place around d
  standings_agree = rounds_agree (length d.tasks)

  pub dag_agrees : (declared : List OutputDecl) → dag_made A called place scope declared d ≡ dag_made A other place around declared d
  dag_agrees declared =
      ap (dag_by place scope declared d) standings_agree ∙ dag_by_agrees place scope around declared d (standings A other place around d) same
