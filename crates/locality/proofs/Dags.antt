-- DAGs, where the same is answered.
use Rattle.std.proofs.Common.{◌≡◌, ℕ, zero, suc, [], ◌++◌, Bool, true, false, not, ◌||◌, Option, Some, None, length, refl, ap, ◌∙◌}
use Rattle.std.specs.Prelude.{codes}
use Rattle.std.specs.List.{list_all}
use Rattle.tree_types.specs.declared.path.Sel.TheVariants.{Task as task_sel}
use Rattle.depends_expr.specs.Expression.{Expression}
use Rattle.depends_expr.specs.Truth.{truth, named}
use Rattle.wf_manifest.specs.declared.calls.Task.{Task}
use Rattle.wf_manifest.specs.declared.calls.Dag.{Dag}
use Rattle.scopes.specs.Substitution.{Scope}
use Rattle.meaning.specs.declared.lines.Place.{Place}
use Rattle.meaning.specs.Answers.{Answers}
use Rattle.meaning.specs.Lines.{Made}
use Rattle.meaning.specs.Steps.{Caller, covered}
use Rattle.meaning.specs.Dags.{awaited, is_meant, exists, is_over, result_of, Look, Standings, look, task_place, tags_before, free_by, free, decided_by, waits_by, meant, meant_by, standing, with_standing, standings_by, rounds, standings, dag_by}
use Rattle.locality.specs.Answered.{SameBelow}
use Rattle.locality.specs.Local.{SameCallers, SameChildren, BegunTasksAreLocal, DagsAreLocal}
use Rattle.locality.proofs.Paths.{begins_itself}
use Rattle.locality.proofs.Rows.{numbered_within}

pub begun_tasks_are_local : BegunTasksAreLocal
begun_tasks_are_local A B called other place scope d seen i t each same =
    ap (λ (m : Made). exists m (covered t.call.continue_on m.own.node.phase) seen) (each (codes "tasks.") (task_place place i t) (seen ++ scope) t.call same)

module _ (A B : Answers) (called other : Caller) (each : SameCallers A B called other) (place : Place) (scope : Scope) (d : Dag) where
  module _ (i : ℕ) (t : Task) (same : SameBelow A B (task_place place i t).sels) where
    free_by_same : (seen : Scope) (b : Bool) → free_by A called place scope d seen i t b ≡ free_by B other place scope d seen i t b
    free_by_same seen false = refl
    free_by_same seen true = begun_tasks_are_local A B called other place scope d seen i t each same

    pub free_same : (seen : Scope) → free A called place scope d seen i t ≡ free B other place scope d seen i t
    free_same seen =
        ap (λ (b : Bool). free_by A called place scope d seen i t (not d.fail_fast || b)) (same.begun (task_place place i t).sels (begins_itself (task_place place i t).sels))
        ∙ free_by_same seen (not d.fail_fast || B.begun (task_place place i t).sels)

    decided_same : (at : Look) (e : Expression) (b : Bool) → decided_by A called place scope d at i t e b ≡ decided_by B other place scope d at i t e b
    decided_same at e false = refl
    decided_same at e true = free_same (tags_before at (named e))

    waits_same : (at : Look) (e : Expression) (b : Bool) → waits_by A called place scope d at i t e b ≡ waits_by B other place scope d at i t e b
    waits_same at e false = refl
    waits_same at e true = decided_same at e (truth (λ n. result_of (at n)) e)

    meant_same : (at : Look) (e : Option Expression) → meant A called place scope d at i t e ≡ meant B other place scope d at i t e
    meant_same at None = free_same []
    meant_same at (Some e) = waits_same at e (list_all (λ n. is_over (at n)) (named e))

    meant_by_same : (at : Look) (b : Bool) → meant_by A called place scope d at i t b ≡ meant_by B other place scope d at i t b
    meant_by_same at false = refl
    meant_by_same at true = meant_same at (awaited d.tasks t)

    pub standing_same : (at : Look) → standing A called place scope d at i t ≡ standing B other place scope d at i t
    standing_same at = meant_by_same at (is_meant d t)

  module _ (same : SameChildren A B place task_sel 0 (length d.tasks)) where
    pub standings_by_same : (at : Look) → standings_by A called place scope d at ≡ standings_by B other place scope d at
    standings_by_same at =
        numbered_within (with_standing A called place scope d at) (with_standing B other place scope d at) 0 d.tasks (λ i t l u j. (t, standing_same i t (same i l u) at j))

    rounds_same : (n : ℕ) → rounds A called place scope d n ≡ rounds B other place scope d n
    rounds_same zero = refl
    rounds_same (suc n) =
        ap (λ (before : Standings). standings_by A called place scope d (look before)) (rounds_same n) ∙ standings_by_same (look (rounds B other place scope d n))

    pub standings_same : standings A called place scope d ≡ standings B other place scope d
    standings_same = rounds_same (length d.tasks)

pub dags_are_local : DagsAreLocal
dags_are_local A B called other place scope ds d each same = ap (dag_by place scope ds d) (standings_same A B called other each place scope d same)
