-- What is told of the tasks from before.
use Rattle.std.proofs.Common.{◌≡◌, ℕ, ◌<◌, List, [], ◌++◌, true, length, get_or, Option, Some, None, codes, sym, ap, ◌∙◌, subst}
use Rattle.std.specs.Prelude.{slice_get, IfSome}
use Rattle.std.specs.List.{list_all}
use Rattle.std.proofs.lemmas.Option.{slice_get_within, get_or_from_slice_get}
use Rattle.tree_types.specs.declared.phase.Phase.TheVariants.{Running}
use Rattle.wf_manifest.specs.declared.calls.Task.{Task}
use Rattle.wf_manifest.specs.declared.calls.Dag.{Dag}
use Rattle.wf_manifest.specs.declared.manifest.Manifest.{Manifest}
use Rattle.scopes.specs.Substitution.{Scope}
use Rattle.meaning.specs.declared.lines.Place.{Place}
use Rattle.meaning.specs.Answers.{Answers}
use Rattle.meaning.specs.Lines.{Made}
use Rattle.meaning.specs.Dags.{task_place, standings, is_doomed}
use Rattle.meaning.specs.Calls.{calls}
use Rattle.growth.proofs.RoundsSettle.{rounds_settle}
use Rattle.dag_plan.specs.declared.plan.DagPlan.{DagPlan}
use Rattle.dag_plan.specs.Plans.{IsPlan}
use Rattle.dag_board.specs.Boards.{made_of, stood}
use Rattle.dag_board.proofs.Lookups.{long}
use Rattle.dag_stays.specs.declared.were.Were.{Were}
use Rattle.dag_stays.specs.Unmoved.{is_marked, AreApart}
use Rattle.dag_stays.specs.ByTask.{by_task}
use Rattle.dag_stays.specs.Knowing.{WereSo, Knows, Stays, Ran}
use Rattle.dag_stays.proofs.Placed.{call_is_here}
use Rattle.dag_stays.proofs.Found.{own_standings, found_by_task, slice_made}
use Rattle.dag_stays.proofs.Stays.{task_stays, tags_stay}
use Rattle.dag_stays.proofs.Begun.{had_begun}

pub some_more : {X : Type 0} (o : Option X) (P Q : X → Type 0) → ((x : X) → P x → Q x) → IfSome o P → IfSome o Q
some_more None P Q h is = is
some_more (Some x) P Q h is = h x is

pub knows : (d : Dag) (plan : DagPlan) → IsPlan d plan → (ms : List Made) (depth j : ℕ) (w : Were) → w.made.items ≡ by_task depth 0 (length d.tasks) ms → AreApart plan.rows j w.marks → w.j ≡ j → Knows d plan ms depth j w
knows d plan is ms depth j w made apart task m B g left place scope declared were deep =
    let called = calls m B g left in
    let ss = standings B called place scope d in
    let many : length d.tasks ≡ length ss = sym (long B called place scope d rounds_settle is.ranked) in
    record {
      made =
          made
          ∙ (λ i. by_task (deep i) 0 (many i) (were i))
          ∙ found_by_task (is_doomed d ss) place 0 ss (own_standings B called (call_is_here m B g left) place scope d);
      apart = apart;
      task = task;
    }

module _ (w : Were) (i : ℕ) (old : Made) (found : slice_get w.made.items i ≡ Some (Some old)) where
  made_then : (m : Manifest) (B : Answers) (g : Scope) (left : ℕ) (place : Place) (scope : Scope) (d : Dag) (plan : DagPlan) (j : ℕ) (t : Task) → IsPlan d plan → WereSo m B g left place scope d plan j w → slice_get d.tasks i ≡ Some t →
      made_of (stood (standings B (calls m B g left) place scope d) i) ≡ Some old
  made_then m B g left place scope d plan j t is so at =
      let called = calls m B g left in
      let ss = standings B called place scope d in
      let low : i < length ss = subst (λ (n : ℕ). i < n) (sym (long B called place scope d rounds_settle is.ranked)) (slice_get_within d.tasks i t at) in
      let both : Some (made_of (stood ss i)) ≡ Some (Some old) = sym (slice_made ss i low) ∙ ap (λ (xs : List (Option Made)). slice_get xs i) (sym so.made) ∙ found in
      cc both

  pub stays_told : is_marked w.marks i ≡ true → Stays w i old
  stays_told on m A B g left place scope d plan j rest t is so same at =
      ap made_of (task_stays d plan is j w.marks so.apart rounds_settle A B m g left place scope rest same i t at on)
      ∙ made_then m B g left place scope d plan j t is so at

  pub ran_told : (plan : DagPlan) (row : List ℕ) → slice_get plan.rows i ≡ Some row → list_all (is_marked w.marks) row ≡ true → i ≡ w.j → old.own.node.phase ≡ Running → Ran plan w i old
  ran_told plan row here all task runs m A B g left place scope d j rest t is so same at =
      let called = calls m B g left in
      let marked : list_all (is_marked w.marks) (get_or plan.rows i []) ≡ true = ap (list_all (is_marked w.marks)) (get_or_from_slice_get plan.rows i row [] here) ∙ all in (
        task ∙ so.task,
        had_begun B called place scope d rounds_settle is.ranked i t at old runs (made_then m B g left place scope d plan j t is so at)
            ∙ ap (λ (seen : Scope). called (codes "tasks.") (task_place place i t) (seen ++ scope) t.call) (sym (tags_stay d plan is j w.marks so.apart rounds_settle A B m g left place scope rest same i t at marked)),
      )
