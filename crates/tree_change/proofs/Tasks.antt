-- The tasks of a DAG that is made again.
use Rattle.std.proofs.Common.{◌≡◌, ℕ, [], ◌∷◌, ◌++◌, Bool, true, false, not, ◌||◌, Option, Some, None, codes, refl, sym, ap, ◌∙◌, subst}
use Rattle.std.specs.Prelude.{slice_get, is_some}
use Rattle.tree_types.specs.declared.path.Sel.TheVariants.{Task as task_sel}
use Rattle.wf_manifest.specs.declared.calls.Task.{Task}
use Rattle.wf_manifest.specs.declared.calls.Dag.{Dag}
use Rattle.wf_manifest.specs.declared.templates.Body.TheVariants as body
use Rattle.wf_manifest.specs.declared.templates.Template.{Template}
use Rattle.wf_manifest.specs.declared.manifest.Manifest.{Manifest}
use Rattle.scopes.specs.Substitution.{Scope}
use Rattle.scopes.specs.Values.{HasValuesOf}
use Rattle.meaning.specs.declared.lines.Place.{Place}
use Rattle.meaning.specs.Answers.{Sels, Answers}
use Rattle.meaning.specs.Lines.{Made}
use Rattle.meaning.specs.Steps.{Caller}
use Rattle.meaning.specs.Dags.{Standing, task_place, free_by, free, begun_task}
use Rattle.meaning.specs.Calls.{calls}
use Rattle.locality.specs.Answered.{SameBut}
use Rattle.dag_plan.specs.declared.plan.DagPlan.{DagPlan}
use Rattle.dag_plan.specs.Plans.{IsPlan}
use Rattle.dag_board.specs.Boards.{made_of, stands_at, seen_by}
use Rattle.dag_stays.specs.declared.were.Were.{Were}
use Rattle.dag_stays.specs.Knowing.{WereSo, Stays, Ran}
use Rattle.tree_walk.specs.Walkable.{IsWalkableDag, IsWalkableBody, IsWalkable}
use Rattle.tree_change.proofs.Beside.{same_below}
use Rattle.tree_change.proofs.Calling.{alike}

pub is_none : {X : Type 0} (o : Option X) → is_some o ≡ false → o ≡ None
is_none None e = refl
is_none (Some x) e = absurd (cc)

pub walkable_dag : (t : Template) (d : Dag) → IsWalkable t → t.body ≡ body.Dag d → IsWalkableDag d
walkable_dag t d w form = subst IsWalkableBody form w.parts

-- a task that nothing holds back, and that begins
pub begins_now : (A : Answers) (called : Caller) (place at : Place) (scope : Scope) (d : Dag) (i : ℕ) (t : Task) (stands : Standing) (seen : Scope) (begins : Bool) → stands ≡ free A called place scope d seen i t → at ≡ task_place place i t →
    begins ≡ (not d.fail_fast || A.begun at.sels) → begins ≡ true → stands ≡ begun_task A called place scope d seen i t
begins_now A called place at scope d i t stands seen begins is here told on =
    is ∙ ap (λ x. free_by A called place scope d seen i t x) (ap (λ (p : Place). not d.fail_fast || A.begun p.sels) (sym here) ∙ sym told ∙ on)

module _ (m : Manifest) (A B : Answers) (g : Scope) (left : ℕ) (place : Place) (scope : Scope) (d : Dag) (plan : DagPlan) (is_plan : IsPlan d plan) (j : ℕ) (w : Were) (so : WereSo m B g left place scope d plan j w) (rest : Sels) (same : SameBut A B (place.sels ++ task_sel j ∷ rest)) (i : ℕ) (t : Task) (is_task : slice_get d.tasks i ≡ Some t) where
  abbrev called : Caller
  called = calls m A g left

  abbrev seen : Scope
  seen = seen_by A called place scope d t

  abbrev whole : Made
  whole = called (codes "tasks.") (task_place place i t) (seen ++ scope) t.call

  -- what stays is what the task makes
  pub stays_as : (old : Made) → Stays w i old → stands_at A called place scope d i ≡ begun_task A called place scope d seen i t → old ≡ whole
  stays_as old stays begun =
      let both : Some whole ≡ Some old = sym (ap made_of begun) ∙ stays m A B g left place scope d plan j rest t is_plan so same is_task in
      sym (cc both)

  -- what stays had begun
  pub had_begun : (old : Made) → Stays w i old → (begins : Bool) → stands_at A called place scope d i ≡ free_by A called place scope d seen i t begins → begins ≡ true
  had_begun old stays true is = refl
  had_begun old stays false is =
      let none : None ≡ Some old = sym (ap made_of is) ∙ stays m A B g left place scope d plan j rest t is_plan so same is_task in
      absurd (cc none)

  module _ (at : Place) (here : at ≡ task_place place i t) (inner : Scope) (values : HasValuesOf inner (seen ++ scope)) where
    -- in a scope with the values of its own
    pub inner_as : called (codes "tasks.") at inner t.call ≡ whole
    inner_as = ap (λ (p : Place). called (codes "tasks.") p inner t.call) here ∙ alike m A g left (codes "tasks.") (task_place place i t) inner (seen ++ scope) t.call values

    module _ (old : Made) (ran : Ran plan w i old) where
      pub same_inside : SameBut A B (at.sels ++ rest)
      same_inside =
          let own = ran m A B g left place scope d j rest t is_plan so same is_task in
          same_below A B place.sels at.sels (task_sel j) (task_sel j ∷ rest) rest same refl
          (ap (λ (p : Place). p.sels) here ∙ ap (λ (n : ℕ). place.sels ++ task_sel n ∷ []) own.0)

      pub was_inside : old ≡ calls m B g left (codes "tasks.") at inner t.call
      was_inside =
          let own = ran m A B g left place scope d j rest t is_plan so same is_task in
          own.1
          ∙ sym (alike m B g left (codes "tasks.") (task_place place i t) inner (seen ++ scope) t.call values)
          ∙ ap (λ (p : Place). calls m B g left (codes "tasks.") p inner t.call) (sym here)
