-- Tasks of a DAG that is made again, each in its turn: one that stays is shared, and one that begins makes what its call makes.
use Rattle.std.proofs.Common.{◌≡◌, ℕ, suc, ◌<◌, Bool, true, false, not, ◌||◌, ◌∷◌, ◌++◌, length, get_or, take, Some, Result, Ok, Err, codes, refl, sym, ap, ◌∙◌, subst}
use Rattle.std.specs.Prelude.{slice_get, IsErrAnd}
use Rattle.tree_types.specs.declared.path.Sel.TheVariants.{Task as task_sel}
use Rattle.tree_types.specs.declared.phase.Phase.{Phase}
use Rattle.wf_manifest.specs.declared.calls.Task.{Task}
use Rattle.wf_manifest.specs.declared.calls.Dag.{Dag}
use Rattle.scopes.specs.Substitution.{Scope}
use Rattle.scopes.specs.Values.{HasValuesOf}
use Rattle.meaning.specs.declared.lines.Place.{Place}
use Rattle.meaning.specs.Answers.{Sels, Answers}
use Rattle.meaning.specs.Lines.{Made}
use Rattle.meaning.specs.Steps.{Caller}
use Rattle.meaning.specs.Dags.{Standing, task_place, free, begun_task}
use Rattle.scope_laws.specs.Agreeing.{Agree}
use Rattle.tree_state.specs.declared.refused.TreeRefused.{TreeRefused}
use Rattle.tree_state.specs.Counting.{Takes, Gives}
use Rattle.dag_plan.specs.declared.plan.DagPlan.{DagPlan}
use Rattle.dag_plan.specs.Plans.{IsPlan}
use Rattle.dag_template.specs.declared.judging.Verdict.{Verdict}
use Rattle.dag_template.specs.declared.judging.Verdict.TheVariants.{Waits, Holds, Denied}
use Rattle.dag_board.specs.declared.board.Board.{Board}
use Rattle.dag_board.specs.Boards.{IsBoard, IsTurn, stands_at, seen_by}
use Rattle.dag_board.specs.Turns.{Tells, Begins, Omits, IsReady}
use Rattle.dag_board.proofs.Writing.{waiting_is_shown}
use Rattle.dag_stays.specs.declared.were.Were.{Were}
use Rattle.dag_stays.specs.Knowing.{WereSo, Stays}
use Rattle.tree_walk.specs.Tasks.{stood_count, GivesTask}
use Rattle.tree_walk.proofs.Rooms.{gives_as, by_err}
use Rattle.tree_walk.proofs.Tasks.{got, task_waits, stands_free, task_omitted, task_no_room, task_ready, task_begun, task_fails}
use Rattle.tree_change.specs.declared.again.Again.{Again}
use Rattle.tree_change.specs.Inside.Resuming.{Resumes, calls_now}
use Rattle.tree_change.proofs.Calling.{alike}
use Rattle.tree_change.proofs.Tasks.{begins_now, stays_as, had_begun, inner_as}

module _ {R : Type 0} (answers : R → Answers) (a : Again R) (left : ℕ) (place : Place) (scope : Scope) (d : Dag) (plan : DagPlan) where
  abbrev A : Answers
  A = answers a.walk.recorded.now

  abbrev called : Caller
  called = calls_now answers a left

  agree : Agree called called
  agree = alike a.walk.manifest.now A a.walk.globals.now left

  -- the board shows the tasks of so many turns
  abbrev Shown : ℕ → Board → Type 0
  Shown n b = IsBoard A called place scope d (take n plan.order) b

  abbrev stands : ℕ → Standing
  stands p = stands_at A called place scope d p

  -- ---- the task that the plan has next

  module _ (k i : ℕ) (t : Task) (low : k < length plan.order) (next : slice_get plan.order k ≡ Some i) (task : slice_get d.tasks i ≡ Some t) where
    abbrev GivesNext : ℕ → ℕ → Result (Unit {0}) TreeRefused → Board → Type 0
    GivesNext before after r b = GivesTask before after r (Shown (suc k) b) (stood_count (stands (get_or plan.order k 0)))

    here : get_or plan.order k 0 ≡ i
    here = got plan.order k i next

    pub next_turn : IsTurn d plan k i t
    next_turn = record { low = low; here = here; task = task }

    pub next_given : (b : Board) (before after : ℕ) (r : Result (Unit {0}) TreeRefused) → GivesTask before after r (Shown (suc k) b) (stood_count (stands i)) → GivesNext before after r b
    next_given b before after r given = subst (λ n. GivesTask before after r (Shown (suc k) b) (stood_count (stands n))) (sym here) given

    pub next_waits : (b : Board) (room : ℕ) (v : Verdict) → IsPlan d plan → Shown k b → v ≡ Waits → Tells d plan b i v → GivesNext room room (Ok tt) b
    next_waits b room v is_plan shown is tells =
        next_given b room room (Ok tt) (task_waits A called agree place scope d plan k i t next_turn b room v waiting_is_shown is_plan shown is tells)

    pub next_free : (b : Board) (v : Verdict) → Shown k b → v ≡ Holds → Tells d plan b i v → stands i ≡ free A called place scope d (seen_by A called place scope d t) i t
    next_free b v shown is tells = stands_free A called agree place scope d plan k i t next_turn b shown (subst (λ x. Tells d plan b i x) is tells)

    pub next_omitted : (old new : Board) (before after : ℕ) (v : Verdict) (branch : Phase) → Shown k old → v ≡ Denied branch → Tells d plan old i v → before ≡ suc after → Omits d plan old new i place branch → GivesNext before after (Ok tt) new
    next_omitted old new before after v branch shown is tells taken omits =
        next_given new before after (Ok tt)
        (task_omitted A called agree place scope d plan k i t next_turn old new branch before after shown (subst (λ x. Tells d plan old i x) is tells) taken omits)

    pub next_has_no_room : (b : Board) (before after : ℕ) (v : Verdict) (branch : Phase) (r : Result (Unit {0}) TreeRefused) (e : TreeRefused) → IsErrAnd r (λ z. z ≡ e) → Shown k b → v ≡ Denied branch → Tells d plan b i v → Takes before after (Err e) → GivesNext before after r b
    next_has_no_room b before after v branch r e fails shown is tells none =
        by_err (λ x. GivesNext before after x b) r e fails
        (next_given b before after (Err e)
        (task_no_room A called agree place scope d plan k i t next_turn b b branch before after e shown (subst (λ x. Tells d plan b i x) is tells) none))

  -- ---- a task that nothing holds back

  module _ (k i : ℕ) (t : Task) (turn : IsTurn d plan k i t) where
    abbrev seen : Scope
    seen = seen_by A called place scope d t

    -- what its call makes
    abbrev whole : Made
    whole = called (codes "tasks.") (task_place place i t) (seen ++ scope) t.call

    abbrev GivesThis : ℕ → ℕ → Result (Unit {0}) TreeRefused → Board → Type 0
    GivesThis before after r b = GivesTask before after r (Shown (suc k) b) (stood_count (stands i))

    module _ (free_here : stands i ≡ free A called place scope d seen i t) where
      -- by what is told of its beginning
      module _ (at : Place) (is_at : at ≡ task_place place i t) (begins : Bool) (told : begins ≡ (not d.fail_fast || A.begun at.sels)) where
        pub free_waits : (old new : Board) (room : ℕ) → begins ≡ false → Shown k old → IsReady d plan old new i → GivesThis room room (Ok tt) new
        free_waits old new room off shown sets = task_ready A called agree place scope d plan k i t turn at is_at free_here begins told old new room off shown sets

        module _ (on : begins ≡ true) where
          pub free_begins : stands i ≡ begun_task A called place scope d seen i t
          free_begins = begins_now A called place at scope d i t (stands i) seen begins free_here is_at told on

          at_place : whole ≡ called (codes "tasks.") at (seen ++ scope) t.call
          at_place = ap (λ (p : Place). called (codes "tasks.") p (seen ++ scope) t.call) (sym is_at)

          pub free_begun : (old new : Board) (state : Made) (before after : ℕ) → Shown k old → Gives before after (Ok state) whole → Begins d plan old new i state → GivesThis before after (Ok tt) new
          free_begun old new state before after shown given put =
              task_begun A called agree place scope d plan k i t turn at is_at free_here begins told on (seen ++ scope) (λ tag. refl) old new state before after shown
              (gives_as before after (Ok state) whole (called (codes "tasks.") at (seen ++ scope) t.call) at_place given) put

          pub free_fails : (b : Board) (before after : ℕ) (r : Result (Unit {0}) TreeRefused) (e : TreeRefused) → IsErrAnd r (λ z. z ≡ e) → Gives before after (Err e) whole → GivesThis before after r b
          free_fails b before after r e fails given =
              by_err (λ x. GivesThis before after x b) r e fails
              (task_fails A called agree place scope d plan k i t turn at is_at free_here begins told on (seen ++ scope) (λ tag. refl) b before after e
              (gives_as before after (Err e) whole (called (codes "tasks.") at (seen ++ scope) t.call) at_place given))

    module _ (is_plan : IsPlan d plan) (j : ℕ) (w : Were) (so : WereSo a.walk.manifest.now (answers a.before.now) a.walk.globals.now left place scope d plan j w) (rest : Sels) (resumes : Resumes answers a (place.sels ++ task_sel j ∷ rest)) where
      abbrev B : Answers
      B = answers a.before.now

      -- as it was before
      module _ (free_here : stands i ≡ free A called place scope d seen i t) (old : Made) (stays : Stays w i old) where
        abbrev begins : Bool
        begins = not d.fail_fast || A.begun (task_place place i t).sels

        on : begins ≡ true
        on = had_begun a.walk.manifest.now A B a.walk.globals.now left place scope d plan is_plan j w so rest resumes.same i t turn.task old stays begins free_here

        old_is : old ≡ whole
        old_is =
            stays_as a.walk.manifest.now A B a.walk.globals.now left place scope d plan is_plan j w so rest resumes.same i t turn.task old stays
            (free_begins free_here (task_place place i t) refl begins refl on)

        pub stayed_shared : (b new : Board) (state : Made) (before after : ℕ) → Shown k b → Gives before after (Ok state) old → Begins d plan b new i state → GivesThis before after (Ok tt) new
        stayed_shared b new state before after shown given put =
            free_begun free_here (task_place place i t) refl begins refl on b new state before after shown (gives_as before after (Ok state) old whole old_is given) put

        pub stayed_fails : (b : Board) (before after : ℕ) (r : Result (Unit {0}) TreeRefused) (e : TreeRefused) → IsErrAnd r (λ z. z ≡ e) → Gives before after (Err e) old → GivesThis before after r b
        stayed_fails b before after r e fails given =
            free_fails free_here (task_place place i t) refl begins refl on b before after r e fails (gives_as before after (Err e) old whole old_is given)

      -- in a scope with the values of its own
      module _ (at : Place) (is_at : at ≡ task_place place i t) (inner : Scope) (values : HasValuesOf inner (seen ++ scope)) where
        inner_is : called (codes "tasks.") at inner t.call ≡ whole
        inner_is = inner_as a.walk.manifest.now A B a.walk.globals.now left place scope d plan is_plan j w so rest resumes.same i t turn.task at is_at inner values

        pub inner_gives : (state new : Made) (before after : ℕ) → new ≡ state → Gives before after (Ok state) (called (codes "tasks.") at inner t.call) → Gives before after (Ok new) whole
        inner_gives state new before after is given =
            let done = gives_as before after (Ok state) (called (codes "tasks.") at inner t.call) whole inner_is given in
            (is ∙ done.0, done.1)

        pub inner_fails : (before after : ℕ) (r : Result Made TreeRefused) (e : TreeRefused) → IsErrAnd r (λ z. z ≡ e) → Gives before after (Err e) (called (codes "tasks.") at inner t.call) → Gives before after r whole
        inner_fails before after r e fails given =
            by_err (λ x. Gives before after x whole) r e fails (gives_as before after (Err e) (called (codes "tasks.") at inner t.call) whole inner_is given)
