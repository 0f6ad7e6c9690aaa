-- The verdict by a board tells how the task stands whose turn is next.
use Rattle.std.proofs.Common.{◌≡◌, ℕ, List, get_or, take, Bool, true, false, Option, Some, None, refl, sym, ap, ◌∙◌, subst}
use Rattle.std.specs.Prelude.{slice_get, IfSome}
use Rattle.std.specs.List.{Contains}
use Rattle.std.proofs.lemmas.Option.{get_or_from_slice_get}
use Rattle.wf_manifest.specs.declared.calls.Task.{Task}
use Rattle.wf_manifest.specs.declared.calls.Dag.{Dag}
use Rattle.wf_manifest.specs.Valid.{waits_for}
use Rattle.scopes.specs.Substitution.{Scope}
use Rattle.meaning.specs.declared.lines.Place.{Place}
use Rattle.meaning.specs.Answers.{Answers}
use Rattle.meaning.specs.Steps.{Caller}
use Rattle.meaning.specs.Dags.{is_meant, look, Standings, standings}
use Rattle.growth.specs.Rounds.{RoundsSettle}
use Rattle.dag_plan.specs.declared.plan.DagPlan.{DagPlan}
use Rattle.dag_plan.specs.Order.{first, Follows}
use Rattle.dag_plan.specs.Plans.{IsPlan}
use Rattle.dag_template.specs.declared.judging.Verdict.{Verdict}
use Rattle.dag_template.specs.declared.judging.Verdict.TheVariants.{Waits}
use Rattle.dag_template.specs.Stands.{sight, stand_of, verdict}
use Rattle.dag_template.specs.Verdicts.{stands_if}
use Rattle.dag_template.proofs.Awaiting.{Each, each_map}
use Rattle.dag_template.proofs.Places.{looked_at}
use Rattle.dag_template.proofs.Seeing.{by_verdict}
use Rattle.dag_template.proofs.Ordered.{verdicts_same, meant_at}
use Rattle.dag_board.specs.declared.board.Board.{Board}
use Rattle.dag_board.specs.Boards.{IsBoard, seen_by}
use Rattle.dag_board.specs.Turns.{Tells}
use Rattle.dag_board.proofs.Lookups.{no_stand, look_none, look_stood, stood_is}

-- the plan's mark of a task
pub meant_is :
    (d : Dag) (plan : DagPlan) → IsPlan d plan → (i : ℕ) (t : Task) (meant : Bool) → slice_get d.tasks i ≡ Some t →
    slice_get plan.meant i ≡ Some meant → meant ≡ is_meant d t
meant_is d plan p i t meant at is =
    sym (get_or_from_slice_get plan.meant i meant false is) ∙ ap (λ (bs : List Bool). get_or bs i false) p.meant
    ∙ meant_at (is_meant d) d.tasks i t at

module _ (d : Dag) (plan : DagPlan) (p : IsPlan d plan) (b : Board) (settle : RoundsSettle) where
  module _ (A : Answers) (called : Caller) (place : Place) (scope : Scope) (done : List ℕ) (shown : IsBoard A called place scope d done b) where
    abbrev ss : Standings
    ss = standings A called place scope d

    -- the task of a name that is done is seen as it stands
    pub seen_named : (n : List ℕ) (o : Option ℕ) → first d.tasks n ≡ o → IfSome o (Contains done) → stand_of d.tasks b.stands.items n ≡ sight (look ss n)
    seen_named n None e c =
        no_stand d.tasks b.stands.items n e ∙ sym (ap sight (look_none A called place scope d settle p.ranked n e))
    seen_named n (Some q) e c =
        looked_at d.tasks b.stands.items n q (sym shown.fits.stands) e ∙ (shown.shown q c).stand
        ∙ sym (ap sight (look_stood A called place scope d settle p.ranked n q e))

    pub all_seen : (t : Task) → Follows d.tasks done t → Each (λ n. stand_of d.tasks b.stands.items n ≡ sight (look ss n)) (waits_for t)
    all_seen t f =
        each_map (λ n. IfSome (first d.tasks n) (Contains done)) (λ n. stand_of d.tasks b.stands.items n ≡ sight (look ss n))
        (waits_for t) (λ n c. seen_named n (first d.tasks n) refl c) f

  module _ (i : ℕ) (u : Task) (at : slice_get d.tasks i ≡ Some u) where
    same_task : (t : Task) → slice_get d.tasks i ≡ Some t → t ≡ u
    same_task t e = let both : Some t ≡ Some u = sym e ∙ at in cc both

    told : (meant : Bool) → is_meant d u ≡ meant → (v : Verdict) → (meant ≡ true → v ≡ verdict d.tasks (stand_of d.tasks b.stands.items) u) → (meant ≡ false → v ≡ Waits) → Tells d plan b i v
    told meant is v judged skipped A called place scope k t shown turn =
        let ss : Standings = standings A called place scope d in
        let task : t ≡ u = same_task t turn.task in
        let follows : Follows d.tasks (take k plan.order) t =
        p.order.behind k t turn.low (subst (λ (x : ℕ). slice_get d.tasks x ≡ Some t) (sym turn.here) turn.task) in
        let same : verdict d.tasks (stand_of d.tasks b.stands.items) t ≡ verdict d.tasks (λ n. sight (look ss n)) t =
        verdicts_same d.tasks (stand_of d.tasks b.stands.items) (λ n. sight (look ss n)) t (all_seen A called place scope (take k plan.order) shown t follows) in
        stood_is A called place scope d settle p.ranked i t turn.task
        ∙ by_verdict A called place scope d (look ss) i t
        ∙ ap (λ (m : Bool). stands_if A called place scope d (seen_by A called place scope d t) i t m (verdict d.tasks (λ n. sight (look ss n)) t))
        (ap (is_meant d) task ∙ is)
        ∙ by meant judged skipped A called place scope k t task same
      where
        by :
            (meant : Bool) → (meant ≡ true → v ≡ verdict d.tasks (stand_of d.tasks b.stands.items) u) → (meant ≡ false → v ≡ Waits) →
            (A : Answers) (called : Caller) (place : Place) (scope : Scope) (k : ℕ) (t : Task) → t ≡ u →
            verdict d.tasks (stand_of d.tasks b.stands.items) t ≡ verdict d.tasks (λ n. sight (look (standings A called place scope d) n)) t →
            stands_if A called place scope d (seen_by A called place scope d t) i t meant (verdict d.tasks (λ n. sight (look (standings A called place scope d) n)) t)
            ≡ stands_if A called place scope d (seen_by A called place scope d t) i t true v
        by true judged skipped A called place scope k t task same =
            ap (stands_if A called place scope d (seen_by A called place scope d t) i t true)
            (sym same ∙ ap (verdict d.tasks (stand_of d.tasks b.stands.items)) task ∙ sym (judged refl))
        by false judged skipped A called place scope k t task same =
            ap (stands_if A called place scope d (seen_by A called place scope d t) i t true) (sym (skipped refl))

    pub told_meant : is_meant d u ≡ true → (v : Verdict) → v ≡ verdict d.tasks (stand_of d.tasks b.stands.items) u → Tells d plan b i v
    told_meant is v e = told true is v (λ x. e) (λ x. absurd cc)

    pub told_skipped : is_meant d u ≡ false → (v : Verdict) → v ≡ Waits → Tells d plan b i v
    told_skipped is v e = told false is v (λ x. absurd cc) (λ x. e)
