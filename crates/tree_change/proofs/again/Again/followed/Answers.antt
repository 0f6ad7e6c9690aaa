-- By the law of a task that ends before those that wait for it.
use Rattle.std.proofs.Common.{◌≡◌, ℕ, ◌<◌, ◌==◌, [], ◌∷◌, ◌++◌, append_assoc, true, false, not, ◌&&◌, ◌||◌, get_or, length, codes, refl, sym, subst, ◌∙◌}
use Rattle.std.specs.Prelude.{slice_get, Some}
use Rattle.std.specs.List.{list_any}
use Rattle.std.proofs.lemmas.Option.{slice_get_within}
use Rattle.std.proofs.lemmas.List.Elements.{recursion_from_All}
use Rattle.tree_types.specs.declared.path.Sel.TheVariants.{Task as task_sel}
use Rattle.scopes.specs.Substitution.{Scope}
use Rattle.meaning.specs.Lines.{Made}
use Rattle.meaning.specs.Dags.{is_doomed, is_bad, task_place, standings, dag_made}
use Rattle.meaning.specs.Steps.{covered}
use Rattle.meaning.specs.Calls.{calls}
use Rattle.growth.proofs.RoundsSettle.{rounds_settle}
use Rattle.dag_plan.proofs.Waiting.{behind_within}
use Rattle.tree_state.specs.Replacing.{with_call}
use Rattle.dag_stays.specs.Over.{StandsOver}
use Rattle.dag_stays.specs.Behind.{ended, AreBehind}
use Rattle.dag_stays.proofs.Lasts.{who_waits}
use Rattle.dag_stays.proofs.Followed.{ended_tasks, ended_good}
use Rattle.dag_stays.proofs.RunsBehind.{one_of, ended_over, are_behind, dag_follows}
use Rattle.tree_change.specs.Changes.{IfGiven}
use Rattle.tree_change.specs.Inside.Behind.{HasAllBehind}
use Rattle.tree_change.proofs.Given.{given_by, given_some}
use Rattle.tree_change.proofs.Waiting.{ended_tagged, not_is}
use Rattle.tree_change.proofs.again.Again.followed.Goals as goal

pub returns : goal.returns
returns g c declared was =
    let m = c.args.self.now.walk.manifest.now in
    let A = g.R.Recorded.answers c.args.self.now.walk.recorded.now in
    let B = g.R.Recorded.answers c.args.self.now.before.now in
    let scopes = c.args.self.now.walk.globals.now in
    let left = c.args.left in
    let place = c.args.place.now in
    let scope = c.args.scope.now in
    let d = c.args.dag.now in
    let plan = c.args.plan.now in
    let j = c.args.j in
    let rest = c.args.rest.now in
    let changed = place.sels ++ task_sel j ∷ rest in
    let same = c.requires.resumes.same in
    let ranked = c.requires.walkable.ranked in
    let differ = c.requires.walkable.differ in
    let t = c.in-Some.task.now in
    let task : slice_get d.tasks j ≡ Some t = sym c.in-Some.ensures in
    let at = c.in-Some-call_of_task.at in
    let old = c.args.old.now in
    let one = c.in-Some-call_of_task.made.now in
    let z = c.in-Some-2.new in
    let there = c.in-Some-call_of_task.ensures.call in
    let sought = c.in-Some-call_of_task.ensures.task in
    let off : one.own.finished ≡ false = sym c.is_finished.ensures ∙ c.if-is_finished.false in
    let spared : (d.fail_fast && is_bad (covered t.call.continue_on z.own.node.phase)) ≡ false =
    not_is (d.fail_fast && is_bad (covered t.call.continue_on z.own.node.phase)) (sym c.spares.ensures ∙ c.if-not-spares.false) in
    let begins : (not d.fail_fast || A.begun one.own.node.path.sels) ≡ true = sym c.has_begun.ensures ∙ c.if-not-has_begun.false in
    let new : (s : Scope) → one ≡ calls m B scopes left (codes "tasks.") (task_place place j t) (s ++ scope) t.call → calls m A scopes left (codes "tasks.") (task_place place j t) (s ++ scope) t.call ≡ z =
    λ s made. sym
    (given_some c.in_ok-new.field-0 z (λ (y : Made). y ≡ calls m A scopes left (codes "tasks.") (task_place place j t) (s ++ scope) t.call) c.in-Some-2.is
    (c.in_ok-new.ensures B changed scopes left (codes "tasks.") (task_place place j t) (s ++ scope) same (sym (append_assoc place.sels (task_sel j ∷ []) rest)) made)) in
    let before = standings B (calls m B scopes left) place scope d in
    let us = ended before j t z in
    let ks = get_or plan.behind j [] in
    let low : j < length d.tasks = slice_get_within d.tasks j t task in
    let middle : c.in_ok-middle.middle ≡ with_call old at z = c.in_ok-middle.ensures in
    let over : StandsOver (is_doomed d before) place us c.in_ok-middle.middle =
    subst (λ (b : Made). StandsOver (is_doomed d before) place us b) (sym middle)
    (ended_over m A B changed same scopes left rounds_settle place scope d ranked differ j rest refl t task declared at old one z was there sought off spared begins new) in
    let doom : is_doomed d us ≡ false =
    c.is_undoomed.ensures c.if-not-is_undoomed.false (is_doomed d before) place us over (ended_tasks B (calls m B scopes left) place scope d rounds_settle ranked j t z) (ended_good B (calls m B scopes left) place scope d rounds_settle ranked j t z) in
    let within : (k : ℕ) → list_any (λ n. n == k) ks ≡ true → k < length d.tasks =
    λ k among. one_of (λ (n : ℕ). n < length d.tasks) ks k (recursion_from_All (λ (n : ℕ). n < length d.tasks) ks (behind_within d plan c.requires.plan j low)) among in
    let behind : AreBehind A (calls m A scopes left) place scope d us ks c.in_ok-middle.middle =
    subst (λ (b : Made). AreBehind A (calls m A scopes left) place scope d us ks b) (sym middle)
    (are_behind m A B changed same scopes left rounds_settle place scope d ranked differ j rest refl t task declared at old one z was there sought off spared begins new ks (who_waits d plan c.requires.plan j t task) within doom) in
    given_by c.behind.result (λ (u : Unit {0}) y. HasAllBehind A (calls m A scopes left) place scope d us ks (with_call old at z) y) (λ y. y ≡ dag_made A (calls m A scopes left) place scope declared d)
    (λ u. subst (λ (b : Made). IfGiven c.behind.result (λ y. HasAllBehind A (calls m A scopes left) place scope d us ks b y)) middle (c.behind.ensures us (ended_tagged B (calls m B scopes left) place scope d j t z) behind))
    (λ y said. sym
    (dag_follows m A B changed same scopes left rounds_settle place scope d ranked differ j rest refl t task declared at old one z was there sought off spared begins new ks (who_waits d plan c.requires.plan j t task) within doom y (said tt).0 (said tt).1))
