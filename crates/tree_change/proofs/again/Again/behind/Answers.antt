-- Each is looked at once, and then the DAG is over them all.
use Rattle.std.proofs.Common.{◌≡◌, ◌⊎◌, inl, inr, ℕ, ◌+◌, ◌<◌, ◌==◌, List, [], ◌∷◌, ◌++◌, Bool, true, false, length, take, get_or, sym, ap, subst, ◌∙◌, arith}
use Rattle.std.specs.List.{list_any}
use Rattle.std.proofs.lemmas.List.{take_more, take_all}
use Rattle.meaning.specs.Lines.{Made, row_in, all_finished}
use Rattle.meaning.specs.Calls.{calls}
use Rattle.dag_plan.proofs.Waiting.{behind_differ, behind_within}
use Rattle.tree_change.specs.Inside.Behind.{newest, IsSoFar, HasAllBehind}
use Rattle.tree_change.proofs.Waiting.{fresh, among, some_of, goes_or}
use Rattle.tree_change.proofs.again.Again.behind.Goals as goal

pub with_follower-requires-clause-place : goal.with_follower-requires-clause-place
with_follower-requires-clause-place g c =
    let d = c.args.dag.now in
    let i = c.loop-i.i in
    let same = c.loop-i.invariant.followers in
    subst (λ (ks : List ℕ). get_or ks i 0 < length d.tasks) (sym same)
    (behind_within d c.args.plan.now c.requires.plan c.args.j c.requires.place i 0 (subst (λ (ks : List ℕ). i < length ks) same c.loop-i-test.true))

pub loop-i-preserved : goal.loop-i-preserved
loop-i-preserved g c = record {
  followers = c.loop-i.invariant.followers;
  so_far = λ us tagged behind.
      let m = c.args.self.now.walk.manifest.now in
      let A = g.R.Recorded.answers c.args.self.now.walk.recorded.now in
      let called = calls m A c.args.self.now.walk.globals.now c.args.left in
      let place = c.args.place.now in
      let scope = c.args.scope.now in
      let d = c.args.dag.now in
      let plan = c.args.plan.now in
      let j = c.args.j in
      let i = c.loop-i.i in
      let ks = get_or plan.behind j [] in
      let same = c.loop-i.invariant.followers in
      let low : i < length ks = subst (λ (xs : List ℕ). i < length xs) same c.loop-i-test.true in
      let k = get_or c.as_slice-followers.result.now i 0 in
      let number : get_or ks i 0 ≡ k = ap (λ (xs : List ℕ). get_or xs i 0) (sym same) in
      let more : take i ks ++ k ∷ [] ≡ take (i + 1) ks = ap (λ (n : ℕ). take i ks ++ n ∷ []) (sym number) ∙ sym (take_more ks i 0 low) in
      subst (λ (done : List ℕ). IsSoFar A called place scope d us done c.args.middle c.in-Some.next) more
      (some_of c.in_ok-with_follower.field-0 c.in-Some.next (IsSoFar A called place scope d us (take i ks ++ k ∷ []) c.args.middle) c.in-Some.is
      (c.in_ok-with_follower.ensures us ks (take i ks) tagged behind
      (subst (λ (n : ℕ). list_any (λ m. m == n) ks ≡ true) number (among ks i low))
      (subst (λ (n : ℕ). list_any (λ m. m == n) (take i ks) ≡ false) number (fresh ks i (behind_differ d plan c.requires.plan j c.requires.place) low))
      (c.loop-i.invariant.so_far us tagged behind)));
}

pub returns : goal.returns
returns g c us tagged behind =
    let m = c.args.self.now.walk.manifest.now in
    let A = g.R.Recorded.answers c.args.self.now.walk.recorded.now in
    let called = calls m A c.args.self.now.walk.globals.now c.args.left in
    let place = c.args.place.now in
    let scope = c.args.scope.now in
    let d = c.args.dag.now in
    let ks = get_or c.args.plan.now.behind c.args.j [] in
    let i = c.loop-i.i in
    let state = newest c.loop-i.so_far.state c.args.middle in
    let far : take i ks ≡ ks = take_all i ks (omega (arith, c.loop-i-test.false, ap (λ (xs : List ℕ). length xs) c.loop-i.invariant.followers)) in
    let so_far : IsSoFar A called place scope d us ks c.args.middle c.loop-i.so_far =
    subst (λ (done : List ℕ). IsSoFar A called place scope d us done c.args.middle c.loop-i.so_far) far (c.loop-i.invariant.so_far us tagged behind) in
    subst (λ (b : Made). HasAllBehind A called place scope d us ks c.args.middle b) (sym c.into_newest.ensures)
    (so_far.followed, by_test so_far.goes (goes_or c.loop-i.so_far.goes_on (all_finished (row_in state.parts)) (sym c.may_be_over.ensures ∙ c.if-may_be_over.false)))
  where
    by_test : {X Y : Type 0} {b : Bool} → (b ≡ true → Y) → (b ≡ true) ⊎ X → X ⊎ Y
    by_test one (inl on) = inr (one on)
    by_test one (inr off) = inl off
