-- One more did not fail.
use Rattle.std.proofs.Common.{◌≡◌, ℕ, List, true, sym, subst, ◌∙◌, arith}
use Rattle.std.specs.List.{AllByRecursion}
use Rattle.std.proofs.lemmas.List.{take_all}
use Rattle.dag_board.specs.Boards.{stood}
use Rattle.dag_stays.specs.Following.{is_spared}
use Rattle.dag_stays.proofs.Becoming.{each_more}
use Rattle.dag_stays.proofs.following.none_failed.Goals as goal

pub loop-i-preserved : goal.loop-i-preserved
loop-i-preserved c doomed place ss over =
    each_more (λ p. is_spared (stood ss p) ≡ true) c.args.plan.now.targets c.loop-i.i c.get.result.now c.get.ensures (c.loop-i.invariant doomed place ss over)
    (sym (c.is_spared.ensures doomed place ss over) ∙ c.if-not-is_spared.false)

pub returns : goal.returns
returns c all doomed place ss over =
    subst (λ (ps : List ℕ). AllByRecursion (λ p. is_spared (stood ss p) ≡ true) ps) (take_all c.loop-i.i c.args.plan.now.targets (omega (arith, c.loop-i-test.false, c.len-i-end.ensures)))
    (c.loop-i.invariant doomed place ss over)
