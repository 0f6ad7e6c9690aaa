-- One more is seen as it stands.
use Rattle.std.proofs.Common.{ℕ, ◌+◌, List, [], ◌∷◌, ◌++◌, length, sym, ap, ◌∙◌, length-append}
use Rattle.dag_template.specs.declared.stands.Stand.{Stand}
use Rattle.dag_board.specs.Boards.{stood}
use Rattle.dag_stays.specs.Following.{seen}
use Rattle.dag_stays.proofs.Becoming.{map_more}
use Rattle.dag_stays.proofs.following.stands_below.Goals as goal

pub loop-i-preserved : goal.loop-i-preserved
loop-i-preserved c = record {
  long =
      ap (λ (ss : List Stand). length ss) (c.in_ok-push.ensures).ok ∙ length-append c.loop-i.found (c.stand_below.result ∷ [])
      ∙ ap (λ (n : ℕ). n + 1) c.loop-i.invariant.long;
  seen = λ doomed place ss over.
      (c.in_ok-push.ensures).ok
      ∙ (λ i. c.loop-i.invariant.seen doomed place ss over i ++ c.stand_below.ensures doomed place ss over i ∷ [])
      ∙ sym (map_more (λ p. seen (stood ss p)) c.args.places.now c.loop-i.i c.loop-i-test.true);
}
