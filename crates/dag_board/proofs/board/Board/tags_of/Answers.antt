-- The tags of one task more, in front of those behind it.
use Rattle.std.proofs.Common.{◌≡◌, ◌<◌, ◌-◌, ◌++◌, ◌∷◌, ℕ, List, length, get_or, drop, suc, sym, ap, ◌∙◌, subst, arith, drop-cons}
use Rattle.scopes.specs.Values.{HasValuesOf}
use Rattle.scopes.proofs.ValueIn.{append_alike, alike_trans}
use Rattle.dag_board.specs.Boards.{name_at, state_at}
use Rattle.dag_board.specs.Inside.Befores.{made_tags, board_tags}
use Rattle.dag_board.proofs.board.Board.tags_of.Goals as goal

pub loop-left-preserved : goal.loop-left-preserved
loop-left-preserved c =
    let ts = c.args.dag.now.tasks in
    let b = c.args.self.now in
    let ps = c.args.places.now in
    let left = c.loop-left.left in
    let p : ℕ = get_or ps (left - 1) 0 in
    let low : left - 1 < length ps = omega arith in
    let one : suc (left - 1) ≡ left = omega arith in
    let split : drop (left - 1) ps ≡ p ∷ drop left ps = drop-cons ps (left - 1) 0 low ∙ ap (λ (n : ℕ). p ∷ drop n ps) one in
    record {
      within = omega arith;
      tags =
          subst (λ (qs : List ℕ). HasValuesOf c.add_tags.new.tags (board_tags ts b qs)) (sym split)
          (alike_trans c.add_tags.new.tags (made_tags (name_at ts p) (state_at b p) ++ c.loop-left.tags) (board_tags ts b (p ∷ drop left ps))
          c.in_ok-add_tags.ensures
          (append_alike (made_tags (name_at ts p) (state_at b p)) c.loop-left.tags (board_tags ts b (drop left ps)) c.loop-left.invariant.tags));
    }
