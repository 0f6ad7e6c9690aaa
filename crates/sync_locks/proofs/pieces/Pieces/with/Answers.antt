-- There is one place more.
use Rattle.std.proofs.Common.{◌≡◌, ◌+◌, ◌≤◌, List, Vec, Global, length, ap, ◌∙◌, arith}
use Rattle.std.specs.List.{insert}
use Rattle.std.proofs.lemmas.List.Edits.{length-insert}
use Rattle.sync_locks.specs.Inside.Pieces.{Piece, joined}
use Rattle.sync_locks.proofs.Pieced.{all_put}
use Rattle.sync_locks.proofs.pieces.Pieces.with.Goals as goal

pub invariant_of-result : goal.invariant_of-result
invariant_of-result g c =
    let end : length c.deref-piece-items.result.now ≤ c.loop-piece.piece-index = omega (arith, c.loop-piece-test.false) in
    let is : joined c.in_ok-new.field-0.value.items ≡ insert c.args.self.now c.args.position c.args.item =
    ap (λ (v : Vec (Piece g.row.T.Denot) Global). joined v.items) c.in_ok-new.ensures.ok
    ∙ all_put c.deref-piece-items.result.now c.loop-piece.piece-index end (joined c.loop-piece.pieces.items) (insert c.args.self.now c.args.position c.args.item) c.loop-piece.left c.args.item (joined c.add_last.new.pieces.items) c.in_ok-add_last.ensures c.loop-piece.invariant in
    let long : length (joined c.in_ok-new.field-0.value.items) ≡ length c.args.self.now + 1 = ap (λ (xs : List g.row.T.Denot). length xs) is ∙ length-insert c.args.self.now c.args.position c.args.item c.requires in
    let before : c.self.inside.len ≡ length c.args.self.now = c.self.invariant ∙ ap (λ (xs : List g.row.T.Denot). length xs) c.self.view_is in
    omega (arith, c.in-Some.ensures, c.in-Some.is, c.checked_add.ensures, before, long)
