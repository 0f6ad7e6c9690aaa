-- The kids in front, the one kid, and those behind.
use Rattle.std.proofs.Common.{List, take, drop, ap, ◌∙◌}
use Rattle.meaning.specs.Lines.{Parts, then_parts}
use Rattle.tree_state.specs.declared.state.Kid.{Kid}
use Rattle.tree_state.specs.Inside.Kids.{kid_before, kid_parts, parts_of}
use Rattle.tree_state.proofs.Kids.{then_moves}
use Rattle.tree_state.proofs.Inserts.{kid_added, range_behind}
use Rattle.tree_state.proofs.filled.Filled.add_among.Goals as goal

pub returns : goal.returns
returns c =
    let place = c.position-place.result in
    let kids = c.args.kids.now in
    let front = parts_of (take place kids) in
    let back = parts_of (drop place kids) in
    record {
      place = place;
      is =
          c.in_ok-add_kids-2.ensures
          ∙ ap (λ (ks : List Kid). then_parts c.end_if_long.new.self (parts_of ks)) (range_behind kids place)
          ∙ ap (λ (p : Parts). then_parts p back) (c.in_ok-end_if_long.ensures ∙ c.in_ok-add.ensures ∙ ap (λ (p : Parts). then_parts p (kid_parts c.args.kid)) c.in_ok-add_kids.ensures)
          ∙ kid_added (then_parts c.args.self.now front) c.args.kid back
          ∙ then_moves c.args.self.now front (kid_before c.args.kid back);
      ends = c.position-place.ensures.ends;
      tells = c.what_follows.ensures;
    }
