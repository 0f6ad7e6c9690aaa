-- The tags of one task more, in front of those behind it.
use Rattle.std.proofs.Common.{◌≡◌, ◌<◌, ◌-◌, ◌++◌, ◌∷◌, ◌+◌, ℕ, List, length, drop, suc, sym, ap, ◌∙◌, subst, arith}
use Rattle.wf_manifest.specs.declared.calls.Task.{Task}
use Rattle.scopes.specs.Values.{HasValuesOf}
use Rattle.scopes.proofs.ValueIn.{append_alike, alike_trans, drop_place}
use Rattle.dag_template.proofs.Ordered.{task_at}
use Rattle.dag_board.specs.Boards.{name_at, state_at}
use Rattle.dag_board.specs.Inside.Befores.{made_tags}
use Rattle.dag_board.specs.Inside.Parts.{tags_from}
use Rattle.dag_board.proofs.Lookups.{named_at}
use Rattle.dag_board.proofs.board.Board.all_tags.Goals as goal

pub loop-left-preserved : goal.loop-left-preserved
loop-left-preserved c =
    let ts = c.args.dag.now.tasks in
    let b = c.args.self.now in
    let left = c.loop-left.left in
    let q : ℕ = left - 1 in
    let low : q < length ts = omega arith in
    let one : q + 1 ≡ left = omega arith in
    let next : suc q ≡ left = omega arith in
    let task = task_at ts q low in
    let t : Task = task.0 in
    let split : drop q ts ≡ t ∷ drop left ts = drop_place ts q t task.1 ∙ ap (λ (n : ℕ). t ∷ drop n ts) one in
    let name : name_at ts q ≡ t.call.name = named_at ts q t task.1 in
    record {
      within = omega arith;
      tags =
          subst (λ (us : List Task). HasValuesOf c.add_tags.new.tags (tags_from b q us)) (sym split)
          (subst (λ (n : ℕ). HasValuesOf c.add_tags.new.tags (made_tags t.call.name (state_at b q) ++ tags_from b n (drop left ts))) (sym next)
          (alike_trans c.add_tags.new.tags (made_tags t.call.name (state_at b q) ++ c.loop-left.tags) (made_tags t.call.name (state_at b q) ++ tags_from b left (drop left ts))
          (subst (λ (n : List ℕ). HasValuesOf c.add_tags.new.tags (made_tags n (state_at b q) ++ c.loop-left.tags)) name c.in_ok-add_tags.ensures)
          (append_alike (made_tags t.call.name (state_at b q)) c.loop-left.tags (tags_from b left (drop left ts)) c.loop-left.invariant.tags)));
    }
