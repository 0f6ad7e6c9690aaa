-- One part more stands below.
use Rattle.std.proofs.Common.{◌≡◌, ◌≢◌, ◌<◌, ◌≤◌, ◌+◌, ◌∷◌, ℕ, suc, List, not, ◌&&◌, None, length, get_or, drop, sym, ap, ◌∙◌, subst, arith}
use Rattle.std.proofs.lemmas.List.{length-set, get_or-set_other, get_or_default, drop_all}
use Rattle.wf_manifest.specs.declared.calls.Task.{Task}
use Rattle.scopes.proofs.ValueIn.{drop_place}
use Rattle.meaning.specs.Lines.{Parts, then_parts}
use Rattle.meaning.specs.Dags.{task_place}
use Rattle.dag_template.specs.declared.stands.Stand.{Stand}
use Rattle.dag_template.specs.Stands.{waits}
use Rattle.dag_board.specs.Boards.{stand_at, state_at}
use Rattle.dag_board.specs.Inside.Parts.{part_then, parts_from}
use Rattle.dag_board.proofs.Endings.{then_nothing, part_more}
use Rattle.dag_board.proofs.board.Board.into_below.Goals as goal

pub loop-i-preserved : goal.loop-i-preserved
loop-i-preserved c =
    let b = c.args.self in
    let ts = c.args.dag.now.tasks in
    let place = c.args.place.now in
    let doomed = c.args.doomed in
    let i = c.loop-i.i in
    let states = c.loop-i.self.states.items in
    let t : Task = c.get.result.now in
    let inv = c.loop-i.invariant in
    let low : i < length ts = subst (λ (n : ℕ). i < n) c.len-i-end.ensures c.loop-i-test.true in
    let few : i < length states = subst (λ (n : ℕ). i < n) (sym inv.long) low in
    let state : c.take-state.result ≡ state_at b i =
    c.take-state.ensures.value ∙ c.index_mut.ensures.value ∙ get_or_default states i c.index_mut.result.now None few ∙ inv.left i (omega arith) in
    let begins : c.begins-begins.result ≡ (not doomed && (stand_at b i).ready) =
    c.begins-begins.ensures ∙ ap (λ (xs : List Stand). not doomed && (get_or xs i waits).ready) inv.stands in
    let at = task_place place i t in
    let next : i + 1 ≡ suc i = omega arith in
    let split : drop i ts ≡ t ∷ drop (i + 1) ts = drop_place ts i t c.get.ensures in
    let rest : Parts = parts_from doomed place b (i + 1) (drop (i + 1) ts) in
    let below : then_parts c.add_part.new.below rest ≡ parts_from doomed place b 0 ts =
    ap (λ (x : Parts). then_parts x rest) c.in_ok-add_part.ensures
    ∙ part_more c.loop-i.below c.begins-begins.result at c.take-state.result rest
    ∙ (λ j. then_parts c.loop-i.below (part_then (begins j) at (state j) (parts_from doomed place b (next j) (drop (i + 1) ts))))
    ∙ ap (λ (us : List Task). then_parts c.loop-i.below (parts_from doomed place b i us)) (sym split)
    ∙ inv.below in
    record {
      long = length-set states i c.take-state.new.self ∙ inv.long;
      stands = inv.stands;
      left = λ p h.
          (let other : p ≢ i = omega (arith, h) in
          get_or-set_other states i p c.take-state.new.self None other ∙ inv.left p (omega (arith, h)));
      below = below;
    }

pub returns : goal.returns
returns c =
    let b = c.args.self in
    let ts = c.args.dag.now.tasks in
    let place = c.args.place.now in
    let doomed = c.args.doomed in
    let i = c.loop-i.i in
    let past : length ts ≤ i = subst (λ (n : ℕ). n ≤ i) c.len-i-end.ensures c.loop-i-test.false in
    sym (then_nothing c.loop-i.below)
    ∙ ap (λ (us : List Task). then_parts c.loop-i.below (parts_from doomed place b i us)) (sym (drop_all i ts past))
    ∙ c.loop-i.invariant.below
