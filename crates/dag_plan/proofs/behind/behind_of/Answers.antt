-- Each row is noted at its places, and nowhere else.
use Rattle.std.proofs.Common.{◌≡◌, ℕ, suc, ◌<◌, List, [], length, get_or, take, sym, ap, ◌∙◌, subst, add-one}
use Rattle.std.proofs.lemmas.List.{length-replicate, get_or_default}
use Rattle.dag_plan.specs.Plans.{rows_with}
use Rattle.dag_plan.specs.Inside.Behind.{row_noted}
use Rattle.dag_plan.proofs.Gathering.{row_noted_long, none_gathered, gathered_more}
use Rattle.dag_plan.proofs.behind.behind_of.Goals as goal

pub loop-i-init : goal.loop-i-init
loop-i-init c = record {
  long = ap length c.in_ok-lists.ensures ∙ length-replicate (length c.args.rows.now) [];
  each = none_gathered c.args.rows.now c.in_ok-lists.lists.items c.in_ok-lists.ensures;
}

pub loop-i-preserved : goal.loop-i-preserved
loop-i-preserved c =
    let rows = c.args.rows.now in
    let i = c.loop-i.i in
    let lists = c.loop-i.lists.items in
    let row : c.as_slice.result.now ≡ get_or rows i [] =
    c.as_slice.ensures ∙ c.index-rows-i.is ∙ get_or_default rows i c.index-rows-i.result [] c.loop-i-test.true in
    let noted : c.note_row.new.lists.items ≡ row_noted i lists (get_or rows i []) = c.in_ok-note_row.ensures ∙ ap (row_noted i lists) row in
    rw add-one (record {
      long = ap length noted ∙ row_noted_long i lists (get_or rows i []) ∙ c.loop-i.invariant.long;
      each =
          subst (λ (ls : List (List ℕ)). (p : ℕ) → p < length rows → get_or ls p [] ≡ rows_with p 0 (take (suc i) rows)) (sym noted)
          (gathered_more rows i c.loop-i-test.true lists c.loop-i.invariant.long c.loop-i.invariant.each);
    })
