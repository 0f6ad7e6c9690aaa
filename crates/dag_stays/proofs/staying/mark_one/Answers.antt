-- One mark more, on a task that is not this one and waits for marked tasks.
use Rattle.std.proofs.Common.{◌≡◌, [], true, get_or, sym, ◌∙◌}
use Rattle.std.specs.List.{list_all}
use Rattle.std.proofs.lemmas.List.{get_or_default}
use Rattle.dag_stays.specs.Unmoved.{is_marked}
use Rattle.dag_stays.proofs.Marks.{one_more}
use Rattle.dag_stays.proofs.staying.mark_one.Goals as goal

pub returns-clause-apart : goal.returns-clause-apart
returns-clause-apart c =
    let rows = c.args.rows.now in
    let marks = c.args.marks.now.items in
    let i = c.args.i in
    let row : c.as_slice-2.result.now ≡ get_or rows i [] = c.as_slice-2.ensures ∙ c.index-rows-i.is ∙ sym (get_or_default rows i [] c.index-rows-i.result c.requires.place) in
    let all : list_all (is_marked marks) (get_or rows i []) ≡ true =
    (λ k. list_all (is_marked (sym c.as_slice.ensures.value k)) (sym row k)) ∙ sym c.all_marked.ensures ∙ c.if-not-all_marked.false in
    one_more rows c.args.j i marks c.requires.apart c.if-i-j.false all
