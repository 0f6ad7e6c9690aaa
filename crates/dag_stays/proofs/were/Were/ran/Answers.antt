-- The task that the fact is recorded below ran.
use Rattle.std.proofs.Common.{◌≡◌, true, sym, ap, ◌∙◌}
use Rattle.std.specs.List.{list_all}
use Rattle.tree_types.specs.declared.phase.Phase.TheVariants.{Running}
use Rattle.meaning.specs.Lines.{Made}
use Rattle.dag_stays.specs.Unmoved.{is_marked}
use Rattle.dag_stays.proofs.Told.{ran_told}
use Rattle.dag_stays.proofs.were.Were.ran.Goals as goal

pub returns-in-Running : goal.returns-in-Running
returns-in-Running c =
    let w = c.args.self.now in
    let i = c.args.i in
    let old : Made = c.in_ok-old.old.now in
    let all : list_all (is_marked w.marks) c.get.result.now ≡ true =
    (λ k. list_all (is_marked (sym c.as_slice.ensures k)) (sym c.as_slice-2.ensures k)) ∙ sym c.all_marked.ensures ∙ c.if-not-all_marked.false in
    let runs : old.own.node.phase ≡ Running = sym (ap (λ (x : Made). x.own.node.phase) c.state.ensures) ∙ sym c.phase.ensures ∙ c.in-Running.is in
    ran_told w i old c.in_ok-old.ensures c.args.plan.now c.get.result.now c.get.ensures all c.if-i-self.false runs
