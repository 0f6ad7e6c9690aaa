-- The tasks stood over these calls.
use Rattle.std.proofs.Common.{refl, ap, ◌∙◌, subst}
use Rattle.dag_stays.specs.Unmoved.{AreApart}
use Rattle.dag_stays.specs.ByTask.{by_task}
use Rattle.dag_stays.proofs.Told.{knows}
use Rattle.dag_stays.proofs.were.Were.new.Goals as goal

pub returns : goal.returns
returns c =
    knows c.args.dag.now c.args.plan.now c.requires.plan c.args.calls.now c.args.depth c.args.j (record { made = c.in_ok-made.made; marks = c.in_ok-marks.marks; j = c.args.j })
    (c.in_ok-made.ensures ∙ ap (λ n. by_task c.args.depth 0 n c.args.calls.now) c.len.ensures)
    (subst (λ rows. AreApart rows c.args.j c.in_ok-marks.marks) c.as_slice.ensures c.in_ok-marks.ensures)
    refl
