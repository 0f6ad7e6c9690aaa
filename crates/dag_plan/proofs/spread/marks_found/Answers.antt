-- From the targets on, what each marked place waits for is marked.
use Rattle.std.proofs.Common.{◌≡◌, ◌-◌, ℕ, suc, List, Bool, length, sym, ap, ◌∙◌, subst, arith}
use Rattle.dag_plan.specs.Inside.Marks.{marked}
use Rattle.dag_plan.proofs.Spreading.{Spread, begin, more, end}
use Rattle.dag_plan.proofs.spread.marks_found.Goals as goal

pub loop-left-init : goal.loop-left-init
loop-left-init c =
    let rows = c.args.rows.now in
    let order = c.args.order.now in
    let targets = c.args.targets.now in
    record {
      within = omega arith;
      long = c.mark.ensures.long ∙ c.in_ok-marks.ensures.long;
      spread =
          subst (λ (ms : List Bool). Spread rows order targets (length order) ms)
          (sym (c.mark.ensures.marked ∙ ap (λ (ms : List Bool). marked ms targets) c.in_ok-marks.ensures.none))
          (begin rows order targets c.requires.within c.requires.order c.requires.targets);
    }

pub loop-left-preserved : goal.loop-left-preserved
loop-left-preserved c =
    let rows = c.args.rows.now in
    let order = c.args.order.now in
    let targets = c.args.targets.now in
    let left = c.loop-left.left in
    let one : suc (left - 1) ≡ left = omega arith in
    let before = subst (λ (n : ℕ). Spread rows order targets n c.loop-left.marks.items) (sym one) c.loop-left.invariant.spread in
    record {
      within = omega arith;
      long = c.mark_row.ensures.long ∙ c.loop-left.invariant.long;
      spread =
          subst (λ (ms : List Bool). Spread rows order targets (left - 1) ms) (sym c.mark_row.ensures.marked)
          (more rows order targets c.requires.within c.requires.order c.requires.targets (left - 1) c.loop-left.marks.items (omega arith) before);
    }

pub returns : goal.returns
returns c =
    let rows = c.args.rows.now in
    let order = c.args.order.now in
    let targets = c.args.targets.now in
    let none : c.loop-left.left ≡ 0 = omega arith in
    end rows order targets c.requires.within c.requires.order c.requires.targets c.loop-left.marks.items
    (subst (λ (n : ℕ). Spread rows order targets n c.loop-left.marks.items) none c.loop-left.invariant.spread)
