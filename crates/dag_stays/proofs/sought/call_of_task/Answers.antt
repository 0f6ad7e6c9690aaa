-- What is found is the task's, and where none is found the task made nothing.
use Rattle.std.proofs.Common.{◌≡◌, inr, arith, ℕ, ◌+◌, ◌-◌, ◌/◌, length, sym, ap, ◌∙◌}
use Rattle.std.specs.Prelude.{option_copied}
use Rattle.dag_stays.specs.ByTask.{is_of_task, is_in_front}
use Rattle.dag_stays.proofs.Halving.{found, absent, ends_bound}
use Rattle.dag_stays.proofs.sought.call_of_task.Goals as goal

pub returns-then-is_of_task-clause-made : goal.returns-then-is_of_task-clause-made
returns-then-is_of_task-clause-made c doomed place ss over =
    let depth : c.len-depth.result ≡ length c.args.dag.now.own.node.path.sels = c.len-depth.ensures ∙ ap (λ n. length n.path.sels) c.node.ensures in
    found doomed place ss c.args.dag.now over c.args.j (c.most_up_to-high.result - 1) c.in-Some.call.now (sym c.call_at.ensures ∙ ap option_copied c.in-Some.is)
    (ap (λ (n : ℕ). is_of_task n c.args.j c.in-Some.call.now) (sym depth) ∙ sym c.is_of_task.ensures ∙ c.if-is_of_task.true)

pub returns-then-is_in_front-clause-made : goal.returns-then-is_in_front-clause-made
returns-then-is_in_front-clause-made c doomed place ss over =
    let high = c.most_up_to-high.result in
    let depth : c.len-depth.result ≡ length c.args.dag.now.own.node.path.sels = c.len-depth.ensures ∙ ap (λ n. length n.path.sels) c.node.ensures in
    absent doomed place ss c.args.dag.now over c.args.j high high (omega arith)
    (ends_bound c.args.dag.now.parts (length c.args.dag.now.own.node.path.sels) c.args.j high c.most_up_to-high.ensures.bound)
    (inr (high - 1, c.in-Some.call.now, omega (arith, c.if-high-gt0.true), sym c.call_at.ensures ∙ ap option_copied c.in-Some.is, ap (λ (n : ℕ). is_in_front n c.args.j c.in-Some.call.now) (sym depth) ∙ sym c.is_in_front.ensures ∙ c.if-is_in_front.true))

pub returns-then-is_of_task-2-clause-made : goal.returns-then-is_of_task-2-clause-made
returns-then-is_of_task-2-clause-made c doomed place ss over =
    found doomed place ss c.args.dag.now over c.args.j (c.loop-low.low + (c.loop-low.high - c.loop-low.low) / 2) c.in-Some-call_at.call.now (sym c.call_at-in-loop-low.ensures ∙ ap option_copied c.in-Some-call_at.is)
    (ap (λ (n : ℕ). is_of_task n c.args.j c.in-Some-call_at.call.now) (sym c.loop-low.invariant.depth) ∙ sym c.is_of_task-in-loop-low.ensures ∙ c.if-is_of_task-2.true)

pub returns-clause-made : goal.returns-clause-made
returns-clause-made c doomed place ss over =
    absent doomed place ss c.args.dag.now over c.args.j c.loop-low.low c.loop-low.high c.loop-low-test.false c.loop-low.invariant.ends c.loop-low.invariant.begins
