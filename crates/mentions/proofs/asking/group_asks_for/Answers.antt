-- One call more is looked at.
use Rattle.std.proofs.Common.{sym, ◌∙◌}
use Rattle.mentions.specs.Mentions.{call_asks, group_asks}
use Rattle.mentions.proofs.Looked.{any_here, any_later}
use Rattle.mentions.proofs.asking.group_asks_for.Goals as goal

pub returns-then-branch : goal.returns-then-branch
returns-then-branch c =
    let prefix = c.args.prefix.now in
    let calls = c.args.calls.now in
    any_here (call_asks prefix) calls c.loop-i.i c.get.result.now (group_asks prefix calls) c.get.ensures
    (sym c.in_ok-call_asks_for.ensures ∙ c.if-branch.true) c.loop-i.invariant

pub loop-i-preserved : goal.loop-i-preserved
loop-i-preserved c =
    let prefix = c.args.prefix.now in
    let calls = c.args.calls.now in
    any_later (call_asks prefix) calls c.loop-i.i c.get.result.now (group_asks prefix calls) c.get.ensures
    (sym c.in_ok-call_asks_for.ensures ∙ c.if-branch.false) c.loop-i.invariant
