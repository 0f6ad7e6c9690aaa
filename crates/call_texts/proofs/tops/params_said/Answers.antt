-- One argument more is said.
use Rattle.std.proofs.Common.{map}
use Rattle.call_texts.specs.Inside.Params.{param_in}
use Rattle.call_texts.proofs.Workflows.{mapped_more}
use Rattle.call_texts.proofs.tops.params_said.Goals as goal

pub loop-i-preserved : goal.loop-i-preserved
loop-i-preserved c =
    let f = param_in c.args.scope.now in
    let all = c.args.arguments.now in
    mapped_more f all c.loop-i.i c.get.result.now c.in_ok-param_said.field-0 c.loop-i.params c.push.new.self (map f all) c.get.ensures c.in_ok-param_said.ensures c.in_ok-push.ensures.ok
    c.loop-i.invariant
