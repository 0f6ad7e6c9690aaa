-- One output more is looked at.
use Rattle.std.proofs.Common.{sym, ◌∙◌}
use Rattle.mentions.specs.Mentions.{output_asks, outputs_ask}
use Rattle.mentions.proofs.Looked.{any_here, any_later}
use Rattle.mentions.proofs.asking.outputs_ask_for.Goals as goal

pub returns-then-option_asks : goal.returns-then-option_asks
returns-then-option_asks c =
    let prefix = c.args.prefix.now in
    let declared = c.args.declared.now in
    any_here (output_asks prefix) declared c.loop-i.i c.get.result.now (outputs_ask prefix declared) c.get.ensures
    (sym c.option_asks.ensures ∙ c.if-option_asks.true) c.loop-i.invariant

pub loop-i-preserved : goal.loop-i-preserved
loop-i-preserved c =
    let prefix = c.args.prefix.now in
    let declared = c.args.declared.now in
    any_later (output_asks prefix) declared c.loop-i.i c.get.result.now (outputs_ask prefix declared) c.get.ensures
    (sym c.option_asks.ensures ∙ c.if-option_asks.false) c.loop-i.invariant
