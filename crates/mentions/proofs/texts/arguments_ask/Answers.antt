-- One argument more is looked at.
use Rattle.std.proofs.Common.{sym, ◌∙◌}
use Rattle.mentions.specs.Mentions.{argument_asks, arguments_ask}
use Rattle.mentions.proofs.Looked.{any_here, any_later}
use Rattle.mentions.proofs.texts.arguments_ask.Goals as goal

pub returns-then-text_asks : goal.returns-then-text_asks
returns-then-text_asks c =
    let prefix = c.args.prefix.now in
    let given = c.args.arguments.now in
    any_here (argument_asks prefix) given c.loop-i.i c.get.result.now (arguments_ask prefix given) c.get.ensures
    (sym c.text_asks.ensures ∙ c.if-text_asks.true) c.loop-i.invariant

pub loop-i-preserved : goal.loop-i-preserved
loop-i-preserved c =
    let prefix = c.args.prefix.now in
    let given = c.args.arguments.now in
    any_later (argument_asks prefix) given c.loop-i.i c.get.result.now (arguments_ask prefix given) c.get.ensures
    (sym c.text_asks.ensures ∙ c.if-text_asks.false) c.loop-i.invariant
