-- What is read is what the text says.
use Rattle.call_texts.proofs.Reading.{is_read, is_bad}
use Rattle.call_texts.proofs.conditions.truth_of_text.Goals as goal

pub returns-in-Ok : goal.returns-in-Ok
returns-in-Ok c = is_read c.args.text.now c.in-Ok.when c.truth_of.result c.when_says.ensures c.in-Ok.ensures.ok c.truth_of.ensures

pub returns-in-Err-Bad : goal.returns-in-Err-Bad
returns-in-Err-Bad c =
    let fault = c.in-Err-Bad.ensures.bad (λ e. absurd (cc)) in
    is_bad c.args.text.now fault.0 c.when_says.ensures fault.2
