use Rattle.std.proofs.Common.{sym}
use Rattle.call_reader.proofs.DependsMeaning.{said, unsaid}
use Rattle.call_reader.proofs.depends.DependsTextGrammar.read.Goals as goal

pub returns-in-Ok : goal.returns-in-Ok
returns-in-Ok c = sym (said c.args.text.now c.in-Ok.depends c.in-Ok.ensures.ok)

pub returns-in-Err-Bad : goal.returns-in-Err-Bad
returns-in-Err-Bad c =
    let bad = c.in-Err-Bad.ensures.bad (λ same. absurd cc) in sym (unsaid c.args.text.now bad.0 bad.2)
