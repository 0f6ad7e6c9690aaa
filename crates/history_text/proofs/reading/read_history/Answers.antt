use Rattle.std.proofs.Common.{◌++◌, length, sym, ap, ◌∙◌, append-nil}
use Rattle.std.proofs.lemmas.Bool.{eqb-true, eqb-false}
use Rattle.std.proofs.lemmas.List.{nil_from_length}
use Rattle.history_text.specs.Lines.{history_text}
use Rattle.history_text.proofs.LinesBack.{same_history, stuck}
use Rattle.history_text.proofs.reading.read_history.Goals as goal

pub returns-in-Err-Other-clause-reads_back : goal.returns-in-Err-Other-clause-reads_back
returns-in-Err-Other-clause-reads_back c entries text =
    let rest = c.loop-rest.rest.now in
    absurd (stuck c.loop-rest.entries rest c.loop-rest.invariant.readable (λ empty. eqb-false (length rest) 0 (sym c.loop-rest-test.ensures) (ap length empty))
    (rw c.in-Err-Other.field-0-is at c.in-Err-Other.ensures) entries text.0 (text.1 ∙ sym c.loop-rest.invariant.whole))

pub returns-clause-reads_back : goal.returns-clause-reads_back
returns-clause-reads_back c entries text =
    let rest = c.loop-rest.rest.now in
    let empty = nil_from_length rest (eqb-true (length rest) 0 (sym c.loop-rest-test.ensures)) in
    let found = c.loop-rest.entries in
    same_history found entries c.loop-rest.invariant.readable text.0
    (sym (append-nil (history_text found)) ∙ ap (λ r. history_text found ++ r) (sym empty) ∙ c.loop-rest.invariant.whole ∙ sym text.1)
