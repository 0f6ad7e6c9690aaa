-- Some beginnings went from the first state to this one.
use Rattle.wf_object.specs.Inside.Closing.{Began}
use Rattle.wf_object.proofs.closing.close.Given as goal

abbrev pub invariant-loop : goal.invariant-loop
invariant-loop l = Began l.fn.from l.state l.fn.told l.facts
