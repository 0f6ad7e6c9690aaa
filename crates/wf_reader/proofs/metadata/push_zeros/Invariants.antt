-- So many zeros are added.
use Rattle.std.proofs.Common.{◌≡◌, ◌++◌, replicate}
use Rattle.wf_reader.proofs.metadata.push_zeros.Given as goal

abbrev pub invariant-loop : goal.invariant-loop
invariant-loop l = l.text ≡ l.initial.text ++ replicate l.counter 48
