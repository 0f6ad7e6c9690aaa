-- The inputs that are left decide.
use Rattle.std.proofs.Common.{◌≡◌, drop}
use Rattle.wf_places.specs.Inside.Tables.{input_gives}
use Rattle.wf_places.proofs.tables.give_values.Given as goal

abbrev pub invariant-loop-i : goal.invariant-loop-i
invariant-loop-i l = input_gives l.given (drop l.i l.inputs) ≡ input_gives l.given l.inputs
