use Rattle.std.proofs.Common.{◌≡◌, ◌+◌, drop}
use Rattle.connectives.specs.Reading.{start, read, place}
use Rattle.connectives.proofs.reading.read.Given as goal

-- what comes of the rest of the text comes of the whole
abbrev pub invariant-loop-place : goal.invariant-loop-place
invariant-loop-place g l = record {
  rest : read g.D.Draft.joins g.I.Operand.machine l.state (drop l.place l.text) ≡ read g.D.Draft.joins g.I.Operand.machine start l.text;
  fault : l.place + place g.D.Draft.joins g.I.Operand.machine l.state (drop l.place l.text) ≡ place g.D.Draft.joins g.I.Operand.machine start l.text;
}
