use Rattle.std.proofs.Common.{◌≡◌, ◌-◌}
use Rattle.connectives.specs.Reading.{negate}
use Rattle.connectives.proofs.reading.negate_times.Given as goal

-- what is left to negate makes the whole of it
abbrev pub invariant-loop : goal.invariant-loop
invariant-loop g l = negate g.D.Draft.joins (l.count - l.counter) l.operand ≡ negate g.D.Draft.joins l.count l.fn.operand
