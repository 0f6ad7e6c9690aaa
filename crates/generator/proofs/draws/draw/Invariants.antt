-- What is drawn so far, and what is drawn after that, are all.
use Rattle.std.proofs.Common.{◌≡◌, ◌-◌, ◌++◌}
use Rattle.generator.specs.Draws.{drawn}
use Rattle.generator.proofs.draws.draw.Given as goal

abbrev pub invariant-loop-position : goal.invariant-loop-position
invariant-loop-position l = l.drawn ++ drawn l.state l.position (l.size - l.position) ≡ drawn l.seed 0 l.size
