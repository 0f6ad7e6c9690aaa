use Rattle.std.proofs.Common.{◌≡◌}
use Rattle.time_text.specs.Durations.{delay}
use Rattle.time_text.proofs.wait.grown.Given as goal

abbrev pub invariant-loop : goal.invariant-loop
invariant-loop l = l.wait ≡ delay l.duration l.factor l.counter
