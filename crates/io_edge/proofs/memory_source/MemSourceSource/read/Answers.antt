use Rattle.std.proofs.Common.{rules, ap}
use Rattle.io_edge.specs.Supplies.{Supply}
use Rattle.io_edge.proofs.Progress.{gave_front}
use Rattle.io_edge.proofs.memory_source.MemSourceSource.read.Goals as goal

pub returns-clause-bytes : goal.returns-clause-bytes
returns-clause-bytes c =
    rw (← ap (λ (s : Supply). s.left) c.self.view_is) (gave_front _ _ _ _ c.self.inside.piece _ c.self.invariant.0 c.self.invariant.1 (search rules) (search rules))
