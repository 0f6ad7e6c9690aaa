use Rattle.std.proofs.Common.{rules}
use Rattle.std.proofs.lemmas.Result.{err_from_is_err_and}
use Rattle.io_edge.specs.declared.transfer.ReadRefused.TheVariants.{TooLong, Memory}
use Rattle.io_edge.proofs.Progress.{too_long, refused}
use Rattle.io_edge.proofs.transfer.read_all.Goals as goal

pub returns-then-count-room-clause-took : goal.returns-then-count-room-clause-took
returns-then-count-room-clause-took g c =
    too_long _ _ _ _ _ _ _ _ _ TooLong c.loop-bytes.invariant c.in_ok-count.ensures.bytes.0 c.in_ok-count.ensures.bound.0 (search rules) (search rules)

pub returns-in_err-extend-clause-took : goal.returns-in_err-extend-clause-took
returns-in_err-extend-clause-took g c =
    let p = err_from_is_err_and c.from_residual-in_err-extend.result c.from_residual-in_err-extend.ensures.1 in
    rw (p.1, p.2) (refused _ _ _ _ _ _ _ _ TooLong Memory (λ is. cc is) c.loop-bytes.invariant c.in_ok-count.ensures.bytes.0 (search rules))
