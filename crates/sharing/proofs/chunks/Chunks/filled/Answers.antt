-- Full blocks of the chunk, and what is left of the count.
use Rattle.sharing.proofs.Places.{replicated, replicated_chunked}
use Rattle.sharing.proofs.chunks.Chunks.filled.Goals as goal

pub invariant_of-result : goal.invariant_of-result
invariant_of-result g c =
    rw (c.in_ok-filled.ensures, c.in_ok-filled-2.ensures, c.in_ok-block.ensures) (replicated_chunked c.args.count c.args.chunk.now)

pub returns : goal.returns
returns g c =
    rw (c.in_ok-filled.ensures, c.in_ok-filled-2.ensures, c.in_ok-block.ensures) (replicated c.args.count c.args.chunk.now)
