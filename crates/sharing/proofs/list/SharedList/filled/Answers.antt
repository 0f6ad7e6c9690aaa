-- Full chunks of the item, and what is left of the count.
use Rattle.sharing.proofs.Places.{replicated, replicated_kept}
use Rattle.sharing.proofs.list.SharedList.filled.Goals as goal

pub invariant_of-result : goal.invariant_of-result
invariant_of-result g c =
    rw (c.in_ok-filled.ensures, c.in_ok-filled-2.ensures, c.in_ok-chunk.ensures, c.in_ok-item.ensures) (replicated_kept c.args.count c.args.item)

pub returns : goal.returns
returns g c =
    rw (c.in_ok-filled.ensures, c.in_ok-filled-2.ensures, c.in_ok-chunk.ensures, c.in_ok-item.ensures) (replicated c.args.count c.args.item)
