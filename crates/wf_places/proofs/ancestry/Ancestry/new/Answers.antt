use Rattle.wf_places.proofs.Waiting.{made_known}
use Rattle.wf_places.proofs.ancestry.Ancestry.new.Goals as goal

pub invariant_of-result : goal.invariant_of-result
invariant_of-result c =
    made_known c.args.tasks.now c.in_ok-known.known c.in_ok-known.ensures.some c.in_ok-known.ensures.ranked c.in_ok-known.ensures.none
