-- Words say a size within its limit.
use Rattle.wf_program.proofs.Sizes.{size_small}
use Rattle.wf_program.proofs.asked.what_is_asked.Goals as goal

pub of_number-requires : goal.of_number-requires
of_number-requires g c = size_small c.args.words.now c.in-Ok.order c.in-Ok.ensures.read
