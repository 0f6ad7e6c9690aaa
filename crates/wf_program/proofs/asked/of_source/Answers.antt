-- All was read, and it is not too long.
use Rattle.std.proofs.Common.{rules}
use Rattle.wf_program.proofs.Ends.{all_taken, asks_of_source}
use Rattle.wf_program.proofs.asked.of_source.Goals as goal

pub returns-in-Ok : goal.returns-in-Ok
returns-in-Ok g c = λ words said.
    let taken = all_taken _ _ _ _ _ _ c.in-Ok.ensures.took.1 in
    asks_of_source words _ c.args.order _ (record {
      read = record { said = said; reads = c.requires; consumed = taken.0 };
      all = c.in-Ok.ensures.whole;
      bound = taken.1;
      unfailed = search rules;
    }) c.of_input.result (rw (← c.as_slice.ensures) c.of_input.ensures)
