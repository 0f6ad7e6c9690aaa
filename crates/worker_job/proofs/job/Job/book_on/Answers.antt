-- What was left is what the views tell, and a content of another kind ends the job.
use Rattle.std.proofs.Common.{◌∙◌, sym, ap, subst, option_map, option_and_then, List, Option}
use Rattle.tree_types.specs.declared.want.Want.{Want}
use Rattle.wf_object.specs.Kept.{law_book}
use Rattle.worker_job.specs.Jobs.{OneJob}
use Rattle.worker_job.specs.Inside.{flow_seen, book_seen}
use Rattle.worker_job.specs.Inside.Filing.{FilingFits}
use Rattle.worker_job.proofs.Filing.{in_book}
use Rattle.worker_job.proofs.OtherKinds.{no_locks}
use Rattle.worker_job.proofs.job.Job.book_on.Goals as goal

pub left_to_file-requires-clause-fits : goal.left_to_file-requires-clause-fits
left_to_file-requires-clause-fits c =
    let a = c.self.inside in
    subst (λ (o : Option (List Want)). FilingFits o a.workflow (option_and_then flow_seen a.flow) (option_and_then book_seen a.book)) (sym c.replace-to_file.ensures.value)
    c.self.invariant.to_file

pub left_to_file-requires-clause-more : goal.left_to_file-requires-clause-more
left_to_file-requires-clause-more c = λ s viewed.
    c.requires.goes_on s (law_book c.in-Some.book.now) (ap (λ (j : OneJob). j.views.book) (sym c.self.view_is) ∙ viewed) (sym c.in-Some.ensures)

pub set_book-requires-clause-to_file : goal.set_book-requires-clause-to_file
set_book-requires-clause-to_file c =
    let a = c.self.inside in
    in_book a.workflow (option_and_then flow_seen a.flow) c.args.snapshot c.in-Some.book.now c.in_ok-to_file.to_file c.in-Some.ensures c.in_ok-to_file.ensures

pub returns-in_default-clause-after : goal.returns-in_default-clause-after
returns-in_default-clause-after c =
    no_locks c.args.self.now.views c.args.snapshot.key c.args.snapshot.version c.args.snapshot.tick c.args.snapshot.content c.requires.key
    (sym c.locks.ensures ∙ ap (option_map (λ book. law_book book.now)) c.in_default.is)
