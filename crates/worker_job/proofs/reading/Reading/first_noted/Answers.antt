use Rattle.std.proofs.Common.{◌∙◌, sym}
use Rattle.std.specs.Prelude.{Some, None}
use Rattle.law.specs.Justified.{wants_of}
use Rattle.worker_job.specs.Readings as reads
use Rattle.worker_job.specs.Inside.Marks.{absent}
use Rattle.worker_job.proofs.Wanted.{creating_only}
use Rattle.worker_job.proofs.Marked.{podded, known_by, found_by, creates_absent}
use Rattle.worker_job.proofs.reading.Reading.first_noted.Goals as goal

pub returns-in-None : goal.returns-in-None
returns-in-None c =
    let r = c.args.self.now in
    podded (reads.creating r) (absent r.job.now.views.pods r.object.now) (wants_of r.object.now) None (creating_only r) (creates_absent r)
    (found_by absent c.pods.ensures.looks c.pods.ensures.object (c.in-None.ensures.first (known_by absent c.pods.ensures.looks c.pods.ensures.object r.marks.now.created c.requires.marked.marked.created.first)))

pub returns-in-Some-find : goal.returns-in-Some-find
returns-in-Some-find c =
    let r = c.args.self.now in
    c.noted-in-Some-find.ensures
    ∙ podded (reads.creating r) (absent r.job.now.views.pods r.object.now) (wants_of r.object.now) (Some c.in-Some-find.want.now) (creating_only r) (creates_absent r)
    (found_by absent c.pods.ensures.looks c.pods.ensures.object (c.in-Some-find.ensures.first (known_by absent c.pods.ensures.looks c.pods.ensures.object r.marks.now.created c.requires.marked.marked.created.first)))

pub returns-in-Some : goal.returns-in-Some
returns-in-Some c =
    let r = c.args.self.now in
    c.noted.ensures
    ∙ podded (reads.creating r) (absent r.job.now.views.pods r.object.now) (wants_of r.object.now) (Some c.in-Some.want.now) (creating_only r) (creates_absent r) (sym c.in-Some.ensures)
