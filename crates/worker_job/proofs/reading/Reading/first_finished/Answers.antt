use Rattle.std.proofs.Common.{◌∙◌, sym}
use Rattle.std.specs.Prelude.{Some, None}
use Rattle.law.specs.Justified.{wants_of}
use Rattle.worker_job.specs.Readings as reads
use Rattle.worker_job.specs.Inside.Marks.{ended}
use Rattle.worker_job.proofs.Wanted.{settling_only}
use Rattle.worker_job.proofs.Marked.{podded, known_by, found_by, settles_ended}
use Rattle.worker_job.proofs.reading.Reading.first_finished.Goals as goal

pub returns-in-None : goal.returns-in-None
returns-in-None c =
    let r = c.args.self.now in
    podded (reads.settling r) (ended r.job.now.views.pods r.object.now) (wants_of r.object.now) None (settling_only r) (settles_ended r)
    (found_by ended c.pods.ensures.looks c.pods.ensures.object (c.in-None.ensures.first (known_by ended c.pods.ensures.looks c.pods.ensures.object r.marks.now.settled c.requires.marked.marked.settled.first)))

pub returns-in-Some-find : goal.returns-in-Some-find
returns-in-Some-find c =
    let r = c.args.self.now in
    c.finished-in-Some-find.ensures
    ∙ podded (reads.settling r) (ended r.job.now.views.pods r.object.now) (wants_of r.object.now) (Some c.in-Some-find.want.now) (settling_only r) (settles_ended r)
    (found_by ended c.pods.ensures.looks c.pods.ensures.object (c.in-Some-find.ensures.first (known_by ended c.pods.ensures.looks c.pods.ensures.object r.marks.now.settled c.requires.marked.marked.settled.first)))

pub returns-in-Some : goal.returns-in-Some
returns-in-Some c =
    let r = c.args.self.now in
    c.finished.ensures
    ∙ podded (reads.settling r) (ended r.job.now.views.pods r.object.now) (wants_of r.object.now) (Some c.in-Some.want.now) (settling_only r) (settles_ended r) (sym c.in-Some.ensures)
