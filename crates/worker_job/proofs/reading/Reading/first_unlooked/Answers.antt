-- The first of those that are not known to have been looked at, or the one that alone was not.
use Rattle.std.proofs.Common.{◌∙◌, sym, subst}
use Rattle.std.specs.Prelude.{Some, None}
use Rattle.law.specs.Justified.{wants_of}
use Rattle.worker_job.specs.Readings as reads
use Rattle.worker_job.specs.Inside.Marks.{unread, IsReadMark}
use Rattle.worker_job.proofs.Wanted.{reading_only}
use Rattle.worker_job.proofs.Marked.{podded, known_by, found_by, reads_unread, reads_only}
use Rattle.worker_job.proofs.reading.Reading.first_unlooked.Goals as goal

pub returns-in-None : goal.returns-in-None
returns-in-None c =
    let r = c.args.self.now in
    let known = subst (IsReadMark r.job.now.views.pods r.object.now) c.in-First.is c.requires.marked.marked.read in
    podded (reads.reading r) (unread r.job.now.views.pods r.object.now) (wants_of r.object.now) None (reading_only r) (reads_unread r)
    (found_by unread c.pods.ensures.looks c.pods.ensures.object (c.in-None.ensures.first (known_by unread c.pods.ensures.looks c.pods.ensures.object c.in-First.known known.first)))

pub returns-in-Some-find : goal.returns-in-Some-find
returns-in-Some-find c =
    let r = c.args.self.now in
    let known = subst (IsReadMark r.job.now.views.pods r.object.now) c.in-First.is c.requires.marked.marked.read in
    c.unlooked-in-Some-find.ensures
    ∙ podded (reads.reading r) (unread r.job.now.views.pods r.object.now) (wants_of r.object.now) (Some c.in-Some-find.want.now) (reading_only r) (reads_unread r)
    (found_by unread c.pods.ensures.looks c.pods.ensures.object (c.in-Some-find.ensures.first (known_by unread c.pods.ensures.looks c.pods.ensures.object c.in-First.known known.first)))

pub returns-in-AllBut : goal.returns-in-AllBut
returns-in-AllBut c =
    let r = c.args.self.now in
    reads_only r c.in-AllBut.name (subst (IsReadMark r.job.now.views.pods r.object.now) c.in-AllBut.is c.requires.marked.marked.read)

pub returns-in-Some : goal.returns-in-Some
returns-in-Some c =
    let r = c.args.self.now in
    c.unlooked.ensures
    ∙ podded (reads.reading r) (unread r.job.now.views.pods r.object.now) (wants_of r.object.now) (Some c.in-Some.want.now) (reading_only r) (reads_unread r) (sym c.in-Some.ensures)
