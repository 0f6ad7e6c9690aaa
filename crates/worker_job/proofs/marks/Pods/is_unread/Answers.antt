-- By the last look at the name.
use Rattle.std.specs.Prelude.{Some, None, is_none}
use Rattle.worker_job.proofs.Marked.{looks_told}
use Rattle.worker_job.proofs.marks.Pods.is_unread.Goals as goal

pub returns-in-None-last : goal.returns-in-None-last
returns-in-None-last c =
    looks_told is_none c.args.self.now.looks.now c.args.self.now.object.now c.args.want.now c.in-Some.name.now None c.in-Some.ensures c.in-None-last.ensures

pub returns-in-Some-last : goal.returns-in-Some-last
returns-in-Some-last c =
    looks_told is_none c.args.self.now.looks.now c.args.self.now.object.now c.args.want.now c.in-Some.name.now (Some c.in-Some-last.field-0.now) c.in-Some.ensures c.in-Some-last.ensures
