-- By the last look at the name.
use Rattle.std.proofs.Common.{sym, ap, ◌∙◌}
use Rattle.std.specs.Prelude.{Option, Some, None, Bool, is_none, option_map}
use Rattle.worker_job.specs.declared.job.SeenPod.{SeenPod}
use Rattle.worker_job.specs.Inside.{pod_told}
use Rattle.worker_job.specs.Inside.Marks.{notes_absent}
use Rattle.worker_job.proofs.Marked.{looks_told}
use Rattle.worker_job.proofs.marks.Pods.is_absent.Goals as goal

abbrev by_found : Option SeenPod → Bool
by_found o = is_none (option_map pod_told o)

pub returns-in-None : goal.returns-in-None
returns-in-None c =
    looks_told notes_absent c.args.self.now.looks.now c.args.self.now.object.now c.args.want.now c.in-Some.name.now None c.in-Some.ensures c.in-None.ensures

pub returns-in-None-found : goal.returns-in-None-found
returns-in-None-found c =
    sym (ap by_found c.in-None-found.is)
    ∙ looks_told notes_absent c.args.self.now.looks.now c.args.self.now.object.now c.args.want.now c.in-Some.name.now (Some c.in-Some-last.look.now) c.in-Some.ensures c.in-Some-last.ensures

pub returns-in-Some-found : goal.returns-in-Some-found
returns-in-Some-found c =
    sym (ap by_found c.in-Some-found.is)
    ∙ looks_told notes_absent c.args.self.now.looks.now c.args.self.now.object.now c.args.want.now c.in-Some.name.now (Some c.in-Some-last.look.now) c.in-Some.ensures c.in-Some-last.ensures
