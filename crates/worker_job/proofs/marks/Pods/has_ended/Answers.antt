-- By the last look at the name, and the pod that it found.
use Rattle.std.proofs.Common.{sym, ap, ◌∙◌}
use Rattle.std.specs.Prelude.{Option, Some, None, Bool, option_map, is_some}
use Rattle.next_step.specs.Views.{Look, found_in}
use Rattle.worker_job.specs.declared.job.SeenPod.{SeenPod}
use Rattle.worker_job.specs.Inside.{pod_told}
use Rattle.worker_job.specs.Inside.Marks.{has_ended}
use Rattle.worker_job.proofs.Marked.{looks_told, some_lent}
use Rattle.worker_job.proofs.marks.Pods.has_ended.Goals as goal

abbrev test : Option Look → Bool
test o = has_ended (found_in o)

abbrev by_found : Option SeenPod → Bool
by_found o = has_ended (option_map pod_told o)

pub returns-in-None : goal.returns-in-None
returns-in-None c =
    looks_told test c.args.self.now.looks.now c.args.self.now.object.now c.args.want.now c.in-Some.name.now None c.in-Some.ensures c.in-None.ensures

pub returns-in-None-found : goal.returns-in-None-found
returns-in-None-found c =
    sym (ap by_found c.in-None-found.is)
    ∙ looks_told test c.args.self.now.looks.now c.args.self.now.object.now c.args.want.now c.in-Some.name.now (Some c.in-Some-last.look.now) c.in-Some.ensures c.in-Some-last.ensures

pub returns-in-Some-found : goal.returns-in-Some-found
returns-in-Some-found c =
    c.is_some.ensures
    ∙ some_lent c.outcome.result
    ∙ ap (λ o. is_some o) c.outcome.ensures
    ∙ sym (ap by_found c.in-Some-found.is)
    ∙ looks_told test c.args.self.now.looks.now c.args.self.now.object.now c.args.want.now c.in-Some.name.now (Some c.in-Some-last.look.now) c.in-Some.ensures c.in-Some-last.ensures
