-- What is kept is what was found.
use Rattle.std.proofs.Common.{map, sym, ap, ◌∙◌}
use Rattle.std.specs.Prelude.{option_copied}
use Rattle.worker_job.specs.Inside.{look_told}
use Rattle.worker_job.specs.declared.marks.Sought.TheVariants.{Ended, Absent}
use Rattle.worker_job.proofs.Firsts.{found_kept}
use Rattle.worker_job.proofs.marks.Pods.advanced.Goals as goal

pub returns-in-Some-ended-clause-found : goal.returns-in-Some-ended-clause-found
returns-in-Some-ended-clause-found c =
    found_kept (map look_told c.args.self.now.looks.now) c.args.self.now.object.now Ended c.in-Some-ended.want.now c.kept-in-Some-ended.result c.kept-in-Some-ended.ensures
    (sym c.first-settled.ensures.found ∙ ap option_copied c.in-Some-ended.is)

pub returns-in-Some-absent-clause-found : goal.returns-in-Some-absent-clause-found
returns-in-Some-absent-clause-found c =
    found_kept (map look_told c.args.self.now.looks.now) c.args.self.now.object.now Absent c.in-Some-absent.want.now c.kept-in-Some-absent.result c.kept-in-Some-absent.ensures
    (sym c.first-created.ensures.found ∙ ap option_copied c.in-Some-absent.is)
