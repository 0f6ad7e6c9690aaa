-- What was left is what the views tell, and a content of another kind ends the job.
use Rattle.std.proofs.Common.{◌∙◌, sym, ap, subst, option_and_then, List, Option}
use Rattle.std.specs.Option.{option_copied}
use Rattle.tree_types.specs.declared.want.Want.{Want}
use Rattle.worker_job.specs.Jobs.{OneJob}
use Rattle.worker_job.specs.Inside.{flow_seen, saves_seen}
use Rattle.worker_job.specs.Inside.Saving.{SavingFits}
use Rattle.worker_job.proofs.Saving.{in_saves}
use Rattle.worker_job.proofs.OtherKinds.{no_caches}
use Rattle.worker_job.proofs.job.Job.save_on.Goals as goal

pub left_to_save-requires-clause-fits : goal.left_to_save-requires-clause-fits
left_to_save-requires-clause-fits c =
    let a = c.self.inside in
    subst (λ (o : Option (List Want)). SavingFits o a.workflow (option_and_then flow_seen a.flow) (option_and_then saves_seen a.saves)) (sym c.replace-to_save.ensures.value)
    c.self.invariant.to_save

pub left_to_save-requires-clause-more : goal.left_to_save-requires-clause-more
left_to_save-requires-clause-more c = λ s viewed.
    c.requires.goes_on s c.in-Some.saves.now (ap (λ (j : OneJob). j.views.saves) (sym c.self.view_is) ∙ viewed) (sym c.in-Some.ensures)

pub set_saves-requires-clause-to_save : goal.set_saves-requires-clause-to_save
set_saves-requires-clause-to_save c =
    let a = c.self.inside in
    in_saves a.workflow (option_and_then flow_seen a.flow) c.args.snapshot c.in-Some.saves.now c.in_ok-to_save.to_save c.in-Some.ensures c.in_ok-to_save.ensures

pub returns-in_default-clause-after : goal.returns-in_default-clause-after
returns-in_default-clause-after c =
    no_caches c.args.self.now.views c.args.snapshot.key c.args.snapshot.version c.args.snapshot.tick c.args.snapshot.content c.requires.key
    (sym c.caches.ensures ∙ ap option_copied c.in_default.is)
