-- It is not known what is left, and a content of another kind ends the job.
use Rattle.std.proofs.Common.{◌∙◌, sym, ap}
use Rattle.std.specs.Option.{option_copied}
use Rattle.tree_state.specs.declared.kinds.WantKind.TheVariants as kind
use Rattle.worker_job.specs.Inside.{saves_seen}
use Rattle.worker_job.specs.Inside.Saving.{is_left}
use Rattle.worker_job.proofs.Filing.{unknown_fits}
use Rattle.worker_job.proofs.OtherKinds.{none_by, no_caches}
use Rattle.worker_job.proofs.job.Job.keep_saves.Goals as goal

pub set_saves-requires-clause-to_save : goal.set_saves-requires-clause-to_save
set_saves-requires-clause-to_save c =
    let j = c.args.self.now in
    unknown_fits kind.Save (is_left j.workflow) c.unknown.result j.views.flow (saves_seen c.args.snapshot) c.unknown.ensures

pub returns-else-is_some-clause-after : goal.returns-else-is_some-clause-after
returns-else-is_some-clause-after c =
    no_caches c.args.self.now.views c.args.snapshot.key c.args.snapshot.version c.args.snapshot.tick c.args.snapshot.content c.requires
    (sym c.caches.ensures ∙ ap option_copied (none_by c.caches.result (sym c.is_some.ensures ∙ c.if-is_some.false)))
