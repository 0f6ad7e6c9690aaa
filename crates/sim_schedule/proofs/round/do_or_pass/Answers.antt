-- A job that found nothing to do is noted.
use Rattle.std.proofs.Common.{sym, ◌∙◌, subst}
use Rattle.wf_object.specs.Documents.{law_of}
use Rattle.run_laws.specs.Whole.{Ran}
use Rattle.sim_schedule.specs.declared.round.JobEnd.{JobEnd}
use Rattle.sim_schedule.specs.Inside.Jobs.{given, told}
use Rattle.sim_schedule.proofs.AtRest.{knows_at, noted}
use Rattle.sim_schedule.proofs.round.do_or_pass.Goals as goal

pub returns-in_ok-note-clause-resting : goal.returns-in_ok-note-clause-resting
returns-in_ok-note-clause-resting g c =
    let D = law_of c.args.document.now in
    let h = c.args.store.now.history in
    let i = c.do_job.new.store.history in
    knows_at D i c.note.new.self
    (noted D c.workflows_rest.ensures h i (given c.args.job.now) c.follow.new.self c.note.new.self
    (c.follow.ensures c.requires.resting) c.in_ok-note.ensures c.do_job.ensures.on.later
    (sym c.len.ensures ∙ c.if-len-entries.true ∙ c.len-entries.ensures)
    (λ lawful. subst (λ (e : JobEnd). Ran D h (given c.args.job.now) (told e) i) c.in-Went.is (c.in_ok-end.ensures.ran lawful)))
