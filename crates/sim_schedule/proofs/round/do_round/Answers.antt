-- The workflows' jobs, then the pods'.
use Rattle.std.proofs.Common.{[], map, sym, subst}
use Rattle.lawful.proofs.Journals.{lawful_then}
use Rattle.wf_object.specs.Documents.{law_of}
use Rattle.sim_schedule.specs.Inside.Jobs.{given, KnowsEnds, AllWait}
use Rattle.sim_schedule.specs.Inside.Restings.{KnowsRest}
use Rattle.sim_schedule.proofs.Ends.{flow_ends, flows_all_wait, ends_stay}
use Rattle.sim_schedule.proofs.Doing.{round_done}
use Rattle.sim_schedule.proofs.Rosters.{follows_now}
use Rattle.sim_schedule.proofs.Submitting.{on}
use Rattle.sim_schedule.proofs.round.do_round.Goals as goal

pub returns-clause-done : goal.returns-clause-done
returns-clause-done g c = λ lawful.
    round_done c.rounds_are_done.ensures (law_of c.args.document.now) c.args.store.now.history c.do_jobs.new.store.history
    c.do_jobs-2.new.store.history c.new-round.result c.new-round.ensures c.follow.new.self
    (c.in_ok-follow.ensures.now lawful) c.as_slice.result.now c.as_slice-2.result.now
    c.as_slice.ensures c.as_slice-2.ensures c.do_jobs.new.round.full c.do_jobs.new.round.failed c.do_jobs-2.new.round.full
    c.do_jobs-2.new.round.failed
    (c.in_ok-do_jobs.ensures.done c.args.store.now.history [] lawful)
    (c.in_ok-do_jobs-2.ensures.done c.args.store.now.history (map given c.as_slice.result.now) (c.do_jobs.ensures.on.lawful lawful))

pub returns-clause-follows : goal.returns-clause-follows
returns-clause-follows g c =
    let on = on (law_of c.args.document.now) c.args.store.now.history c.do_jobs.new.store.history c.do_jobs-2.new.store.history
    c.do_jobs.ensures.on c.do_jobs-2.ensures.on in
    follows_now (law_of c.args.document.now) c.args.store.now.history c.do_jobs-2.new.store.history
    record c.follow.new.self { resting = c.do_jobs-2.new.resting } on.later c.in_ok-follow.ensures.seen
    (λ lawful. let is = c.in_ok-follow.ensures.now lawful in record { workflows = is.workflows; pods = is.pods; seen = is.seen })
    c.in_ok-follow.ensures.ends

pub do_jobs-requires-clause-resting : goal.do_jobs-requires-clause-resting
do_jobs-requires-clause-resting g c = subst (KnowsRest (law_of c.args.document.now) c.args.store.now.history) (sym c.in_ok-follow.ensures.resting) c.requires.resting

pub do_jobs-requires-clause-ends : goal.do_jobs-requires-clause-ends
do_jobs-requires-clause-ends g c = λ lawful. flow_ends (law_of c.args.document.now) c.args.store.now.history c.as_slice.result.now
    (subst (AllWait (law_of c.args.document.now) c.args.store.now.history) (sym c.as_slice.ensures) (flows_all_wait (law_of c.args.document.now) c.args.store.now.history c.follow.new.self (c.in_ok-follow.ensures.now lawful)))

pub do_jobs-requires-2-clause-ends : goal.do_jobs-requires-2-clause-ends
do_jobs-requires-2-clause-ends g c = λ lawful.
    let D = law_of c.args.document.now in
    let h = c.args.store.now.history in
    let mid = c.do_jobs.new.store.history in
    let on = c.do_jobs.ensures.on.later in
    ends_stay c.pods_wait.ensures D h mid on lawful c.as_slice-2.result.now
    (subst (KnowsEnds D h) (sym c.as_slice-2.ensures) (c.in_ok-follow.ensures.ends (lawful_then D mid h on lawful)))
