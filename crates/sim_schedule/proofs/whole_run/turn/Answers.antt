-- A round keeps the pace, and so does the tick behind it.
use Rattle.std.proofs.Common.{◌≡◌, ◌∙◌, sym, subst, rules}
use Rattle.next_step.specs.Rounds.{jobs_of, entries_in}
use Rattle.wf_object.specs.Documents.{law_of}
use Rattle.sim_schedule.specs.Inside.Jobs.{KnowsEnds}
use Rattle.sim_schedule.proofs.AtRest.{knows_later}
use Rattle.sim_schedule.proofs.Rosters.{of_same, follows_on}
use Rattle.sim_schedule.proofs.Submitting.{still_done, still_same}
use Rattle.sim_schedule.proofs.whole_run.turn.Goals as goal

pub returns-then-done-clause-pace : goal.returns-then-done-clause-pace
returns-then-done-clause-pace g c = λ lawful n.
    c.jobs_keep_pace.ensures.jobs (law_of c.args.document.now) c.args.store.now.history c.do_round.new.store.history
    (jobs_of c.args.store.now.history) c.in_ok-done.done.full c.in_ok-done.done.failed n (c.in_ok-done.ensures.done lawful)

pub returns-in-None-clause-pace : goal.returns-in-None-clause-pace
returns-in-None-clause-pace g c = λ lawful n.
    c.jobs_keep_pace.ensures.jobs (law_of c.args.document.now) c.args.store.now.history c.do_round.new.store.history
    (jobs_of c.args.store.now.history) c.in_ok-done.done.full c.in_ok-done.done.failed n (c.in_ok-done.ensures.done lawful)

pub returns-in_ok-move_clock-in-Some-clause-pace : goal.returns-in_ok-move_clock-in-Some-clause-pace
returns-in_ok-move_clock-in-Some-clause-pace g c = λ lawful n paced.
    let entries : entries_in c.do_round.new.store.history ≡ entries_in c.args.store.now.history = search rules in
    let done = still_done c.round_is_still.ensures (law_of c.args.document.now) c.args.store.now.history c.do_round.new.store.history
    c.in_ok-done.done.full c.in_ok-done.done.failed c.requires.valid lawful (c.in_ok-done.ensures.done lawful) c.if-done.false entries in
    let same = still_same c.round_is_still.ensures (law_of c.args.document.now) c.args.store.now.history c.do_round.new.store.history
    c.in_ok-done.done.full c.in_ok-done.done.failed c.requires.valid lawful (c.in_ok-done.ensures.done lawful) c.if-done.false entries in
    let known = subst (λ h. KnowsEnds (law_of c.args.document.now) h c.do_round.new.roster.pods) (sym same) (c.in_ok-done.ensures.ends lawful) in
    let next = sym (c.in_ok-next_after.ensures (of_same c.args.store.now.history c.do_round.new.store.history c.do_round.new.roster same
    (c.in_ok-done.ensures.jobs lawful)) known) ∙ c.in-Some.is in
    c.in_ok-move_clock-in-Some.ensures.pace next (c.do_round.ensures.on.lawful lawful) done n
    (c.jobs_keep_pace.ensures.jobs (law_of c.args.document.now) c.args.store.now.history c.do_round.new.store.history
    (jobs_of c.args.store.now.history) c.in_ok-done.done.full c.in_ok-done.done.failed n (c.in_ok-done.ensures.done lawful) paced)

pub returns-in_ok-move_clock-in-Some-clause-follows : goal.returns-in_ok-move_clock-in-Some-clause-follows
returns-in_ok-move_clock-in-Some-clause-follows g c =
    follows_on (law_of c.args.document.now) c.do_round.new.store.history c.move_clock.new.store.history c.do_round.new.roster
    c.move_clock.ensures.on.later c.in_ok-done.ensures.follows

pub returns-in_ok-move_clock-in-Some-clause-resting : goal.returns-in_ok-move_clock-in-Some-clause-resting
returns-in_ok-move_clock-in-Some-clause-resting g c =
    knows_later (law_of c.args.document.now) c.do_round.new.store.history c.move_clock.new.store.history c.do_round.new.roster.resting
    c.move_clock.ensures.on.later c.in_ok-done.ensures.resting
