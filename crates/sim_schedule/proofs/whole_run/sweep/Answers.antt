-- Round by round, from the submissions on.
use Rattle.std.proofs.Common.{List, Option, subst, arith}
use Rattle.law.specs.Documents.{Text}
use Rattle.wf_object.specs.Documents.{law_of}
use Rattle.sim_schedule.specs.Inside.Turns.{TurnGives}
use Rattle.sim_schedule.proofs.AtRest.{knows_none}
use Rattle.sim_schedule.proofs.Rosters.{follows_first}
use Rattle.sim_schedule.proofs.Submitting.{on, kept_first, kept_on, kept_end, swept_by}
use Rattle.sim_schedule.proofs.whole_run.sweep.Goals as goal

pub rounds-init : goal.rounds-init
rounds-init g c =
    let D = law_of c.args.document.now in
    let h = c.submit_all.new.store.history in
    record {
      follows = follows_first D h c.in_ok-roster.roster c.in_ok-roster.ensures.jobs c.in_ok-roster.ensures.ends;
      resting = knows_none D h c.in_ok-roster.roster.resting c.in_ok-roster.ensures.resting;
      on = c.submit_all.ensures.on;
      rising = c.submit_all.ensures.rising;
      kept = λ lawful. kept_first c.runs_keep_pace.ensures D c.args.store.now.history h c.in_ok-submit_all.ensures.done;
    }

pub returns-in_err-full-clause-on : goal.returns-in_err-full-clause-on
returns-in_err-full-clause-on g c = on (law_of c.args.document.now) c.args.store.now.history c.rounds.store.history c.turn.new.store.history c.rounds.invariant.on c.turn.ensures.on

pub returns-in-Some-clause-on : goal.returns-in-Some-clause-on
returns-in-Some-clause-on g c = on (law_of c.args.document.now) c.args.store.now.history c.rounds.store.history c.turn.new.store.history c.rounds.invariant.on c.turn.ensures.on

pub rounds-preserved : goal.rounds-preserved
rounds-preserved g c = record {
  follows = c.in_ok-full.ensures.follows;
  resting = c.in_ok-full.ensures.resting;
  on = on (law_of c.args.document.now) c.args.store.now.history c.rounds.store.history c.turn.new.store.history c.rounds.invariant.on c.turn.ensures.on;
  rising = let before = c.rounds.invariant.rising in let here = c.turn.ensures.rising in omega (arith, before, here);
  kept = λ lawful. kept_on (law_of c.args.document.now) c.args.store.now.history c.rounds.store.history c.turn.new.store.history c.turn.ensures.on
      (c.in_ok-full.ensures.pace (c.rounds.invariant.on.lawful lawful)) (c.rounds.invariant.kept lawful);
}

pub returns-in-Some-clause-swept : goal.returns-in-Some-clause-swept
returns-in-Some-clause-swept g c = λ lawful.
    let now = c.rounds.invariant.on.lawful lawful in
    let kept = kept_on (law_of c.args.document.now) c.args.store.now.history c.rounds.store.history c.turn.new.store.history c.turn.ensures.on
    (c.in_ok-full.ensures.pace now) (c.rounds.invariant.kept lawful) in
    let over = subst (λ (o : Option (List Text)). TurnGives (law_of c.args.document.now) o c.turn.new.store.history) c.in-Some.is (c.in_ok-full.ensures.over now) in
    swept_by (law_of c.args.document.now) c.args.store.now.history c.turn.new.store.history c.in-Some.full c.end_with.result c.end_with.ensures
    (kept_end (law_of c.args.document.now) c.args.store.now.history c.turn.new.store.history c.in-Some.full kept over)
