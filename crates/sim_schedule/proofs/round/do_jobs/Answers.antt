-- One job more.
use Rattle.std.proofs.Common.{◌++◌, map, take, refl, arith}
use Rattle.wf_object.specs.Documents.{law_of}
use Rattle.sim_schedule.specs.Inside.Jobs.{given}
use Rattle.lawful.proofs.Journals.{lawful_then}
use Rattle.sim_schedule.proofs.Doing.{none_yet, one_more, all_done}
use Rattle.sim_schedule.proofs.Ends.{knows_one, end_stays}
use Rattle.sim_schedule.proofs.Submitting.{stays, on}
use Rattle.sim_schedule.proofs.round.do_jobs.Goals as goal

pub loop-job-init : goal.loop-job-init
loop-job-init g c = record {
  on = stays (law_of c.args.document.now) c.args.store.now.history c.args.store.now.history refl;
  rising = omega arith;
  resting = c.requires.resting;
  done = λ start before lawful done. none_yet (law_of c.args.document.now) start before c.args.store.now.history c.args.round.now.full c.args.round.now.failed done;
}

pub add-requires-clause-ends : goal.add-requires-clause-ends
add-requires-clause-ends g c = λ lawful.
    let D = law_of c.args.document.now in
    let on = c.loop-job.invariant.on.later in
    end_stays c.pods_wait.ensures D c.args.store.now.history c.loop-job.store.history on lawful c.job-item.result
    (knows_one D c.args.store.now.history c.args.jobs.now c.loop-job.job-index c.job-item.result c.loop-job-test.true c.job-item.is
    (c.requires.ends (lawful_then D c.loop-job.store.history c.args.store.now.history on lawful)))

pub loop-job-preserved : goal.loop-job-preserved
loop-job-preserved g c = record {
  on = on (law_of c.args.document.now) c.args.store.now.history c.loop-job.store.history c.add.new.store.history c.loop-job.invariant.on c.add.ensures.on;
  rising = let before = c.loop-job.invariant.rising in let here = c.add.ensures.rising in omega (arith, before, here);
  resting = c.in_ok-add.ensures.resting;
  done = λ start before lawful done.
      one_more (law_of c.args.document.now) start before c.add.new.store.history c.add.new.self.full c.add.new.self.failed
      c.args.jobs.now c.loop-job.job-index c.job-item.result c.loop-job-test.true c.job-item.is
      (c.in_ok-add.ensures.done start (before ++ map given (take c.loop-job.job-index c.args.jobs.now))
      (c.loop-job.invariant.on.lawful lawful) (c.loop-job.invariant.done start before lawful done));
}

pub returns-clause-done : goal.returns-clause-done
returns-clause-done g c = λ start before lawful done.
    all_done (law_of c.args.document.now) start before c.loop-job.store.history c.loop-job.round.full c.loop-job.round.failed
    c.args.jobs.now c.loop-job.job-index c.loop-job-test.false c.loop-job.auto.job-index-end
    (c.loop-job.invariant.done start before lawful done)
