-- The new entries, and the pods that had not ended.
use Rattle.std.proofs.Common.{◌∙◌, ap, filter_map, length, refl, sym, subst}
use Rattle.run_laws.specs.Pods.{still_open}
use Rattle.wf_object.specs.Documents.{law_of}
use Rattle.sim_schedule.specs.declared.jobs.Job.{Job}
use Rattle.sim_schedule.specs.Inside.Jobs.{given, KnowsEnds}
use Rattle.sim_schedule.proofs.Rosters.{brought_up, ends_now}
use Rattle.sim_schedule.proofs.roster.Roster.follow.Goals as goal

pub returns-clause-now : goal.returns-clause-now
returns-clause-now g c = λ lawful.
    let D = law_of c.args.document.now in
    let h = c.args.store.now.history in
    let known = subst (KnowsEnds D h) (sym c.replace-pods.ensures.value) (ends_now D h c.args.self.now c.requires c.pods_wait.ensures lawful) in
    let left = c.in_ok-self.ensures D lawful known in
    brought_up D h c.args.self.now c.requires c.finished_pods_stay.ensures lawful
    record { workflows = c.add_worker_jobs.new.jobs; pods = c.add_runner_jobs.new.jobs; resting = c.args.self.now.resting; seen = length c.as_slice-entries.result.now }
    c.as_slice-entries.result.now (c.as_slice-entries.ensures ∙ c.entries.ensures) c.in_ok-self.field-0
    (left.jobs ∙ ap (filter_map (λ (j : Job). still_open h (given j))) c.replace-pods.ensures.value)
    c.in_ok-add_worker_jobs.ensures c.in_ok-add_runner_jobs.ensures.jobs refl

pub returns-clause-ends : goal.returns-clause-ends
returns-clause-ends g c = λ lawful.
    let D = law_of c.args.document.now in
    let h = c.args.store.now.history in
    let known = subst (KnowsEnds D h) (sym c.replace-pods.ensures.value) (ends_now D h c.args.self.now c.requires c.pods_wait.ensures lawful) in
    c.in_ok-add_runner_jobs.ensures.ends (c.in_ok-self.ensures D lawful known).ends
