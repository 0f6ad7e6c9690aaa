-- The jobs of all entries.
use Rattle.std.proofs.Common.{List, ◌++◌, ◌∙◌, ap, map, length, refl}
use Rattle.sim_schedule.specs.declared.jobs.Job.{Job}
use Rattle.sim_schedule.specs.Inside.Jobs.{given, flows_in, pods_in}
use Rattle.sim_schedule.proofs.Rosters.{of_all}
use Rattle.sim_schedule.proofs.roster.Roster.of.Goals as goal

pub returns-clause-jobs : goal.returns-clause-jobs
returns-clause-jobs g c =
    of_all c.args.store.now.history
    record { workflows = c.add_worker_jobs.new.jobs; pods = c.add_runner_jobs.new.jobs; resting = c.new-roster.result.resting; seen = length c.as_slice-entries.result.now }
    c.as_slice-entries.result.now (c.as_slice-entries.ensures ∙ c.entries.ensures)
    (c.in_ok-add_worker_jobs.ensures ∙ ap (λ (js : List Job). map given js ++ flows_in c.as_slice-entries.result.now) c.new-roster.ensures.workflows)
    (c.in_ok-add_runner_jobs.ensures.jobs ∙ ap (λ (js : List Job). map given js ++ pods_in c.args.store.now.history c.as_slice-entries.result.now) c.new-roster.ensures.pods)
    refl
