-- The jobs of the entries so far, behind those that were there.
use Rattle.std.proofs.Common.{◌≡◌, ◌++◌, map, filter_map, take}
use Rattle.next_step.specs.Rounds.{created_by}
use Rattle.wf_object.specs.Documents.{law_of}
use Rattle.sim_schedule.specs.Inside.Jobs.{given, KnowsEnds}
use Rattle.sim_schedule.proofs.jobs.add_runner_jobs.Given as goal

abbrev pub invariant-loop-entry : goal.invariant-loop-entry
invariant-loop-entry g l = record {
  jobs : map given l.jobs ≡ map given l.fn.jobs ++ filter_map (created_by l.store.history) (take l.entry-index l.entries);
  ends : KnowsEnds (law_of l.document) l.store.history l.fn.jobs → KnowsEnds (law_of l.document) l.store.history l.jobs;
}
