-- Why the state is quiet after a last round, and why rounds keep the pace.
use Rattle.std.proofs.Common.{false, List, subst}
use Rattle.law.specs.Documents.{Text, Document}
use Rattle.law.specs.Contents.{Story}
use Rattle.next_step.specs.Rounds.{jobs_of, JobsRan, last_round}
use Rattle.next_laws.proofs.RunsQuiet.{run_ends_quiet}
use Rattle.next_laws.proofs.Pacing.{runs_keep_pace}
use Rattle.run_laws.specs.Rounds.{JobsDone}
use Rattle.run_laws.specs.Fulls.{LastRoundIsQuiet, JobsKeepPace}
use Rattle.run_laws.proofs.StillRounds.{no_faults}

-- none of its calls failed
ran_well : (D : Document) (h : Story) (full : List Text) → (d : JobsDone D h (jobs_of h) h full false) → JobsRan D h (jobs_of h) d.calls 0 h
ran_well D h full d = subst (λ n. JobsRan D h (jobs_of h) d.calls n h) (no_faults d.faults d.has_failed) d.ran

pub last_round_is_quiet : LastRoundIsQuiet
last_round_is_quiet D h full valid l d none = (run_ends_quiet D h h 1 0 valid l (last_round (ran_well D h full d) none)).1

pub jobs_keep_pace : JobsKeepPace
jobs_keep_pace = record {
  jobs = λ D h g js full failed n d p. runs_keep_pace.jobs D h g js d.calls d.faults n d.ran p;
  tick = λ D h full t n valid l d e p. runs_keep_pace.tick D h d.calls t n valid l (ran_well D h full d) e p;
}
