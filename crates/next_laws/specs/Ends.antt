-- Jobs, rounds and runs that nobody disturbs end.
use Rattle.std.specs.Prelude.{◌≡◌, ℕ, ◌+◌, ◌*◌, ◌≤◌, List, length, Some}
use Rattle.history.specs.History.{grown}
use Rattle.meaning.specs.Trees.{most_nodes}
use Rattle.law.specs.Documents.{Document}
use Rattle.law.specs.Contents.{Story}
use Rattle.law.specs.Justified.{IsLawful}
use Rattle.law.specs.Due.{IsQuiet, IsPaced}
use Rattle.lawful.specs.Manifests.{HasValidWorkflows}
use Rattle.next_step.specs.Hands.{Given}
use Rattle.next_step.specs.Plays.{tick_event}
use Rattle.next_step.specs.Ticks.{next_tick}
use Rattle.next_step.specs.Rounds.{jobs_of, JobRan, JobsRan, entries_in, RunRan}
use Rattle.next_laws.specs.Sizes.{most_calls}

-- a whole job, the call that ends it too, in which so many entries come; so have these jobs one after the other
abbrev pub calls_within : Document → ℕ → ℕ → ℕ
calls_within D entries jobs = (entries + jobs) * (most_calls D most_nodes + 2)

-- these jobs leave a lawful history, in which so many more entries are, and have made so few calls
pub record Within (D : Document) (h g : Story) (jobs calls : ℕ) : Type 0 where
  pub lawful : IsLawful D g
  pub entries : ℕ
  pub more : entries_in g ≡ entries_in h + entries
  pub bounded : calls ≤ calls_within D entries jobs

pub record RoundsEnd : Type 0 where
  -- a job
  pub job :
      (D : Document) (h g : Story) (given : Given) (calls faults : ℕ) → HasValidWorkflows D → IsLawful D h →
      JobRan D h given calls faults g → Within D h g 1 calls
  -- some jobs, as those of a round are
  pub round :
      (D : Document) (h g : Story) (jobs : List Given) (calls faults : ℕ) → HasValidWorkflows D → IsLawful D h →
      JobsRan D h jobs calls faults g → Within D h g (length jobs) calls
  -- a run has at most one round more than entries and faults
  pub run :
      (D : Document) (h g : Story) (rounds faults : ℕ) → HasValidWorkflows D → IsLawful D h →
      RunRan D h rounds faults g → rounds + entries_in h ≤ entries_in g + faults + 1

-- and leaves a lawful history in which nothing is due, and nothing will be at a later tick
abbrev pub RunEndsQuiet : Type 0
RunEndsQuiet =
    (D : Document) (h g : Story) (rounds faults : ℕ) → HasValidWorkflows D → IsLawful D h →
    RunRan D h rounds faults g → IsLawful D g × IsQuiet D g

-- What a run keeps of the pace, from so many entries on: none of these is a tick; no job moves the clock; and after a round
-- without an entry and without a fault it goes to the next tick.
pub record RunsKeepPace : Type 0 where
  pub begin : (D : Document) (h : Story) → IsPaced D (entries_in h) h
  pub jobs :
      (D : Document) (h g : Story) (jobs : List Given) (calls faults n : ℕ) → JobsRan D h jobs calls faults g →
      IsPaced D n h → IsPaced D n g
  pub tick :
      (D : Document) (h : Story) (calls t n : ℕ) → HasValidWorkflows D → IsLawful D h →
      JobsRan D h (jobs_of h) calls 0 h → next_tick D h ≡ Some t → IsPaced D n h →
      IsPaced D n (grown h (tick_event t))
