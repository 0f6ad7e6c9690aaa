-- A runner: its jobs, of which it does the oldest, and the pod that it has read in it.
use Rattle.std.specs.Prelude.{ℕ, List, [], ◌∷◌, ◌++◌, map, drop, Option, None}
use Rattle.law.specs.Contents.{PodObject}
use Rattle.next_step.specs.Views.{Seen, nothing}
use Rattle.next_step.specs.Hands.{Given, for_pod, Hand}
use Rattle.pod_runner.specs.declared.runner.PodJob.{PodJob}

pub record Running : Type 0 where
  pub jobs : List PodJob
  pub pod : Option (Seen PodObject)

abbrev pub running : List PodJob → Option (Seen PodObject) → Running
running jobs pod = record { jobs = jobs; pod = pod }

-- without jobs
abbrev pub resting : Running
resting = running [] None

-- one job more
abbrev pub with_given : Running → PodJob → Running
with_given r job = record r { jobs = r.jobs ++ job ∷ [] }

-- the oldest job is over, and the next begins
abbrev pub with_next : Running → Running
with_next r = running (drop 1 r.jobs) None

abbrev pub given : PodJob → Given
given job = for_pod job.workflow job.node

-- as a hand of a schedule, with a lag
abbrev pub hand_of : ℕ → Running → Hand
hand_of lag r = record { jobs = map given r.jobs; views = nothing; pod = r.pod; lag = lag }
