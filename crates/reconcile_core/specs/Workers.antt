-- A worker: its jobs, of which it does the oldest, and what it has read and noted in it.
use Rattle.std.specs.Prelude.{ℕ, List, [], ◌∷◌, ◌++◌, map, None}
use Rattle.law.specs.Documents.{Text}
use Rattle.next_step.specs.Views.{Views, nothing}
use Rattle.next_step.specs.Hands.{for_flow, Hand}

pub record Working : Type 0 where
  pub jobs : List Text
  pub views : Views

abbrev pub working : List Text → Views → Working
working jobs v = record { jobs = jobs; views = v }

-- without jobs
abbrev pub resting : Working
resting = working [] nothing

-- one job more; the first begins at once
abbrev pub with_given : Working → Text → Working
with_given k w = record k { jobs = k.jobs ++ w ∷ [] }

-- the oldest job is over, and the next begins
abbrev pub with_next : Working → Working
with_next k = working (others k.jobs) nothing
  where
    others : List Text → List Text
    others [] = []
    others (w ∷ ws) = ws

-- as a hand of a schedule, with a lag
abbrev pub hand_of : ℕ → Working → Hand
hand_of lag k = record { jobs = map for_flow k.jobs; views = k.views; pod = None; lag = lag }
