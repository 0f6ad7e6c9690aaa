-- A round in which no entry came and no call failed.
use Rattle.std.specs.Prelude.{◌≡◌, ℕ, Bool, false, List, [], ◌∷◌, Some, None}
use Rattle.history.specs.History.{grown}
use Rattle.law.specs.Documents.{Text, Document}
use Rattle.law.specs.Contents.{Flow, Story, HasFlow}
use Rattle.law.specs.Justified.{IsLawful}
use Rattle.law.specs.Due.{IsFull, IsQuiet, IsPaced}
use Rattle.lawful.specs.Manifests.{HasValidWorkflows}
use Rattle.next_step.specs.Ticks.{next_tick}
use Rattle.next_step.specs.Hands.{Given}
use Rattle.next_step.specs.Plays.{tick_event}
use Rattle.next_step.specs.Rounds.{jobs_of, entries_in}
use Rattle.run_laws.specs.Submissions.{submitted}
use Rattle.run_laws.specs.Rounds.{JobsDone}

-- the workflow of this name is full
pub record IsFullFlow (D : Document) (h : Story) (w : Text) : Type 0 where
  pub flow : Flow
  pub stands : HasFlow h w flow
  pub full : IsFull D h w flow

-- the second names are the full ones of the first, in their order
pub data Fulls (D : Document) (h : Story) : List Text → List Text → Type 0 where
  none : Fulls D h [] []
  full : {w : Text} {ws ns : List Text} → IsFullFlow D h w → Fulls D h ws ns → Fulls D h (w ∷ ws) (w ∷ ns)
  other : {w : Text} {ws ns : List Text} → (IsFullFlow D h w → ⊥) → Fulls D h ws ns → Fulls D h (w ∷ ws) ns

-- the history is as it was, and the full workflows are known
pub record StillEnd (D : Document) (h g : Story) (full : List Text) : Type 0 where
  pub same : g ≡ h
  pub fulls : Fulls D h (submitted h) full

abbrev pub RoundIsStill : Type 0
RoundIsStill =
    (D : Document) (h g : Story) (full : List Text) → HasValidWorkflows D → IsLawful D h →
    JobsDone D h (jobs_of h) g full false → entries_in g ≡ entries_in h → StillEnd D h g full

-- where no tick follows, the state is quiet
abbrev pub LastRoundIsQuiet : Type 0
LastRoundIsQuiet =
    (D : Document) (h : Story) (full : List Text) → HasValidWorkflows D → IsLawful D h →
    JobsDone D h (jobs_of h) h full false → next_tick D h ≡ None → IsQuiet D h

-- no job moves the clock, and after such a round it goes to the next tick
pub record JobsKeepPace : Type 0 where
  pub jobs :
      (D : Document) (h g : Story) (js : List Given) (full : List Text) (failed : Bool) (n : ℕ) →
      JobsDone D h js g full failed → IsPaced D n h → IsPaced D n g
  pub tick :
      (D : Document) (h : Story) (full : List Text) (t n : ℕ) → HasValidWorkflows D → IsLawful D h →
      JobsDone D h (jobs_of h) h full false → next_tick D h ≡ Some t → IsPaced D n h →
      IsPaced D n (grown h (tick_event t))
