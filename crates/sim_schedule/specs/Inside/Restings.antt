-- What is known of the workflows at rest.
use Rattle.std.specs.Prelude.{◌≡◌, ◌⊎◌, ℕ, Bool, false, bytes_eq, List, [], length, None, IsTrue}
use Rattle.std.specs.List.{list_any}
use Rattle.tree_types.specs.declared.entry.Entry.{Entry}
use Rattle.history.specs.History.{Extends, clock_of}
use Rattle.law.specs.Documents.{Text, Command, Document}
use Rattle.law.specs.Contents.{Story, flow_of}
use Rattle.law.specs.Justified.{IsLawful}
use Rattle.lawful.specs.Manifests.{HasValidWorkflows}
use Rattle.next_step.specs.Hands.{Given, for_flow}
use Rattle.next_step.specs.Ticks.{timers, least_above}
use Rattle.rest_laws.specs.Rest.{Rests, IsAsleep, concerns, falls_between}
use Rattle.sim_schedule.specs.declared.resting.Resting.{Resting}

-- it rests until the clock moves
abbrev pub rests_in : Text → Resting → Bool
rests_in name r = list_any (bytes_eq name) r.names.keys

-- no timer wakes it
abbrev pub sleeps_in : Text → Resting → Bool
sleeps_in name r = list_any (bytes_eq name) r.asleep.keys

-- none rests, and no entry was looked at
pub record RestsNone (r : Resting) : Type 0 where
  pub names : r.names.keys ≡ []
  pub asleep : r.asleep.keys ≡ []
  pub seen : r.seen ≡ 0
  pub clock : r.clock ≡ 0

-- what was looked at is as it was
pub record SameSight (old new : Resting) : Type 0 where
  pub seen : new.seen ≡ old.seen
  pub clock : new.clock ≡ old.clock

-- those that these entries concern rest no more, and no other comes
pub record WakesAll (es : List Entry) (old new : Resting) : Type 0 where
  pub sight : SameSight old new
  pub rest :
      (name : Text) → IsTrue (rests_in name new) → IsTrue (rests_in name old) × (list_any (concerns name) es ≡ false)
  pub sleep :
      (name : Text) → IsTrue (sleeps_in name new) → IsTrue (sleeps_in name old) × (list_any (concerns name) es ≡ false)

-- this one rests no more, and no other comes
pub record Wakes (w : Text) (old new : Resting) : Type 0 where
  pub sight : SameSight old new
  pub rest : (name : Text) → IsTrue (rests_in name new) → IsTrue (rests_in name old) × (bytes_eq name w ≡ false)
  pub sleep : (name : Text) → IsTrue (sleeps_in name new) → IsTrue (sleeps_in name old) × (bytes_eq name w ≡ false)

-- the clock is at this tick now: where it moved, only those rest that no timer wakes, and those only if no command does
pub record MovesOn (now : ℕ) (commands : List Command) (old new : Resting) : Type 0 where
  pub seen : new.seen ≡ old.seen
  pub clock : new.clock ≡ now
  pub rest : (name : Text) → IsTrue (rests_in name new) → IsTrue (rests_in name old) × (now ≡ old.clock)
  pub sleep :
      (name : Text) → IsTrue (sleeps_in name new) →
      IsTrue (sleeps_in name old) × (list_any (falls_between old.clock now) commands ≡ false)

-- this history has no timer ahead for the workflow
abbrev pub NoTimerAhead : Story → Text → Type 0
NoTimerAhead h w = least_above (clock_of h) (timers (flow_of h w)) ≡ None

-- the workflow of this job is another that rests
pub record Notes (h : Story) (job : Given) (old new : Resting) : Type 0 where
  pub sight : SameSight old new
  pub rest : (name : Text) → IsTrue (rests_in name new) → IsTrue (rests_in name old) ⊎ (job ≡ for_flow name)
  pub sleep :
      (name : Text) → IsTrue (sleeps_in name new) →
      IsTrue (sleeps_in name old) ⊎ ((job ≡ for_flow name) × NoTimerAhead h name)

-- they rest by all entries of a history
pub record KnowsNow (D : Document) (h : Story) (r : Resting) : Type 0 where
  pub seen : r.seen ≡ length h.events
  pub clock : r.clock ≡ clock_of h
  pub rest : (w : Text) → HasValidWorkflows D → IsLawful D h → IsTrue (rests_in w r) → Rests D h w
  pub sleep : (w : Text) → HasValidWorkflows D → IsLawful D h → IsTrue (sleeps_in w r) → IsAsleep D h w

-- they rested at an earlier moment
pub record KnowsRest (D : Document) (h : Story) (r : Resting) : Type 0 where
  pub at : Story
  pub later : Extends h at
  pub known : KnowsNow D at r
