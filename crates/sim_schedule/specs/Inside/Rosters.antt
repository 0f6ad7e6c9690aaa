-- The jobs that are kept of a history, and the ticks of what they work on.
use Rattle.std.specs.Prelude.{◌≡◌, ℕ, List, length, map, filter_map}
use Rattle.history.specs.History.{Extends}
use Rattle.law.specs.Documents.{Document}
use Rattle.law.specs.Contents.{Story, flow_of, pod_of}
use Rattle.law.specs.Justified.{IsLawful}
use Rattle.next_step.specs.Hands.{Given, for_flow, for_pod}
use Rattle.next_step.specs.Ticks.{pod_end, timers}
use Rattle.next_step.specs.Rounds.{submitted_by, created_by}
use Rattle.sim_schedule.specs.declared.roster.Roster.{Roster}
use Rattle.sim_schedule.specs.Inside.Jobs.{given, KnowsEnds}

-- they are those of a round that begins with this history
pub record IsOf (h : Story) (r : Roster) : Type 0 where
  pub workflows : map given r.workflows ≡ filter_map (λ e. submitted_by e.entry) h.events
  pub pods : map given r.pods ≡ filter_map (λ e. created_by h e.entry) h.events
  pub seen : r.seen ≡ length h.events

-- They are those of an earlier moment. That a pod which has ended stays so, and one before its end has not ended, is known of
-- lawful histories alone.
pub record Follows (D : Document) (h : Story) (r : Roster) : Type 0 where
  pub at : Story
  pub later : Extends h at
  pub seen : r.seen ≡ length at.events
  pub jobs : IsLawful D at → IsOf at r
  pub ends : IsLawful D at → KnowsEnds D at r.pods

-- the ticks of what a job works on
abbrev pub ticks_of : Document → Story → Given → List ℕ
ticks_of D h (for_flow w) = timers (flow_of h w)
ticks_of D h (for_pod w n) = pod_end (D.planned w n) (pod_of h w n)
