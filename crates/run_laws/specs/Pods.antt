-- The unfinished pods, as a history goes on: those that were unfinished and still are, then the new ones.
use Rattle.std.specs.Prelude.{◌≡◌, List, ◌++◌, filter_map, Option, Some, None}
use Rattle.history.specs.History.{Event, Extends}
use Rattle.law.specs.Documents.{Text, Document}
use Rattle.law.specs.Contents.{PodObject, Content, Story, pod_of}
use Rattle.law.specs.Justified.{IsLawful}
use Rattle.next_step.specs.Hands.{Given, for_flow, for_pod}
use Rattle.next_step.specs.Rounds.{if_unfinished, created_by}

-- a runner's job, where its pod is unfinished
abbrev pub still_open : Story → Given → Option Given
still_open g (for_pod w name) = if_unfinished (for_pod w name) (pod_of g w name)
still_open g (for_flow w) = None

-- the runners' jobs of these entries
abbrev pub created_jobs : Story → List (Event Content) → List Given
created_jobs h es = filter_map (λ e. created_by h e.entry) es

-- the history with these entries more
abbrev pub followed : Story → List (Event Content) → Story
followed h es = record { start = h.start; events = h.events ++ es }

pub record UnfinishedPods : Type 0 where
  -- a pod that has ended stays so
  pub finished_stays :
      (h g : Story) (w n : Text) (pod : PodObject) → Extends g h → pod_of h w n ≡ Some pod →
      (pod.outcome ≡ None → ⊥) → if_unfinished (for_pod w n) (pod_of g w n) ≡ None
  -- so only the pods that were unfinished, and those that are new, need be looked at
  pub jobs_go_on :
      (D : Document) (h : Story) (es : List (Event Content)) → IsLawful D h →
      created_jobs (followed h es) (followed h es).events
      ≡ filter_map (still_open (followed h es)) (created_jobs h h.events) ++ created_jobs (followed h es) es
