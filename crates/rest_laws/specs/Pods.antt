-- Pods that are waited for, and the ticks at which they end as they are planned.
use Rattle.std.specs.Prelude.{◌≡◌, ℕ, Bool, true, nat_lt, Option, Some, None, option_to_list}
use Rattle.meaning.specs.Lines.{later}
use Rattle.history.specs.History.{Extends, clock_of}
use Rattle.law.specs.Documents.{Text, PlannedOutcome, Document}
use Rattle.law.specs.Contents.{PodObject, Story, pod_of}
use Rattle.law.specs.Justified.{IsLawful}
use Rattle.next_step.specs.Hands.{for_pod}
use Rattle.next_step.specs.Ticks.{pod_end}
use Rattle.next_step.specs.Rounds.{if_unfinished}
use Rattle.run_laws.specs.Whole.{went, Ran}

-- the tick at which a pod ends, if its end is planned
abbrev pub end_from : ℕ → Option PlannedOutcome → Option ℕ
end_from begin None = None
end_from begin (Some plan) = Some (later begin plan.seconds)

-- a pod stands, and this is its end
pub record EndsAt (D : Document) (h : Story) (w name : Text) (end : Option ℕ) : Type 0 where
  pub pod : PodObject
  pub stands : pod_of h w name ≡ Some pod
  pub planned : end ≡ end_from pod.begin (D.planned w name)

-- the end is not reached
abbrev pub is_ahead : ℕ → Option ℕ → Bool
is_ahead clock None = true
is_ahead clock (Some tick) = nat_lt clock tick

pub record PodsWait : Type 0 where
  -- a pod's end stays as it is
  pub stays :
      (D : Document) (h g : Story) (w name : Text) (end : Option ℕ) → Extends g h → IsLawful D g →
      EndsAt D h w name end → EndsAt D g w name end
  -- before its end a runner's job on it finds nothing to do
  pub idle :
      (D : Document) (h : Story) (w name : Text) (end : Option ℕ) → EndsAt D h w name end →
      is_ahead (clock_of h) end ≡ true → Ran D h (for_pod w name) went h
  -- and it has not ended
  pub unfinished :
      (D : Document) (h : Story) (w name : Text) (end : Option ℕ) → IsLawful D h → EndsAt D h w name end →
      is_ahead (clock_of h) end ≡ true → if_unfinished (for_pod w name) (pod_of h w name) ≡ Some (for_pod w name)
  -- as long as it has not ended, its end is the tick that it waits for
  pub next :
      (D : Document) (h : Story) (w name : Text) (end : Option ℕ) → EndsAt D h w name end →
      if_unfinished (for_pod w name) (pod_of h w name) ≡ Some (for_pod w name) →
      pod_end (D.planned w name) (pod_of h w name) ≡ option_to_list end
