-- Pods, and the attempts of a pod with a retry
-- (Argo, "Retrying failed or errored steps"; field reference, `RetryStrategy`).
-- Due ticks, the most attempts without a limit, and what is transient are this project's own.
use Rattle.std.specs.Prelude.{ℕ, zero, suc, ◌-◌, List, [], ◌∷◌, Bool, true, false, not, ◌&&◌, ◌||◌, nat_le, Option, Some, None, length}
use Rattle.base_types.specs.Limits.{most_attempts}
use Rattle.tree_types.specs.declared.path.Sel.TheVariants.{Attempt}
use Rattle.tree_types.specs.declared.phase.Phase.{Phase}
use Rattle.tree_types.specs.declared.phase.Phase.TheVariants.{Running}
use Rattle.tree_types.specs.declared.node.Kind.TheVariants as kind
use Rattle.tree_types.specs.declared.node.Note.{Note}
use Rattle.tree_types.specs.declared.node.Note.TheVariants as note
use Rattle.tree_types.specs.declared.node.Node.{Node}
use Rattle.tree_types.specs.declared.outcome.Outcome.{Outcome}
use Rattle.tree_types.specs.declared.outcome.Outputs.{Outputs}
use Rattle.tree_types.specs.declared.want.Want.{Want}
use Rattle.tree_types.specs.declared.want.Want.TheVariants as want
use Rattle.tree_types.specs.Phases.{is_failed, is_error}
use Rattle.node_names.specs.declared.seg.Seg.TheVariants as seg
use Rattle.wf_manifest.specs.declared.templates.OutputDecl.{OutputDecl}
use Rattle.wf_manifest.specs.declared.templates.Policy.{Policy}
use Rattle.wf_manifest.specs.declared.templates.Policy.TheVariants.{OnFailure, OnError, Always, OnTransientError}
use Rattle.wf_manifest.specs.declared.templates.Backoff.{Backoff}
use Rattle.wf_manifest.specs.declared.templates.Retry.{Retry}
use Rattle.time_text.specs.Durations.{delay}
use Rattle.meaning.specs.declared.lines.Place.{Place}
use Rattle.meaning.specs.Answers.{path, Answers}
use Rattle.meaning.specs.Lines.{later, below, Made, nothing, row_of, asked, then_parts, no_outputs, node, made}
use Rattle.meaning.specs.Outputs.{completed, ended_node}

-- ---- a pod

abbrev pub outputs_of : Outcome → Outputs
outputs_of o = record { result = o.result; params = o.params }

-- a pod that ended so
abbrev pub ended_pod : Place → List OutputDecl → Note × Outcome → Made
ended_pod place declared o =
    made (ended_node place kind.Pod o.1.phase o.0 (outputs_of o.1) (completed declared (outputs_of o.1))) [] nothing

abbrev pub running_pod : Place → Made
running_pod place = made (node place kind.Pod Running note.None no_outputs) (want.Pod (path place.sels) ∷ []) nothing

abbrev pub pod_by : Place → List OutputDecl → Option (Note × Outcome) → Made
pod_by place declared None = running_pod place
pod_by place declared (Some o) = ended_pod place declared o

-- a pod has the outcome that is recorded for it, and runs before
abbrev pub pod_made : Answers → Place → List OutputDecl → Made
pod_made A place declared = pod_by place declared (A.outcome place)

-- ---- when another attempt follows

-- an Error that a retry of transient errors tries again; an Error for want of an output is none
abbrev pub is_transient : Outcome → Bool
is_transient o = is_error o.phase && o.transient

-- the policy tries an attempt of this phase again
abbrev pub retries : Policy → Phase → Bool → Bool
retries OnFailure phase transient = is_failed phase
retries OnError phase transient = is_error phase
retries Always phase transient = is_failed phase || is_error phase
retries OnTransientError phase transient = is_error phase && transient

-- less than `maxDuration` lies between the first attempt's begin and the last one's finish
abbrev pub in_time : Option ℕ → ℕ → ℕ → Bool
in_time None begin finish = true
in_time (Some most) begin finish = not (nat_le most (finish - begin))

abbrev pub time_left : Option Backoff → ℕ → ℕ → Bool
time_left None begin finish = true
time_left (Some b) begin finish = in_time b.max_duration begin finish

-- how many attempts may follow the first: without a limit all but one of the most
abbrev pub further_by : Option ℕ → ℕ
further_by None = most_attempts - 1
further_by (Some limit) = limit

abbrev pub further : Retry → ℕ
further r = further_by r.limit

-- the tick at which attempt k is due, where the one before it finished at this tick
abbrev pub due_tick : Option Backoff → ℕ → ℕ → ℕ
due_tick None finish k = finish
due_tick (Some b) finish k = later finish (delay b.duration b.factor k)

-- ---- the attempts that exist

-- they are all over where no further one can follow; otherwise the next may wait for a tick
pub record Attempts : Type 0 where
  pub all : List Made
  pub last : Made
  pub next : Option ℕ
  pub over : Bool

-- the last attempt, and whether it is over with it
abbrev pub ends_with : Made → Bool → Attempts
ends_with m over = record { all = m ∷ []; last = m; next = None; over = over }

-- the last attempt, which a further one follows at a tick
abbrev pub followed_at : Made → ℕ → Attempts
followed_at m tick = record { all = m ∷ []; last = m; next = Some tick; over = false }

-- an attempt and those that follow it
abbrev pub before_attempts : Made → Attempts → Attempts
before_attempts m rest = record rest { all = m ∷ rest.all }

-- the tick at which the first attempt began
abbrev pub first_begin : Option ℕ → Outcome → ℕ
first_begin None o = o.begin
first_begin (Some tick) o = tick

-- the place of attempt k
abbrev pub attempt : Place → ℕ → Place
attempt place k = below place (Attempt k) (seg.Attempt k)

-- the timer that the next attempt asks for, whose number is how many there are
abbrev pub next_timer : Place → List Made → Option ℕ → List Want
next_timer place ms None = []
next_timer place ms (Some tick) = want.Timer (path (attempt place (length ms)).sels) tick ∷ []

-- it has the last attempt's phase and outputs once no further one can follow
abbrev pub retry_node : Place → Attempts → Bool → Node
retry_node place a true = node place kind.Retry a.last.own.node.phase note.None a.last.own.node.outputs
retry_node place a false = node place kind.Retry Running note.None no_outputs

abbrev pub retry_by : Place → Attempts → Made
retry_by place a =
    made (retry_node place a a.over) [] (then_parts (row_of a.all) (asked (next_timer place a.all a.next)))

abbrev pub ended_attempt : Place → List OutputDecl → ℕ → Note × Outcome → Made
ended_attempt place declared k o = ended_pod (attempt place k) declared o

-- policy and `maxDuration` let a further attempt follow attempt k
abbrev pub follows : Place → List OutputDecl → Retry → Note × Outcome → ℕ → ℕ → Bool
follows place declared r o k begin =
    retries r.policy (ended_attempt place declared k o).own.node.phase (is_transient o.1)
    && time_left r.backoff begin o.1.finish

-- attempt k may start: its timer was due, or it needs none
abbrev pub may_start : Answers → Place → Option Backoff → ℕ → Bool
may_start A place None k = true
may_start A place (Some b) k = A.due (attempt place k).sels

module _ (A : Answers) (place : Place) (declared : List OutputDecl) (r : Retry) where
  -- attempt k, which a further one follows: it waits for its tick, or starts
  abbrev pub started_by : ℕ → Note × Outcome → ℕ → (ℕ → Attempts) → Bool → Attempts
  started_by k o begin rest false =
      followed_at (ended_attempt place declared k o) (due_tick r.backoff o.1.finish (suc k))
  started_by k o begin rest true = before_attempts (ended_attempt place declared k o) (rest begin)

  -- attempt k, and whether a further one follows it
  abbrev pub retried_by : ℕ → Note × Outcome → ℕ → (ℕ → Attempts) → Bool → Attempts
  retried_by k o begin rest false = ends_with (ended_attempt place declared k o) true
  retried_by k o begin rest true = started_by k o begin rest (may_start A place r.backoff (suc k))

  abbrev pub attempt_by : ℕ → Option ℕ → (ℕ → Attempts) → Option (Note × Outcome) → Attempts
  attempt_by k first rest None = ends_with (running_pod (attempt place k)) false
  attempt_by k first rest (Some o) =
      retried_by k o (first_begin first o.1) rest (follows place declared r o k (first_begin first o.1))

  -- the attempts from attempt k on, which n may follow
  -- `first` is the tick at which the first began, where it has ended
  abbrev pub attempts_from : ℕ → ℕ → Option ℕ → Attempts
  attempts_from zero k first =
      let m = pod_made A (attempt place k) declared in
      ends_with m m.own.finished
  attempts_from (suc n) k first =
      attempt_by k first (λ begin. attempts_from n (suc k) (Some begin)) (A.outcome (attempt place k))

  abbrev pub attempts : Attempts
  attempts = attempts_from (further r) 0 None

  -- a pod with a retry: its Retry node, and its attempts below
  abbrev pub retry_made : Made
  retry_made = retry_by place attempts
