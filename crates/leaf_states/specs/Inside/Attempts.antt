-- The attempts of a retry, one after the other.
use Rattle.std.specs.Prelude.{◌≡◌, ℕ, ◌+◌, ◌-◌, ◌<◌, List, [], ◌∷◌, ◌++◌, length, slice_get, Bool, true, false, Option, Some, None, unwrap_or, Result, Ok, Err}
use Rattle.tree_types.specs.declared.phase.Phase.{Phase}
use Rattle.tree_types.specs.declared.node.Note.{Note}
use Rattle.tree_types.specs.declared.outcome.Outcome.{Outcome}
use Rattle.tree_types.specs.declared.want.Want.{Want}
use Rattle.tree_types.specs.declared.want.Want.TheVariants as want
use Rattle.wf_manifest.specs.declared.templates.OutputDecl.{OutputDecl}
use Rattle.wf_manifest.specs.declared.templates.Retry.{Retry}
use Rattle.meaning.specs.declared.lines.Place.{Place}
use Rattle.meaning.specs.Answers.{path, Answers}
use Rattle.meaning.specs.Lines.{Parts, Made, made, row_of, asked, then_parts}
use Rattle.meaning.specs.Pods.{is_transient, further, Attempts, ends_with, attempt, attempts_from, pod_made, retry_node}
use Rattle.retry_policy.specs.declared.attempts.Tried.{Tried}
use Rattle.retry_policy.specs.declared.attempts.AttemptStep.{AttemptStep}
use Rattle.retry_policy.specs.declared.attempts.AttemptStep.TheVariants.{Over, At, Now}
use Rattle.retry_policy.specs.Attempts.{next_by}
use Rattle.tree_state.specs.Counting.{count}
use Rattle.tree_state.specs.declared.refused.TreeRefused.{TreeRefused}
use Rattle.tree_state.specs.declared.refused.TreeRefused.TheVariants.{TooLarge, Memory}
use Rattle.leaf_states.specs.declared.retries.Follow.{Follow}
use Rattle.leaf_states.specs.declared.retries.Follow.TheVariants.{Nothing, Waits, Starts}
use Rattle.leaf_states.specs.declared.retries.Attempted.{Attempted}
use Rattle.leaf_states.specs.declared.retries.Tries.{Tries}

-- ---- what follows an attempt

-- an attempt that ended so, whose node has this phase
abbrev pub tried : Phase → Outcome → Tried
tried phase o = record { phase = phase; transient = is_transient o; begin = o.begin; finish = o.finish }

abbrev pub follow_by : Tried → AttemptStep → Follow
follow_by first Over = Nothing true
follow_by first (At k tick) = Waits k tick
follow_by first (Now k) = Starts (Some first)

-- what follows an attempt that has ended, where the next one is attempt k and this one ended first
abbrev pub follow_first : Answers → Place → Retry → ℕ → Tried → Tried → Follow
follow_first A place r k first last =
    follow_by first (next_by r first last k (A.due (attempt place k).sels))

-- what follows an attempt whose node has this phase, where the next one is attempt k
abbrev pub follow_of : Answers → Place → Retry → ℕ → Option Tried → Phase → Option (Note × Outcome) → Follow
follow_of A place r k first phase None = Nothing false
follow_of A place r k first phase (Some o) =
    follow_first A place r k (unwrap_or first (tried phase o.1)) (tried phase o.1)

-- what follows attempt j, where the next one is attempt k
abbrev pub followed : Answers → Place → List OutputDecl → Retry → ℕ → ℕ → Option Tried → Follow
followed A place ds r j k first =
    let here = attempt place j in
    follow_of A place r k first (pod_made A here ds).own.node.phase (A.outcome here)

-- an attempt, for which the room is taken, and what follows it; or there is too little room for it
abbrev pub GivesAttempt : ℕ → ℕ → Result Attempted TreeRefused → Made → Follow → Type 0
GivesAttempt before after (Ok a) m f = (a.state ≡ m) × (a.follow ≡ f) × (after + count m ≡ before)
GivesAttempt before after (Err TooLarge) m f = before < count m
GivesAttempt before after (Err Memory) m f = Unit {0}

-- ---- all attempts

abbrev pub EndsAs : Follow → Attempts → Type 0
EndsAs (Nothing over) a = (a.next ≡ None) × (a.over ≡ over)
EndsAs (Waits k tick) a = (a.next ≡ Some tick) × (a.over ≡ false) × (k ≡ length a.all)
EndsAs (Starts first) a = ⊥

-- these are all attempts, and nothing else follows the last one
pub record AreAll (ms : List Made) (f : Follow) (a : Attempts) : Type 0 where
  pub all_is : ms ≡ a.all
  pub last_is : slice_get ms (length ms - 1) ≡ Some a.last
  pub ends : EndsAs f a

abbrev pub AreTries : Tries → Attempts → Type 0
AreTries t a = AreAll t.all t.follow a

-- the tick at which the first attempt began, where it has ended
abbrev pub begin_of : Option Tried → Option ℕ
begin_of None = None
begin_of (Some t) = Some t.begin

-- these attempts, and behind them others
abbrev pub behind : List Made → Attempts → Attempts
behind ms a = record a { all = ms ++ a.all }

-- these are the first of the attempts, and more follow
pub record AreFirst (A : Answers) (place : Place) (ds : List OutputDecl) (r : Retry) (ms : List Made) (first : Option Tried) (a : Attempts) : Type 0 where
  pub more : ℕ
  pub left : length ms + more ≡ further r
  pub same : behind ms (attempts_from A place ds r more (length ms) (begin_of first)) ≡ a

-- the attempts so far, and what follows the last of them
abbrev pub AreSoFar : Answers → Place → List OutputDecl → Retry → List Made → Follow → Attempts → Type 0
AreSoFar A place ds r ms (Starts first) a = AreFirst A place ds r ms first a
AreSoFar A place ds r ms (Nothing over) a = AreAll ms (Nothing over) a
AreSoFar A place ds r ms (Waits k tick) a = AreAll ms (Waits k tick) a

-- ---- the Retry node over them

abbrev pub is_over : Follow → Bool
is_over (Nothing over) = over
is_over _ = false

abbrev pub next_timer : Place → Follow → Option Want
next_timer place (Waits k tick) = Some (want.Timer (path (attempt place k).sels) tick)
next_timer place _ = None

abbrev pub timers : Option Want → List Want
timers None = []
timers (Some w) = w ∷ []

abbrev pub below_retry : List Made → Option Want → Parts
below_retry ms timer = then_parts (row_of ms) (asked (timers timer))

abbrev pub retry_over : Place → Made → List Made → Follow → Made
retry_over place last ms f =
    made (retry_node place (ends_with last (is_over f)) (is_over f)) [] (below_retry ms (next_timer place f))
