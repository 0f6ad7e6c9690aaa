-- What a schedule plays: its steps, what each does to the hands and to the history, and the notes of the calls.
use Rattle.std.specs.Prelude.{◌≡◌, ℕ, ◌<◌, ◌≤◌, List, [], ◌∷◌, ◌++◌, length, Some, None, slice_get, slice_set}
use Rattle.tree_types.specs.declared.fact.Fact.{Fact}
use Rattle.tree_types.specs.declared.outcome.Outcome.{Outcome}
use Rattle.tree_types.specs.declared.entry.Key.{Key}
use Rattle.tree_types.specs.declared.entry.Key.TheVariants as of_key
use Rattle.tree_types.specs.declared.entry.Entry.TheVariants.{Tick}
use Rattle.meaning.specs.Answers.{Facts}
use Rattle.history.specs.History.{Event, event, grown, clock_of}
use Rattle.history.specs.Versions.{back_of, lag_after}
use Rattle.law.specs.Documents.{Text, Document}
use Rattle.law.specs.Contents.{Flow, PodObject, Content, Story}
use Rattle.law.specs.Due.{Matter, record_fact, IsTooLarge}
use Rattle.next_step.specs.Views.{Seen}
use Rattle.next_step.specs.Next.{get, act, done, worker_next}
use Rattle.next_step.specs.Changes.{Change, change_of, AddsFor}
use Rattle.next_step.specs.Replies.{Reply, after}
use Rattle.next_step.specs.Runner.{RunNext, read, finish, already_finished, no_outcome, not_due, runner_next, finish_change}
use Rattle.next_step.specs.Calls.{Did}
use Rattle.next_step.specs.Backward.{GotBack}
use Rattle.next_step.specs.Hands.{Given, for_flow, for_pod, Hand, fresh_hand, idle_hand, with_job, with_reply, CallNote, note, op_get, op_tick, op_of, was_accepted, was_behind, has_failed, answer_of}

-- ---- one step of a hand

-- a runner ends its job without a call
abbrev pub EndsJob : RunNext → Type 0
EndsJob read = ⊥
EndsJob (finish o) = ⊥
EndsJob already_finished = Unit {0}
EndsJob no_outcome = Unit {0}
EndsJob (not_due tick) = Unit {0}

abbrev pub get_note : ℕ → Key → Reply → List CallNote
get_note i k r = note i (op_get k) (answer_of r) ∷ []

abbrev pub change_note : ℕ → Change → Reply → List CallNote
change_note i c r = note i (op_of c) (answer_of r) ∷ []

-- The hand of this number makes one step at a history: these notes, this history after it, and the hand after it.
module _ (D : Document) (h : Story) (i : ℕ) (a : Hand) where
  pub data Stepped : List CallNote → Story → Hand → Type 0 where
    -- without a job it does nothing
    has_none : a.jobs ≡ [] → Stepped [] h a
    -- a worker reads, makes a change, or ends its job; a fact that makes too large a tree is not written
    gets :
        (w : Text) (others : List Given) (k : Key) (r : Reply) → a.jobs ≡ for_flow w ∷ others →
        worker_next D w a.views ≡ get k → GotBack h (back_of k a.lag) k r →
        Stepped (get_note i k r) h (with_job (after a.views (get k) r) a.jobs others (lag_after k a.lag))
    changes :
        (w : Text) (others : List Given) (m : Matter) (s : Seen Flow) (facts : Facts) (r : Reply) (g : Story) →
        a.jobs ≡ for_flow w ∷ others → worker_next D w a.views ≡ act m → a.views.flow ≡ Some s →
        AddsFor s facts m → Did h (change_of w a.views s facts m) r g →
        Stepped (change_note i (change_of w a.views s facts m) r) g
        (with_job (after a.views (act m) r) a.jobs others a.lag)
    is_full :
        (w : Text) (others : List Given) (x : Fact) (s : Seen Flow) → a.jobs ≡ for_flow w ∷ others →
        worker_next D w a.views ≡ act (record_fact x) → a.views.flow ≡ Some s → IsTooLarge s.content x →
        Stepped [] h (fresh_hand others a.lag)
    is_done :
        (w : Text) (others : List Given) → a.jobs ≡ for_flow w ∷ others → worker_next D w a.views ≡ done →
        Stepped [] h (fresh_hand others a.lag)
    -- a runner reads its pod, finishes it, or ends its job
    gets_pod :
        (w name : Text) (others : List Given) (r : Reply) → a.jobs ≡ for_pod w name ∷ others → a.pod ≡ None →
        GotBack h a.lag (of_key.Pod w name) r →
        Stepped (get_note i (of_key.Pod w name) r) h (with_reply r a.jobs others 0)
    finishes :
        (w name : Text) (others : List Given) (x : Seen PodObject) (o : Outcome) (r : Reply) (g : Story) →
        a.jobs ≡ for_pod w name ∷ others → a.pod ≡ Some x → runner_next D w name (Some x) ≡ finish o →
        Did h (finish_change w name x o) r g →
        Stepped (change_note i (finish_change w name x o) r) g (fresh_hand others a.lag)
    ends :
        (w name : Text) (others : List Given) (x : Seen PodObject) → a.jobs ≡ for_pod w name ∷ others →
        a.pod ≡ Some x → EndsJob (runner_next D w name (Some x)) → Stepped [] h (fresh_hand others a.lag)

-- ---- schedules

-- a step of a schedule, of the hand of a number
pub data ScheduleStep : Type 0 where
  give_job : ℕ → Given → ScheduleStep
  make_step : ℕ → ScheduleStep
  restart : ℕ → ScheduleStep
  set_lag : ℕ → ℕ → ScheduleStep
  set_clock : ℕ → ScheduleStep

-- the history and the hands between two steps
pub record Stage : Type 0 where
  pub story : Story
  pub hands : List Hand

abbrev pub stage : Story → List Hand → Stage
stage h hands = record { story = h; hands = hands }

-- another hand stands at this number
abbrev pub with_hand : Stage → Story → ℕ → Hand → Stage
with_hand p h i a = stage h (slice_set p.hands i a)

abbrev pub HasHand : Stage → ℕ → Hand → Type 0
HasHand p i a = slice_get p.hands i ≡ Some a

abbrev pub tick_event : ℕ → Event Content
tick_event tick = event (Tick tick) None

-- One step of a schedule is played. A tick that is not above the clock is behind and changes nothing; its note has a
-- number that no hand has.
pub data Plays (D : Document) (p : Stage) : ScheduleStep → List CallNote → Stage → Type 0 where
  gave :
      (i : ℕ) (job : Given) (a : Hand) → HasHand p i a →
      Plays D p (give_job i job) [] (with_hand p p.story i (record a { jobs = a.jobs ++ job ∷ [] }))
  stepped :
      (i : ℕ) (a b : Hand) (notes : List CallNote) (g : Story) → HasHand p i a → Stepped D p.story i a notes g b →
      Plays D p (make_step i) notes (with_hand p g i b)
  restarted : (i : ℕ) (a : Hand) → HasHand p i a → Plays D p (restart i) [] (with_hand p p.story i idle_hand)
  lagged :
      (i back : ℕ) (a : Hand) → HasHand p i a →
      Plays D p (set_lag i back) [] (with_hand p p.story i (record a { lag = back }))
  ticked :
      (tick : ℕ) → clock_of p.story < tick →
      Plays D p (set_clock tick) (note (length p.hands) (op_tick tick) (was_accepted tick) ∷ [])
      (stage (grown p.story (tick_event tick)) p.hands)
  stayed :
      (tick : ℕ) → tick ≤ clock_of p.story →
      Plays D p (set_clock tick) (note (length p.hands) (op_tick tick) (was_behind (clock_of p.story)) ∷ []) p
  failed : (tick : ℕ) → Plays D p (set_clock tick) (note (length p.hands) (op_tick tick) has_failed ∷ []) p

-- the steps of a schedule, one after the other
pub data Played (D : Document) : Stage → List ScheduleStep → List CallNote → Stage → Type 0 where
  over : {p : Stage} → Played D p [] [] p
  step :
      {p q r : Stage} {os : List ScheduleStep} {ms ns : List CallNote} (o : ScheduleStep) → Plays D p o ms q →
      Played D q os ns r → Played D p (o ∷ os) (ms ++ ns) r
