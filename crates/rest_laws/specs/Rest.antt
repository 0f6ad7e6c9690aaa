-- Workflows at rest: nothing is due of them, but perhaps what the locks that they hold give.
use Rattle.std.specs.Prelude.{◌≡◌, ℕ, Bool, false, ◌&&◌, nat_lt, nat_le, bytes_eq, List, [], map, filter_map, Some, None}
use Rattle.std.specs.List.{list_any}
use Rattle.tree_types.specs.declared.path.Path.{Path}
use Rattle.tree_types.specs.declared.entry.Entry.{Entry}
use Rattle.tree_types.specs.declared.entry.Entry.TheVariants.{Submit, Write, Create, Finish, File, Release, Save, Tick}
use Rattle.tree_types.specs.declared.want.Want.TheVariants as want
use Rattle.growth.specs.Growth.{Among}
use Rattle.history.specs.History.{Event, clock_of}
use Rattle.books.specs.declared.Request.{Request}
use Rattle.books.specs.Books.{request_of, is_holding}
use Rattle.law.specs.Documents.{Text, Command, Document}
use Rattle.law.specs.Contents.{Flow, Content, Story, flow_of, book_of, HasFlow}
use Rattle.law.specs.Justified.{tree_of, wants_of, key, IsLawful}
use Rattle.law.specs.Due as due
use Rattle.law.specs.Due.{command_tick}
use Rattle.lawful.specs.Manifests.{HasValidWorkflows}
use Rattle.next_step.specs.Hands.{for_flow}
use Rattle.next_step.specs.Ticks.{timers, least_above}
use Rattle.next_step.specs.Rounds.{entries_in}
use Rattle.run_laws.specs.Pods.{followed}
use Rattle.run_laws.specs.Whole.{went, Ran}

-- what is due of a workflow, but for grants and releases: nothing
pub record NothingDue (D : Document) (h : Story) (w : Text) (f : Flow) : Type 0 where
  pub started : due.due_start D h w f ≡ []
  pub settled : due.asked D h w f (due.settling D h w f) ≡ []
  pub filed : due.asked D h w f (due.filing D h w f) ≡ []
  pub looked_up : due.asked D h w f (due.looking D h w f) ≡ []
  pub armed : due.asked D h w f (due.arming D h w f) ≡ []
  pub rung : due.asked D h w f (due.timing D h w f) ≡ []
  pub resumed : filter_map (due.resuming D h w f) (tree_of f) ≡ []
  pub created : due.asked D h w f (due.creating D h w f) ≡ []
  pub saved : due.asked D h w f (due.saving D h w f) ≡ []
  pub submitted : filter_map (due.submitting D h w f) D.commands ≡ []

abbrev pub Rests : Document → Story → Text → Type 0
Rests D h w = (f : Flow) → HasFlow h w f → NothingDue D h w f

-- no request of the workflow holds its lock
abbrev pub HoldsNone : Story → Text → Type 0
HoldsNone h w =
    (p : Path) (r : Request) → request_of (book_of h) (key w p) ≡ Some r → is_holding r.state ≡ false

-- an entry of the workflow or of its pods; what others do with locks and caches gives it nothing but grants
abbrev pub concerns : Text → Entry → Bool
concerns w (Submit x old facts) = bytes_eq w x
concerns w (Write x version facts) = bytes_eq w x
concerns w (Create x name p begin) = bytes_eq w x
concerns w (Finish x name o) = bytes_eq w x
concerns w (File lock k r) = false
concerns w (Release lock k) = false
concerns w (Save cache entry k outputs tick) = false
concerns w (Tick t) = false

abbrev pub concerned : Text → List (Event Content) → Bool
concerned w es = list_any (concerns w) (map (λ e. e.entry) es)

-- a workflow that rests, and that no timer wakes
pub record Sleeps (D : Document) (h : Story) (w : Text) (f : Flow) : Type 0 where
  pub rests : NothingDue D h w f
  pub no_timer : (p : Path) (tick : ℕ) → Among (want.Timer p tick) (wants_of f) → ⊥

abbrev pub IsAsleep : Document → Story → Text → Type 0
IsAsleep D h w = (f : Flow) → HasFlow h w f → Sleeps D h w f

-- a command's tick is passed between two moments of the clock
abbrev pub falls_between : ℕ → ℕ → Command → Bool
falls_between then now c = nat_lt then (command_tick c) && nat_le (command_tick c) now

pub record WorkflowsRest : Type 0 where
  -- a workflow rests behind a job that nobody disturbs, in which no entry came, no call failed and nothing was full
  pub rests :
      (D : Document) (h g : Story) (w : Text) → HasValidWorkflows D → IsLawful D h → Ran D h (for_flow w) went g →
      entries_in g ≡ entries_in h → Rests D g w
  -- until an entry concerns it, or the clock moves
  pub stays :
      (D : Document) (h : Story) (w : Text) (es : List (Event Content)) → IsLawful D (followed h es) →
      concerned w es ≡ false → clock_of (followed h es) ≡ clock_of h → Rests D h w → Rests D (followed h es) w
  -- and as long as it holds no lock its job finds nothing to do
  pub idle :
      (D : Document) (h : Story) (w : Text) → HasValidWorkflows D → IsLawful D h → HoldsNone h w → Rests D h w →
      Ran D h (for_flow w) went h
  -- where it rests, and has no timer above the clock, no timer wakes it
  pub sleeps :
      (D : Document) (h : Story) (w : Text) → least_above (clock_of h) (timers (flow_of h w)) ≡ None → Rests D h w →
      IsAsleep D h w
  -- then it rests until an entry concerns it, or the tick of a command is passed
  pub sleeps_on :
      (D : Document) (h : Story) (w : Text) (es : List (Event Content)) → IsLawful D (followed h es) →
      concerned w es ≡ false → list_any (falls_between (clock_of h) (clock_of (followed h es))) D.commands ≡ false →
      IsAsleep D h w → IsAsleep D (followed h es) w
