-- The ticks at which a pod, a timer or a command is due, and the next of them.
use Rattle.std.specs.Prelude.{ℕ, Bool, true, false, nat_lt, cond, List, [], ◌∷◌, ◌++◌, map, filter_map, flat_map, Option, Some, None}
use Rattle.tree_types.specs.declared.outcome.Outcome.{Outcome}
use Rattle.tree_types.specs.declared.want.Want.{Want}
use Rattle.tree_types.specs.declared.want.Want.TheVariants as want
use Rattle.tree_types.specs.declared.entry.Entry.{Entry}
use Rattle.tree_types.specs.declared.entry.Entry.TheVariants.{Submit, Create}
use Rattle.meaning.specs.Lines.{later}
use Rattle.history.specs.History.{clock_of}
use Rattle.law.specs.Documents.{PlannedOutcome, Document}
use Rattle.law.specs.Contents.{Flow, PodObject, Story, flow_of, pod_of}
use Rattle.law.specs.Justified.{wants_of}
use Rattle.law.specs.Due.{command_tick}

-- ---- of a pod: the end of its planned outcome, as long as it has none

abbrev pub planned_end : PodObject → Option PlannedOutcome → List ℕ
planned_end pod None = []
planned_end pod (Some plan) = later pod.begin plan.seconds ∷ []

abbrev pub unfinished_end : PodObject → Option PlannedOutcome → Option Outcome → List ℕ
unfinished_end pod plan None = planned_end pod plan
unfinished_end pod plan (Some o) = []

abbrev pub pod_end : Option PlannedOutcome → Option PodObject → List ℕ
pod_end plan None = []
pod_end plan (Some pod) = unfinished_end pod plan pod.outcome

-- ---- of a workflow: its timers

abbrev pub timer_tick : Want → Option ℕ
timer_tick (want.Timer p tick) = Some tick
timer_tick _ = None

abbrev pub timers : Option Flow → List ℕ
timers None = []
timers (Some f) = filter_map timer_tick (wants_of f)

-- ---- of all

-- of the pod or the workflow that an entry made
abbrev pub ticks_by : Document → Story → Entry → List ℕ
ticks_by D h (Create w n p begin) = pod_end (D.planned w n) (pod_of h w n)
ticks_by D h (Submit w old facts) = timers (flow_of h w)
ticks_by D h _ = []

abbrev pub due_ticks : Document → Story → List ℕ
due_ticks D h = flat_map (λ e. ticks_by D h e.entry) h.events ++ map command_tick D.commands

-- the lesser of a tick and another, if there is one
abbrev pub lesser : ℕ → Option ℕ → ℕ
lesser t None = t
lesser t (Some u) = cond (nat_lt t u) t u

abbrev pub if_above : Bool → ℕ → Option ℕ → Option ℕ
if_above true t o = Some (lesser t o)
if_above false t o = o

-- the least of some ticks that is above a clock
abbrev pub least_above : ℕ → List ℕ → Option ℕ
least_above clock [] = None
least_above clock (t ∷ ts) = if_above (nat_lt clock t) t (least_above clock ts)

-- the next tick at which something is due
abbrev pub next_tick : Document → Story → Option ℕ
next_tick D h = least_above (clock_of h) (due_ticks D h)
