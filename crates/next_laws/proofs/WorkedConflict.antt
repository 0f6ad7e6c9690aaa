-- Worked: two workers read one workflow, the first writes Started, and the second's write meets a conflict; so does the write
-- of one whose read was answered with the older version. And the next tick of a pod that takes its time.
use Rattle.std.proofs.Common.{◌≡◌, false, codes, lit≤, [], ◌∷◌, refl, subst, Some, None, arith}
use Rattle.tree_types.specs.declared.path.Path.{Path}
use Rattle.tree_types.specs.declared.path.Sel.TheVariants.{Main}
use Rattle.tree_types.specs.declared.phase.Phase.TheVariants as phase
use Rattle.tree_types.specs.declared.fact.Fact.TheVariants as fact
use Rattle.tree_types.specs.declared.entry.Key.TheVariants.{Workflow}
use Rattle.tree_types.specs.declared.entry.Entry.TheVariants.{Submit, Write, Create, Tick}
use Rattle.wf_manifest.specs.declared.templates.Body.TheVariants as body
use Rattle.wf_manifest.specs.declared.manifest.Manifest.{Manifest}
use Rattle.meaning.specs.Answers.{path}
use Rattle.meaning.specs.Trees.{closed}
use Rattle.meaning.proofs.Samples.{template, workflow_of}
use Rattle.history.specs.History.{event, grown, IsVersionOf}
use Rattle.law.specs.Documents.{Text, PlannedOutcome, Document}
use Rattle.law.specs.Contents.{Flow, OfWorkflow, OfPod, flow, begun_pod, apply, Story, starts}
use Rattle.law.specs.Due.{record_fact}
use Rattle.lawful.proofs.Facts.{none_some, some_same}
use Rattle.next_step.specs.Views.{Seen, Views, nothing}
use Rattle.next_step.specs.Next.{act, worker_next}
use Rattle.next_step.specs.Changes.{change_of, ShownAt, ViewsOf}
use Rattle.next_step.specs.Replies.{found, accepted, conflict, by_refusal, ended, seen, after}
use Rattle.next_step.specs.Runner.{not_due, runner_next}
use Rattle.next_step.specs.Calls.{Did, Undisturbed, stays, reads, acts}
use Rattle.next_step.specs.Ticks.{next_tick}

abbrev pub w : Text
w = codes "w"

abbrev pub m : Manifest
m = workflow_of w (template (codes "main") body.Pod ∷ [])

-- each pod takes five seconds
abbrev pub plan : PlannedOutcome
plan = record { phase = phase.Succeeded; result = None; params = []; transient = false; seconds = 5; ended = refl }

abbrev pub D : Document
D = record { workflows = m ∷ []; limits = []; planned = λ w n. Some plan; commands = [] }

-- submitted, and then started
abbrev pub h : Story
h = record { start = starts D; events = event (Submit w None []) (Some (OfWorkflow (flow m []))) ∷ [] }

abbrev pub g : Story
g = grown h (event (Write w 2 (fact.Started ∷ [])) None)

abbrev pub at_first : Seen Flow
at_first = seen 1 (flow m []) 0

-- both have read the workflow
abbrev pub has_read : Views
has_read = record nothing { flow = Some at_first }

abbrev pub has_written : Views
has_written = record nothing { flow = Some (seen 2 (flow m (fact.Started ∷ [])) 0) }

first_writes : Undisturbed D w h nothing g has_written
first_writes =
    reads (Workflow w) (found (seen 1 (OfWorkflow (flow m [])) 0)) has_read refl record { stood = refl; clock = refl } refl
    (acts (record_fact fact.Started) at_first (fact.Started ∷ []) (accepted (seen 2 (OfWorkflow (flow m (fact.Started ∷ []))) 0)) has_written refl refl
    record { beginnings = []; parts = refl; closes = closed refl; fits = omega arith; is_new = refl }
    record { unmoved = refl; grows = refl; shows = record { stood = refl; clock = refl } } refl
    stays)

second_would_write : worker_next D w has_read ≡ act (record_fact fact.Started)
second_would_write = refl

meets_conflict : Did g (change_of w has_read at_first (fact.Started ∷ []) (record_fact fact.Started)) (conflict 1 2) g
meets_conflict = (lit≤ tt, refl, refl, lit≤ tt, refl)

ends_there : after has_read (act (record_fact fact.Started)) (conflict 1 2) ≡ ended by_refusal
ends_there = refl

-- a read with a lag, where the workflow stands at version 2: its answer is of the history, and so are the views with it
old_version : IsVersionOf apply g (Workflow w) 1 (OfWorkflow (flow m [])) 0
old_version = record { before = h; extends = record { same_start = refl; rest = event (Write w 2 (fact.Started ∷ [])) None ∷ []; goes_on = refl }; stood = refl; clock = refl }

pub old_views : ViewsOf g w has_read
old_views = record {
  moment = h;
  extends = record { same_start = refl; rest = event (Write w 2 (fact.Started ∷ [])) None ∷ []; goes_on = refl };
  flow = λ s e. subst (λ (t : Seen Flow). ShownAt h (Workflow w) t.number (OfWorkflow t.content) t.tick) (some_same at_first s e) record { stood = refl; clock = refl };
  book = λ b e. none_some b e;
  saves = λ c e. none_some c e;
  pods = λ name x e. none_some x e;
}

-- ---- the next tick

abbrev pub main : Path
main = path (Main ∷ [])

abbrev pub running : Story
running = grown g (event (Create w w main 0) (Some (OfPod (begun_pod main 0))))

nothing_waits : next_tick D g ≡ None
nothing_waits = refl

at_its_end : next_tick D running ≡ Some 5
at_its_end = refl

not_before : runner_next D w w (Some (seen 1 (begun_pod main 0) 0)) ≡ not_due 5
not_before = refl

none_after : next_tick D (grown running (event (Tick 5) None)) ≡ None
none_after = refl
