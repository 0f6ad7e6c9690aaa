-- A worked history of a DAG with `failFast`: each write begins the task that it makes ready.
use Rattle.std.proofs.Common.{◌≡◌, ℕ, true, false, List, [], ◌∷◌, ◌++◌, refl, Some, None, inl, inr, arith}
use Rattle.tree_types.specs.declared.path.Path.{Path}
use Rattle.tree_types.specs.declared.fact.Fact.TheVariants as fact
use Rattle.tree_types.specs.declared.phase.Phase.TheVariants as phase
use Rattle.tree_types.specs.declared.node.Kind.TheVariants as kind
use Rattle.tree_types.specs.declared.node.Note.TheVariants as note
use Rattle.tree_types.specs.declared.node.Node.{Node}
use Rattle.tree_types.specs.declared.entry.Entry.TheVariants.{Submit, Write, Create, Finish}
use Rattle.wf_manifest.specs.declared.manifest.Manifest.{Manifest}
use Rattle.meaning.specs.Answers.{Facts, path}
use Rattle.meaning.specs.Trees.{Closes, closed, begins}
use Rattle.history.specs.History.{Event, event}
use Rattle.history.specs.Sometime.{Sometime}
use Rattle.history.proofs.Carrying.{sometime_now}
use Rattle.law.specs.Documents.{Text, PlannedOutcome, Document}
use Rattle.law.specs.Contents.{Content, OfWorkflow, OfPod, flow, begun_pod, Story, starts}
use Rattle.law.specs.Justified.{Adds, Justified, IsLawful}
use Rattle.std.proofs.Common.{codes, take, lit≤}
use Rattle.tree_types.specs.declared.path.Sel.TheVariants.{Main, Task as task_sel}
use Rattle.wf_manifest.specs.declared.templates.Body.TheVariants as body
use Rattle.growth.proofs.GrowingJournals.{closes_once}
use Rattle.meaning.specs.Lines.{no_outputs}
use Rattle.meaning.proofs.Samples.{workflow, call, task, task_after, succeeded, begun}
use Rattle.law.specs.Due.{record_fact, create, due_of}

abbrev w : Text
w = codes "d"

-- B waits for A
abbrev m : Manifest
m = workflow w (body.Dag (record { targets = []; fail_fast = true; tasks = task (call (codes "A")) ∷ task_after (codes "B") (codes "A" ∷ []) ∷ [] }))

abbrev plan : PlannedOutcome
plan = record { phase = phase.Succeeded; result = None; params = []; transient = false; seconds = 0; ended = refl }

abbrev D : Document
D = record { workflows = m ∷ []; limits = []; planned = λ w n. Some plan; commands = [] }

abbrev at_A : Path
at_A = path (Main ∷ task_sel 0 ∷ [])

abbrev at_B : Path
at_B = path (Main ∷ task_sel 1 ∷ [])

abbrev name_A : Text
name_A = codes "d.A"

abbrev name_B : Text
name_B = codes "d.B"

abbrev writes_now : ℕ → Facts → Event Content
writes_now n facts = event (Write w n facts) None

abbrev entries : List (Event Content)
entries =
    event (Submit w None []) (Some (OfWorkflow (flow m [])))
    ∷ writes_now 2 (fact.Started ∷ begun 0 ∷ [])
    ∷ event (Create w name_A at_A 0) (Some (OfPod (begun_pod at_A 0)))
    ∷ event (Finish w name_A succeeded) None
    ∷ writes_now 3 (fact.Settled at_A succeeded ∷ begun 1 ∷ [])
    ∷ event (Create w name_B at_B 0) (Some (OfPod (begun_pod at_B 0)))
    ∷ event (Finish w name_B succeeded) None
    ∷ writes_now 4 (fact.Settled at_B succeeded ∷ [])
    ∷ []

abbrev story : ℕ → Story
story n = record { start = starts D; events = take n entries }

abbrev J1 : Facts
J1 = fact.Started ∷ begun 0 ∷ []

abbrev J2 : Facts
J2 = J1 ++ fact.Settled at_A succeeded ∷ begun 1 ∷ []

abbrev J3 : Facts
J3 = J2 ++ fact.Settled at_B succeeded ∷ []

abbrev running : Path → Text → Node
running p n = record { path = p; name = n; kind = kind.Pod; phase = phase.Running; note = note.None; outputs = no_outputs; depth = 2 }

now : (P : Story → Type 0) (n : ℕ) → P (story n) → Sometime P (story n)
now P n p = sometime_now P (story n) p

j2 : Justified D (story 1) (writes_now 2 (fact.Started ∷ begun 0 ∷ []))
j2 = (refl, record { flow = flow m []; stands = refl; number = refl; fact = fact.Started; adds = record { beginnings = begun 0 ∷ []; parts = refl; closes = begins refl (closed refl); fits = omega arith; is_new = refl }; justified = tt })

j3 : Justified D (story 2) (event (Create w name_A at_A 0) (Some (OfPod (begun_pod at_A 0))))
j3 = record { absent = refl; wanted = now _ 2 record { flow = flow m J1; stands = refl; node = running at_A name_A; place = inr (inl refl); path = refl; named = refl; asks = inl refl; now = refl }; content = refl }

j4 : Justified D (story 3) (event (Finish w name_A succeeded) None)
j4 = (refl, record { pod = begun_pod at_A 0; stands = refl; unfinished = refl; plan = plan; planned = refl; is_outcome = refl; due = lit≤ tt; ticked = now _ 3 record { pod = begun_pod at_A 0; stands = refl; now = refl } })

j5 : Justified D (story 4) (writes_now 3 (fact.Settled at_A succeeded ∷ begun 1 ∷ []))
j5 = (
  refl,
  record {
    flow = flow m J1;
    stands = refl;
    number = refl;
    fact = fact.Settled at_A succeeded;
    adds = record { beginnings = begun 1 ∷ []; parts = refl; closes = begins refl (closed refl); fits = omega arith; is_new = refl };
    justified = (inl refl, now _ 4 record { name = name_A; pod = record { path = at_A; begin = 0; outcome = Some succeeded }; stands = refl; path = refl; outcome = refl });
  },
)

j6 : Justified D (story 5) (event (Create w name_B at_B 0) (Some (OfPod (begun_pod at_B 0))))
j6 = record { absent = refl; wanted = now _ 5 record { flow = flow m J2; stands = refl; node = running at_B name_B; place = inr (inr (inl refl)); path = refl; named = refl; asks = inl refl; now = refl }; content = refl }

j7 : Justified D (story 6) (event (Finish w name_B succeeded) None)
j7 = (refl, record { pod = begun_pod at_B 0; stands = refl; unfinished = refl; plan = plan; planned = refl; is_outcome = refl; due = lit≤ tt; ticked = now _ 6 record { pod = begun_pod at_B 0; stands = refl; now = refl } })

j8 : Justified D (story 7) (writes_now 4 (fact.Settled at_B succeeded ∷ []))
j8 = (
  refl,
  record {
    flow = flow m J2;
    stands = refl;
    number = refl;
    fact = fact.Settled at_B succeeded;
    adds = record { beginnings = []; parts = refl; closes = closed refl; fits = omega arith; is_new = refl };
    justified = (inl refl, now _ 7 record { name = name_B; pod = record { path = at_B; begin = 0; outcome = Some succeeded }; stands = refl; path = refl; outcome = refl });
  },
)

pub begun_lawful : IsLawful D (story 8)
begun_lawful = record { start = refl; each = (record { absent = refl; manifest = m; given = inl refl; name = refl; no_facts = refl; content = refl }, (j2, (j3, (j4, (j5, (j6, (j7, (j8, tt)))))))) }

-- ---- what is refused: a write that leaves a ready task out

ready : Closes m (fact.Started ∷ []) J1
ready = begins refl (closed refl)

leaves_out : Adds (flow m []) fact.Started (fact.Started ∷ []) → ⊥
leaves_out a = absurd (let e = closes_once m (fact.Started ∷ []) (fact.Started ∷ []) J1 a.closes ready in cc)

-- ---- what is due

due_to_start : due_of D (story 1) w (flow m []) ≡ record_fact fact.Started ∷ []
due_to_start = refl

due_once_begun : due_of D (story 2) w (flow m J1) ≡ create at_A name_A ∷ []
due_once_begun = refl

due_to_settle : due_of D (story 4) w (flow m J1) ≡ record_fact (fact.Settled at_A succeeded) ∷ []
due_to_settle = refl

due_then : due_of D (story 5) w (flow m J2) ≡ create at_B name_B ∷ []
due_then = refl

due_at_end : due_of D (story 8) w (flow m J3) ≡ []
due_at_end = refl
