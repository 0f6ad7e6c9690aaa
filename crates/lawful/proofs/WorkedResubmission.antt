-- A worked history of a workflow one of whose tasks fails, and that is submitted anew with what it has.
use Rattle.std.proofs.Common.{◌≡◌, ℕ, pos, true, false, cond, bytes_eq, List, [], ◌∷◌, ◌++◌, refl, Some, None, inl, inr, arith}
use Rattle.tree_types.specs.declared.path.Path.{Path}
use Rattle.tree_types.specs.declared.fact.Fact.TheVariants as fact
use Rattle.tree_types.specs.declared.phase.Phase.TheVariants as phase
use Rattle.tree_types.specs.declared.node.Kind.TheVariants as kind
use Rattle.tree_types.specs.declared.node.Note.TheVariants as note
use Rattle.tree_types.specs.declared.node.Node.{Node}
use Rattle.tree_types.specs.declared.entry.Entry.TheVariants.{Submit, Write, Create, Finish}
use Rattle.wf_manifest.specs.declared.manifest.Manifest.{Manifest}
use Rattle.meaning.specs.Answers.{Facts, path}
use Rattle.meaning.specs.Trees.{closed}
use Rattle.history.specs.History.{Event, event}
use Rattle.history.proofs.Extends.{extends_itself}
use Rattle.history.specs.Sometime.{Sometime}
use Rattle.history.proofs.Carrying.{sometime_now}
use Rattle.law.specs.Documents.{Text, PlannedOutcome, Resubmission, Resubmit, Document}
use Rattle.law.specs.Contents.{Content, OfWorkflow, OfPod, flow, begun_pod, Story, starts}
use Rattle.law.specs.Justified.{renamed, OldOver, FactJustified, Justified, IsLawful}
use Rattle.std.proofs.Common.{codes, take, lit≤}
use Rattle.tree_types.specs.declared.path.Sel.TheVariants.{Main, Task as task_sel}
use Rattle.meaning.specs.Lines.{no_outputs}
use Rattle.meaning.proofs.Samples.{dag_workflow, call, task, succeeded, failed}
use Rattle.law.specs.Due.{record_fact, create, submit, due_of}
use Rattle.lawful.specs.Still.{FlowView}
use Rattle.lawful.proofs.Still.{resubmitted_still}

abbrev a : Text
a = codes "a"

abbrev b : Text
b = codes "b"

-- two tasks side by side
abbrev m : Manifest
m = dag_workflow a (task (call (codes "x")) ∷ task (call (codes "y")) ∷ []) []

abbrev good : PlannedOutcome
good = record { phase = phase.Succeeded; result = None; params = []; transient = false; seconds = 0; ended = refl }

abbrev bad : PlannedOutcome
bad = record { phase = phase.Failed; result = None; params = []; transient = false; seconds = 0; ended = refl }

abbrev anew : Resubmission
anew = record { tick = 0; old = a; name = b; memoized = true; created = pos 7 }

-- the old workflow's y fails
abbrev D : Document
D = record { workflows = m ∷ []; limits = []; planned = λ w n. Some (cond (bytes_eq n (codes "a.y")) bad good); commands = Resubmit anew ∷ [] }

abbrev o : Manifest
o = renamed m b (pos 7)

abbrev at_x : Path
at_x = path (Main ∷ task_sel 0 ∷ [])

abbrev at_y : Path
at_y = path (Main ∷ task_sel 1 ∷ [])

abbrev writes_now : Text → ℕ → Facts → Event Content
writes_now w n facts = event (Write w n facts) None

abbrev creates : Text → Text → Path → Event Content
creates w n p = event (Create w n p 0) (Some (OfPod (begun_pod p 0)))

abbrev S : Facts
S = fact.Carried at_x succeeded ∷ []

abbrev entries : List (Event Content)
entries =
    event (Submit a None []) (Some (OfWorkflow (flow m [])))
    ∷ writes_now a 2 (fact.Started ∷ [])
    ∷ creates a (codes "a.x") at_x
    ∷ creates a (codes "a.y") at_y
    ∷ event (Finish a (codes "a.x") succeeded) None
    ∷ event (Finish a (codes "a.y") failed) None
    ∷ writes_now a 3 (fact.Settled at_x succeeded ∷ [])
    ∷ writes_now a 4 (fact.Settled at_y failed ∷ [])
    ∷ event (Submit b (Some a) S) (Some (OfWorkflow (flow o S)))
    ∷ writes_now b 2 (fact.Started ∷ [])
    ∷ creates b (codes "b.y") at_y
    ∷ event (Finish b (codes "b.y") succeeded) None
    ∷ writes_now b 3 (fact.Settled at_y succeeded ∷ [])
    ∷ []

abbrev story : ℕ → Story
story n = record { start = starts D; events = take n entries }

abbrev J1 : Facts
J1 = fact.Started ∷ []

abbrev J2 : Facts
J2 = J1 ++ fact.Settled at_x succeeded ∷ []

abbrev J3 : Facts
J3 = J2 ++ fact.Settled at_y failed ∷ []

abbrev K1 : Facts
K1 = S ++ fact.Started ∷ []

abbrev K2 : Facts
K2 = K1 ++ fact.Settled at_y succeeded ∷ []

abbrev running : Path → Text → Node
running p n = record { path = p; name = n; kind = kind.Pod; phase = phase.Running; note = note.None; outputs = no_outputs; depth = 2 }

now : (P : Story → Type 0) (n : ℕ) → P (story n) → Sometime P (story n)
now P n p = sometime_now P (story n) p

submits : Justified D (story 0) (event (Submit a None []) (Some (OfWorkflow (flow m []))))
submits = record { absent = refl; manifest = m; given = inl refl; name = refl; no_facts = refl; content = refl }

j2 : Justified D (story 1) (writes_now a 2 (fact.Started ∷ []))
j2 = (refl, record { flow = flow m []; stands = refl; number = refl; fact = fact.Started; adds = record { beginnings = []; parts = refl; closes = closed refl; fits = omega arith; is_new = refl }; justified = tt })

j3 : Justified D (story 2) (creates a (codes "a.x") at_x)
j3 = record { absent = refl; wanted = now _ 2 record { flow = flow m J1; stands = refl; node = running at_x (codes "a.x"); place = inr (inl refl); path = refl; named = refl; asks = inl refl; now = refl }; content = refl }

j4 : Justified D (story 3) (creates a (codes "a.y") at_y)
j4 = record { absent = refl; wanted = now _ 3 record { flow = flow m J1; stands = refl; node = running at_y (codes "a.y"); place = inr (inr (inl refl)); path = refl; named = refl; asks = inr (inl refl); now = refl }; content = refl }

j5 : Justified D (story 4) (event (Finish a (codes "a.x") succeeded) None)
j5 = (refl, record { pod = begun_pod at_x 0; stands = refl; unfinished = refl; plan = good; planned = refl; is_outcome = refl; due = lit≤ tt; ticked = now _ 4 record { pod = begun_pod at_x 0; stands = refl; now = refl } })

j6 : Justified D (story 5) (event (Finish a (codes "a.y") failed) None)
j6 = (refl, record { pod = begun_pod at_y 0; stands = refl; unfinished = refl; plan = bad; planned = refl; is_outcome = refl; due = lit≤ tt; ticked = now _ 5 record { pod = begun_pod at_y 0; stands = refl; now = refl } })

j7 : Justified D (story 6) (writes_now a 3 (fact.Settled at_x succeeded ∷ []))
j7 = (
  refl,
  record {
    flow = flow m J1;
    stands = refl;
    number = refl;
    fact = fact.Settled at_x succeeded;
    adds = record { beginnings = []; parts = refl; closes = closed refl; fits = omega arith; is_new = refl };
    justified = (inl refl, now _ 6 record { name = codes "a.x"; pod = record { path = at_x; begin = 0; outcome = Some succeeded }; stands = refl; path = refl; outcome = refl });
  },
)

j8 : Justified D (story 7) (writes_now a 4 (fact.Settled at_y failed ∷ []))
j8 = (
  refl,
  record {
    flow = flow m J2;
    stands = refl;
    number = refl;
    fact = fact.Settled at_y failed;
    adds = record { beginnings = []; parts = refl; closes = closed refl; fits = omega arith; is_new = refl };
    justified = (inl refl, now _ 7 record { name = codes "a.y"; pod = record { path = at_y; begin = 0; outcome = Some failed }; stands = refl; path = refl; outcome = refl });
  },
)

-- what Succeeded is carried over, what failed is not
j9 : Justified D (story 8) (event (Submit b (Some a) S) (Some (OfWorkflow (flow o S))))
j9 = record { absent = refl; command = anew; given = inl refl; names = (refl, refl); before = flow m J3; ended = now (OldOver a 0 (flow m J3)) 8 record { stands = refl; over = refl; reached = lit≤ tt }; carried = refl; content = refl }

j10 : Justified D (story 9) (writes_now b 2 (fact.Started ∷ []))
j10 = (refl, record { flow = flow o S; stands = refl; number = refl; fact = fact.Started; adds = record { beginnings = []; parts = refl; closes = closed refl; fits = omega arith; is_new = refl }; justified = tt })

j11 : Justified D (story 10) (creates b (codes "b.y") at_y)
j11 = record { absent = refl; wanted = now _ 10 record { flow = flow o K1; stands = refl; node = running at_y (codes "b.y"); place = inr (inr (inl refl)); path = refl; named = refl; asks = inl refl; now = refl }; content = refl }

j12 : Justified D (story 11) (event (Finish b (codes "b.y") succeeded) None)
j12 = (refl, record { pod = begun_pod at_y 0; stands = refl; unfinished = refl; plan = good; planned = refl; is_outcome = refl; due = lit≤ tt; ticked = now _ 11 record { pod = begun_pod at_y 0; stands = refl; now = refl } })

j13 : Justified D (story 12) (writes_now b 3 (fact.Settled at_y succeeded ∷ []))
j13 = (
  refl,
  record {
    flow = flow o K1;
    stands = refl;
    number = refl;
    fact = fact.Settled at_y succeeded;
    adds = record { beginnings = []; parts = refl; closes = closed refl; fits = omega arith; is_new = refl };
    justified = (inl refl, now _ 12 record { name = codes "b.y"; pod = record { path = at_y; begin = 0; outcome = Some succeeded }; stands = refl; path = refl; outcome = refl });
  },
)

pub anew_lawful : IsLawful D (story 13)
anew_lawful = record { start = refl; each = (submits, (j2, (j3, (j4, (j5, (j6, (j7, (j8, (j9, (j10, (j11, (j12, (j13, tt))))))))))))) }

-- ---- what is refused

-- what is carried over is written by a submission alone
writes_carried : FactJustified D (story 9) b (flow o S) (fact.Carried at_y failed) → ⊥
writes_carried x = x

-- ---- what is due

due_to_create : due_of D (story 2) a (flow m J1) ≡ create at_x (codes "a.x") ∷ create at_y (codes "a.y") ∷ []
due_to_create = refl

due_while_failing : due_of D (story 7) a (flow m J2) ≡ record_fact (fact.Settled at_y failed) ∷ []
due_while_failing = refl

due_once_over : due_of D (story 8) a (flow m J3) ≡ submit anew ∷ []
due_once_over = refl

due_no_more : due_of D (story 9) a (flow m J3) ≡ []
due_no_more = refl

due_anew : due_of D (story 10) b (flow o K1) ≡ create at_y (codes "b.y") ∷ []
due_anew = refl

due_at_end : due_of D (story 13) b (flow o K2) ≡ []
due_at_end = refl

-- ---- what is added by a view of the old workflow

abbrev view : FlowView (story 8) a
view = record { number = 4; flow = flow m J3; tick = 0; shown = record { before = story 8; extends = extends_itself (story 8); stood = refl; clock = refl } }

submits_anew : Justified D (story 8) (event (Submit b (Some a) S) (Some (OfWorkflow (flow o S))))
submits_anew =
    resubmitted_still D (story 8) a view anew (inl refl) refl (lit≤ tt) refl
    (story 8) (extends_itself (story 8)) (submits, (j2, (j3, (j4, (j5, (j6, (j7, (j8, tt)))))))) refl
