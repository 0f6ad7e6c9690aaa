-- A worked job: a workflow with a mutex, from its submission to its pod, call by call; and the job that releases the mutex.
use Rattle.std.proofs.Common.{◌≡◌, ℕ, false, codes, pos, take, List, [], ◌∷◌, ◌++◌, refl, Some, None, arith}
use Rattle.tree_types.specs.declared.path.Path.{Path}
use Rattle.tree_types.specs.declared.path.Sel.TheVariants.{Main}
use Rattle.tree_types.specs.declared.path.LockId.{LockId}
use Rattle.tree_types.specs.declared.phase.Phase.TheVariants as phase
use Rattle.tree_types.specs.declared.fact.Fact.TheVariants as fact
use Rattle.tree_types.specs.declared.entry.HolderKey.{HolderKey}
use Rattle.tree_types.specs.declared.entry.Rank.{Rank}
use Rattle.tree_types.specs.declared.entry.Key.TheVariants.{Workflow, Pod, Locks}
use Rattle.tree_types.specs.declared.entry.Entry.TheVariants.{Submit, Write, Create, Finish, File, Release}
use Rattle.wf_manifest.specs.declared.templates.Body.TheVariants as body
use Rattle.wf_manifest.specs.declared.manifest.Manifest.{Manifest}
use Rattle.meaning.specs.Answers.{Facts, path}
use Rattle.meaning.specs.Trees.{closed}
use Rattle.meaning.proofs.Samples.{template, workflow_of, succeeded}
use Rattle.history.specs.History.{Event, event}
use Rattle.books.specs.declared.Request.{Request}
use Rattle.books.specs.declared.LockState.TheVariants.{Released}
use Rattle.books.specs.Books.{held, request}
use Rattle.law.specs.Documents.{Text, PlannedOutcome, Document}
use Rattle.law.specs.Contents.{Flow, Book, Content, OfWorkflow, OfPod, OfLocks, flow, begun_pod, finished, Story, starts}
use Rattle.law.specs.Justified.{key}
use Rattle.law.specs.Due.{record_fact, file, create, release}
use Rattle.next_step.specs.Views.{Seen, Views, nothing}
use Rattle.next_step.specs.Next.{done, worker_next}
use Rattle.next_step.specs.Replies.{found, accepted, no_object, seen}
use Rattle.next_step.specs.Runner.{read, finish, already_finished, runner_next}
use Rattle.next_step.specs.Calls.{Undisturbed, stays, reads, acts, calls_of}

abbrev pub w : Text
w = codes "w"

abbrev pub mutex : LockId
mutex = record { text = codes "mutex/m" }

abbrev pub m : Manifest
m = workflow_of w (record (template (codes "main") body.Pod) { lock = Some mutex } ∷ [])

abbrev pub plan : PlannedOutcome
plan = record { phase = phase.Succeeded; result = None; params = []; transient = false; seconds = 0; ended = refl }

abbrev pub D : Document
D = record { workflows = m ∷ []; limits = []; planned = λ w n. Some plan; commands = [] }

abbrev pub main : Path
main = path (Main ∷ [])

abbrev pub k : HolderKey
k = key w main

abbrev pub r : Rank
r = record { priority = pos 0; created = pos 0; workflow = w; own = false; name = w }

abbrev pub writes_now : ℕ → Facts → Event Content
writes_now n facts = event (Write w n facts) None

abbrev pub entries : List (Event Content)
entries =
    event (Submit w None []) (Some (OfWorkflow (flow m [])))
    ∷ writes_now 2 (fact.Started ∷ [])
    ∷ event (File mutex k r) None
    ∷ writes_now 3 (fact.Granted main ∷ [])
    ∷ event (Create w w main 0) (Some (OfPod (begun_pod main 0)))
    ∷ event (Finish w w succeeded) None
    ∷ writes_now 4 (fact.Settled main succeeded ∷ [])
    ∷ event (Release mutex k) None
    ∷ []

abbrev pub story : ℕ → Story
story n = record { start = starts D; events = take n entries }

abbrev pub J1 : Facts
J1 = fact.Started ∷ []

abbrev pub J2 : Facts
J2 = J1 ++ fact.Granted main ∷ []

abbrev pub J3 : Facts
J3 = J2 ++ fact.Settled main succeeded ∷ []

-- ---- the first job: two reads, two writes and a filing, a read that finds no pod, and the creation of the pod

abbrev pub at_first : Seen Flow
at_first = seen 1 (flow m []) 0

abbrev pub started : Seen Flow
started = seen 2 (flow m J1) 0

abbrev pub granted : Seen Flow
granted = seen 3 (flow m J2) 0

abbrev pub book_of_all : List Request → Book
book_of_all rs = record { limits = []; requests = rs }

abbrev pub filed_book : Book
filed_book = book_of_all (held (request mutex k r) ∷ [])

abbrev pub v1 : Views
v1 = record nothing { flow = Some at_first }

abbrev pub v2 : Views
v2 = record v1 { book = Some (seen 1 (book_of_all []) 0) }

abbrev pub v3 : Views
v3 = record v2 { flow = Some started }

abbrev pub v4 : Views
v4 = record v3 { book = Some (seen 2 filed_book 0) }

abbrev pub v5 : Views
v5 = record v4 { flow = Some granted }

abbrev pub v6 : Views
v6 = record v5 { pods = record { name = w; found = None } ∷ [] }

abbrev pub v7 : Views
v7 = record v6 { pods = record { name = w; found = Some (seen 1 (begun_pod main 0) 0) } ∷ record { name = w; found = None } ∷ [] }

pub first_job : Undisturbed D w (story 1) nothing (story 5) v7
first_job =
    reads (Workflow w) (found (seen 1 (OfWorkflow (flow m [])) 0)) v1 refl record { stood = refl; clock = refl } refl
    (reads Locks (found (seen 1 (OfLocks (book_of_all [])) 0)) v2 refl record { stood = refl; clock = refl } refl
    (acts (record_fact fact.Started) at_first (fact.Started ∷ []) (accepted (seen 2 (OfWorkflow (flow m J1)) 0)) v3 refl refl
    record { beginnings = []; parts = refl; closes = closed refl; fits = omega arith; is_new = refl }
    record { unmoved = refl; grows = refl; shows = record { stood = refl; clock = refl } } refl
    (acts (file mutex k r) started [] (accepted (seen 2 (OfLocks filed_book) 0)) v4 refl refl tt
    record { unmoved = refl; grows = refl; shows = record { stood = refl; clock = refl } } refl
    (acts (record_fact (fact.Granted main)) started (fact.Granted main ∷ []) (accepted (seen 3 (OfWorkflow (flow m J2)) 0)) v5 refl refl
    record { beginnings = []; parts = refl; closes = closed refl; fits = omega arith; is_new = refl }
    record { unmoved = refl; grows = refl; shows = record { stood = refl; clock = refl } } refl
    (reads (Pod w w) no_object v6 refl refl refl
    (acts (create main w) granted [] (accepted (seen 1 (OfPod (begun_pod main 0)) 0)) v7 refl refl tt
    record { unmoved = refl; grows = refl; shows = record { stood = refl; clock = refl } } refl
    stays))))))

seven_calls : calls_of first_job ≡ 7
unfolding first_job
seven_calls = refl

-- with the pod of its own the job is done
then_done : worker_next D w v7 ≡ done
then_done = refl

-- ---- the runner reads the pod, and finishes it

runner_reads : runner_next D w w None ≡ read
runner_reads = refl

runner_finishes : runner_next D w w (Some (seen 1 (begun_pod main 0) 0)) ≡ finish succeeded
runner_finishes = refl

then_finished : runner_next D w w (Some (seen 2 (finished (begun_pod main 0) succeeded) 0)) ≡ already_finished
then_finished = refl

-- ---- the second job: three reads, the settlement, and the release

abbrev settled : Seen Flow
settled = seen 4 (flow m J3) 0

abbrev freed_book : Book
freed_book = book_of_all (record { lock = mutex; key = k; rank = r; state = Released } ∷ [])

abbrev u1 : Views
u1 = record nothing { flow = Some granted }

abbrev u2 : Views
u2 = record u1 { book = Some (seen 2 filed_book 0) }

abbrev u3 : Views
u3 = record u2 { pods = record { name = w; found = Some (seen 2 (finished (begun_pod main 0) succeeded) 0) } ∷ [] }

abbrev u4 : Views
u4 = record u3 { flow = Some settled }

abbrev u5 : Views
u5 = record u4 { book = Some (seen 3 freed_book 0) }

second_job : Undisturbed D w (story 6) nothing (story 8) u5
second_job =
    reads (Workflow w) (found (seen 3 (OfWorkflow (flow m J2)) 0)) u1 refl record { stood = refl; clock = refl } refl
    (reads Locks (found (seen 2 (OfLocks filed_book) 0)) u2 refl record { stood = refl; clock = refl } refl
    (reads (Pod w w) (found (seen 2 (OfPod (finished (begun_pod main 0) succeeded)) 0)) u3 refl record { stood = refl; clock = refl } refl
    (acts (record_fact (fact.Settled main succeeded)) granted (fact.Settled main succeeded ∷ []) (accepted (seen 4 (OfWorkflow (flow m J3)) 0)) u4 refl refl
    record { beginnings = []; parts = refl; closes = closed refl; fits = omega arith; is_new = refl }
    record { unmoved = refl; grows = refl; shows = record { stood = refl; clock = refl } } refl
    (acts (release mutex k) settled [] (accepted (seen 3 (OfLocks freed_book) 0)) u5 refl refl tt
    record { unmoved = refl; grows = refl; shows = record { stood = refl; clock = refl } } refl
    stays))))

all_done : worker_next D w u5 ≡ done
all_done = refl
