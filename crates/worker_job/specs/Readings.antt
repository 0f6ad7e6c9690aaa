-- A reading of a worker: its views with the workflow among them, and what the steps of `next_step` make of it.
use Rattle.std.specs.Prelude.{ℕ, List, [], ◌∷◌, Bool, false, bytes_eq, Option, Some, option_map, None}
use Rattle.std.specs.List.{list_any}
use Rattle.tree_types.specs.declared.path.Path.{Path}
use Rattle.tree_types.specs.declared.path.LockId.{LockId}
use Rattle.tree_types.specs.declared.node.Node.{Node}
use Rattle.tree_types.specs.declared.want.Want.{Want}
use Rattle.saves.specs.declared.Saved.{Saved}
use Rattle.sync_locks.specs.Book as locks
use Rattle.sync_locks.specs.Book.{standing}
use Rattle.books.specs.declared.LockState.{LockState}
use Rattle.books.specs.declared.Request.{Request}
use Rattle.law.specs.Documents.{Text, Command, Resume, Resubmit, Document}
use Rattle.law.specs.Contents.{Flow, PodObject, Book}
use Rattle.law.specs.Due.{Matter, release, node_name, name_at}
use Rattle.wf_object.specs.Documents.{law_of}
use Rattle.law.specs.Justified.{tree_of, wants_of, key}
use Rattle.next_step.specs.Views.{Seen, Views, first_given}
use Rattle.next_step.specs.Next as next
use Rattle.next_step.specs.Next.{Next, Step, act}
use Rattle.next_step.specs.Replies.{seen}
use Rattle.worker_job.specs.declared.matter.Next.{Next as Act}
use Rattle.worker_job.specs.declared.reading.Reading.{Reading}
use Rattle.worker_job.specs.Told.{next_told}
use Rattle.worker_job.specs.Inside.Marks.{IsMarked, FoundIs}
use Rattle.worker_job.specs.Inside.Left.{LeftOf}
use Rattle.worker_job.specs.Inside.Filing.{FilingOf}
use Rattle.worker_job.specs.Inside.Saving.{is_left}
use Rattle.tree_state.specs.declared.kinds.WantKind.TheVariants as kind

-- a command that resumes nodes of this workflow
abbrev pub is_resumption : Text → Command → Bool
is_resumption w (Resume c) = bytes_eq c.workflow w
is_resumption w (Resubmit c) = false

-- a book was read, and its requests pass
abbrev pub passes : (List Request → Bool) → Option (Seen Book) → Bool
passes test None = false
passes test (Some b) = test b.content.requests

abbrev pub step_told : Option Act → Step
step_told o = option_map next_told o

-- what is known of the pods that are asked for
pub record KnowsPods (r : Reading) : Type 0 where
  pub marked : IsMarked r.job.now.views.pods r.object.now r.marks.now
  pub found : FoundIs r.job.now.views.pods r.object.now r.found.now

module _ (r : Reading) where
  abbrev pub law : Document
  law = law_of r.document.now

  abbrev pub workflow : Text
  workflow = r.job.now.workflow

  abbrev pub views : Views
  views = r.job.now.views

  abbrev pub flow : Seen Flow
  flow = seen r.version r.object.now r.tick

  -- what is known to be left to be saved
  abbrev pub KnowsSaving : Type 0
  KnowsSaving = LeftOf kind.Save (is_left workflow) r.to_save.now r.object.now views.saves

  -- what is known to be left to be filed
  abbrev pub KnowsFiling : Type 0
  KnowsFiling = FilingOf r.to_file.now workflow r.object.now views.book

  -- ---- questions

  abbrev pub named : Path → Option Text
  named p = node_name r.object.now p.sels

  abbrev pub named_at : Path → Option Text
  named_at p = name_at r.object.now p.sels

  abbrev pub request : Path → Option Request
  request p = next.request_in law workflow views flow p views.book

  abbrev pub stands : Path → Option (LockId × LockState)
  stands p = option_map standing (request p)

  abbrev pub is_held : Path → Bool
  is_held p = locks.holds (request p)

  abbrev pub pod_of : Path → Option PodObject
  pod_of p = next.pod_at law workflow views flow p.sels

  -- ---- what is given

  abbrev pub reading : Want → Step
  reading = next.reading law workflow views flow

  abbrev pub settling : Want → Option Matter
  settling = next.settling law workflow views flow

  abbrev pub granting : Want → Option Matter
  granting = next.granting law workflow views flow

  abbrev pub filing : Want → Option Matter
  filing = next.filing law workflow views flow

  abbrev pub timing : Want → Option Matter
  timing = next.timing law workflow views flow

  abbrev pub resuming : Node → Option Matter
  resuming = next.resuming law workflow views flow

  abbrev pub creating : Want → Option Matter
  creating = next.creating law workflow views flow

  abbrev pub saving : List Saved → Want → Option Matter
  saving = next.saving law workflow views flow

  abbrev pub releasing : Node → Option Matter
  releasing = next.releasing law workflow views flow

  abbrev pub submitting : Command → Option Matter
  submitting = next.submitting law workflow views flow

  abbrev pub looking : Want → Step
  looking = next.looking law workflow views flow

  abbrev pub arming : Want → Option Matter
  arming = next.arming law workflow views flow

  abbrev pub resumes : ℕ → Command → Bool
  resumes = next.resumes law workflow views flow

  abbrev pub release_held : Path → Option Matter
  release_held p = next.release_held law workflow views flow p (request p)

  abbrev pub release_own : Option Matter
  release_own = next.release_own law workflow views flow

  abbrev pub released : LockId → Path → Step
  released lock p = Some (act (release lock (key workflow p)))

  -- ---- the first that is given

  abbrev pub asked : {B : Type 0} → (Want → Option B) → Option B
  asked give = next.asked law workflow views flow give

  abbrev pub first_node : {B : Type 0} → (Node → Option B) → Option B
  first_node give = first_given give (tree_of r.object.now)

  -- something is to be saved
  abbrev pub asks_save : Bool
  asks_save = list_any (next.is_save law workflow views flow) (wants_of r.object.now)

  abbrev pub save_by_saves : Step
  save_by_saves = next.by_saves law workflow views flow views.saves (next.save_by law workflow views flow)

  -- ---- the steps

  abbrev pub read_book : Step
  read_book = next.read_book law workflow views flow

  abbrev pub read_pod : Step
  read_pod = next.read_pod law workflow views flow

  abbrev pub start : Step
  start = next.start law workflow views flow

  abbrev pub settle : Step
  settle = next.settle law workflow views flow

  abbrev pub grant : Step
  grant = next.grant law workflow views flow

  abbrev pub file_one : Step
  file_one = next.file_one law workflow views flow

  abbrev pub look_up : Step
  look_up = next.look_up law workflow views flow

  abbrev pub arm : Step
  arm = next.arm law workflow views flow

  abbrev pub ring : Step
  ring = next.ring law workflow views flow

  abbrev pub resume : Step
  resume = next.resume law workflow views flow

  abbrev pub create_one : Step
  create_one = next.create_one law workflow views flow

  abbrev pub save_one : Step
  save_one = next.save_one law workflow views flow

  abbrev pub release_one : Step
  release_one = next.release_one law workflow views flow

  abbrev pub resubmit : Step
  resubmit = next.resubmit law workflow views flow

  abbrev pub steps : List Step
  steps = next.steps law workflow views flow

  -- the steps that are left, where those before them do not apply
  abbrev pub last_steps : List Step
  last_steps = release_one ∷ resubmit ∷ []

  abbrev pub changing_steps : List Step
  changing_steps = resume ∷ create_one ∷ save_one ∷ last_steps

  abbrev pub waiting_steps : List Step
  waiting_steps = look_up ∷ arm ∷ ring ∷ changing_steps

  abbrev pub answering_steps : List Step
  answering_steps = settle ∷ grant ∷ file_one ∷ waiting_steps
