-- When views are fresh, and that what is next by fresh views is the first that is due.
use Rattle.std.specs.Prelude.{◌≡◌, ◌⊎◌, ℕ, true, bytes_eq, List, Option, Some, None}
use Rattle.std.specs.List.{list_any}
use Rattle.tree_types.specs.declared.entry.Key.{Key}
use Rattle.tree_types.specs.declared.entry.Key.TheVariants as of_key
use Rattle.history.specs.History.{version_at}
use Rattle.saves.specs.declared.Saved.{Saved}
use Rattle.law.specs.Documents.{Text, Document}
use Rattle.law.specs.Contents.{Flow, PodObject, Book, Content, OfWorkflow, OfPod, OfLocks, OfCaches, apply, Story, HasFlow}
use Rattle.law.specs.Justified.{IsLawful}
use Rattle.law.specs.Due.{Matter, submit, due_of}
use Rattle.next_step.specs.Views.{Seen, Look, Views, look_at, head}
use Rattle.next_step.specs.Next.{Next, get, act, done, worker_next}
use Rattle.next_step.specs.Changes.{ShownAt}

-- the object of a key stands at this version
abbrev pub IsPresent : Story → Key → ℕ → Content → Type 0
IsPresent h k n c = version_at apply h k ≡ Some record { number = n; content = c }

-- a pod as it is, or none
abbrev pub IsPodNow : Story → Text → Text → Option (Seen PodObject) → Type 0
IsPodNow h w name None = version_at apply h (of_key.Pod w name) ≡ None
IsPodNow h w name (Some x) = IsPresent h (of_key.Pod w name) x.number (OfPod x.content)

-- a workflow of this name was submitted
abbrev pub IsSubmitted : Story → Text → Type 0
IsSubmitted h name = (f : Flow) × HasFlow h name f

-- each view shows what stands now, workflow and saves with the clock of now, and what was noted is so
pub record Fresh (h : Story) (w : Text) (v : Views) : Type 0 where
  pub flow : (s : Seen Flow) → v.flow ≡ Some s → ShownAt h (of_key.Workflow w) s.number (OfWorkflow s.content) s.tick
  pub book : (b : Seen Book) → v.book ≡ Some b → IsPresent h of_key.Locks b.number (OfLocks b.content)
  pub saves :
      (c : Seen (List Saved)) → v.saves ≡ Some c → ShownAt h of_key.Caches c.number (OfCaches c.content) c.tick
  pub pods : (name : Text) (l : Look) → look_at v name ≡ Some l → IsPodNow h w name l.found
  pub tried : (name : Text) → list_any (bytes_eq name) v.tried ≡ true → IsSubmitted h name

-- a resubmission under a name that is taken: a worker, who sees no other workflow, tries it once
abbrev pub IsTaken : Story → Matter → Type 0
IsTaken h (submit c) = IsSubmitted h c.name
IsTaken h _ = ⊥

-- a read, or the first due matter, or that nothing is due
abbrev pub NextIs : Story → Next → Option Matter → Type 0
NextIs h (get k) first = Unit {0}
NextIs h (act x) first = (first ≡ Some x) ⊎ IsTaken h x
NextIs h done first = first ≡ None

abbrev pub FreshActsAreDue : Type 0
FreshActsAreDue =
    (D : Document) (h : Story) (w : Text) (v : Views) (s : Seen Flow) → IsLawful D h → Fresh h w v → v.flow ≡ Some s →
    NextIs h (worker_next D w v) (head (due_of D h w s.content))
