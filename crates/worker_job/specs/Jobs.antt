-- A worker's job on one workflow, and what its snapshots show.
use Rattle.std.specs.Prelude.{◌≡◌, ◌++◌, Bool, true, false, List, Some, None, Option}
use Rattle.tree_types.specs.declared.entry.Key.{Key}
use Rattle.tree_types.specs.declared.entry.Key.TheVariants.{Workflow, Pod, Locks, Caches}
use Rattle.tree_types.specs.declared.entry.HolderKey.{HolderKey}
use Rattle.books.specs.declared.Request.{Request}
use Rattle.books.specs.Books.{request_of}
use Rattle.saves.specs.declared.Saved.{Saved}
use Rattle.object_store.specs.declared.snapshot.Snapshot.{Snapshot}
use Rattle.law.specs.Documents.{Text}
use Rattle.meaning.specs.Answers.{Facts}
use Rattle.law.specs.Contents.{Flow, Book, Content, OfWorkflow, OfLocks, OfCaches, flow_in}
use Rattle.law.specs.Due.{Matter, record_fact, save, file, release}
use Rattle.wf_object.specs.Kept.{locks_in, caches_in}
use Rattle.next_step.specs.Views.{Seen, Views}
use Rattle.next_step.specs.Replies.{Job, Ending, goes_on, ended, seen}

-- the workflow, and what was read and noted
pub record OneJob : Type 0 where
  pub workflow : Text
  pub views : Views

-- a job that goes on has these views
abbrev pub Leaves : Bool → Job → Views → Type 0
Leaves true j v = j ≡ goes_on v
Leaves false j v = (e : Ending) × (j ≡ ended e)

-- what a job on a workflow reads
abbrev pub IsRead : Text → Key → Type 0
IsRead w (Workflow x) = x ≡ w
IsRead w (Pod x name) = x ≡ w
IsRead w Locks = Unit {0}
IsRead w Caches = Unit {0}

-- ---- what a recorded fact leaves

-- the same manifest, and more facts behind the journal
pub record HasMore (f g : Flow) : Type 0 where
  pub manifest : g.manifest ≡ f.manifest
  pub more : Facts
  pub journal : g.journal ≡ f.journal ++ more

-- the workflow goes on from the one that was read
abbrev pub GoesOn : Views → Content → Type 0
GoesOn v c = (s : Seen Flow) (f : Flow) → v.flow ≡ Some s → flow_in (Some c) ≡ Some f → HasMore s.content f

-- where a fact was recorded
abbrev pub FactGoesOn : Matter → Views → Content → Type 0
FactGoesOn (record_fact x) v c = GoesOn v c
FactGoesOn _ v c = Unit {0}

-- ---- what a save leaves

-- more saves behind those that there were
pub record HasMoreSaves (ss ts : List Saved) : Type 0 where
  pub more : List Saved
  pub saves : ts ≡ ss ++ more

-- the saves go on from those that were read
abbrev pub SavesGoOn : Views → Content → Type 0
SavesGoOn v c =
    (s : Seen (List Saved)) (ss : List Saved) → v.saves ≡ Some s → caches_in (Some c) ≡ Some ss → HasMoreSaves s.content ss

-- where outputs were saved
abbrev pub SaveGoesOn : Matter → Views → Content → Type 0
SaveGoesOn (save cache entry k outputs) v c = SavesGoOn v c
SaveGoesOn _ v c = Unit {0}

-- ---- what a filing or a release leaves

-- no key loses its request
abbrev pub KeepsRequests : List Request → List Request → Type 0
KeepsRequests rs ts = (k : HolderKey) → request_of ts k ≡ None → request_of rs k ≡ None

-- the book goes on from the one that was read
abbrev pub BookGoesOn : Views → Content → Type 0
BookGoesOn v c =
    (s : Seen Book) (b : Book) → v.book ≡ Some s → locks_in (Some c) ≡ Some b → KeepsRequests s.content.requests b.requests

-- where a lock was filed or released
abbrev pub LocksGoOn : Matter → Views → Content → Type 0
LocksGoOn (file lock k rank) v c = BookGoesOn v c
LocksGoOn (release lock k) v c = BookGoesOn v c
LocksGoOn _ v c = Unit {0}

-- ---- the object of a view

pub record ShownFlow (s : Snapshot Content) (w : Text) (view : Option (Seen Flow)) : Type 0 where
  pub flow : Flow
  pub key : s.key ≡ Workflow w
  pub content : s.content ≡ OfWorkflow flow
  pub viewed : view ≡ Some (seen s.version flow s.tick)

pub record ShownBook (s : Snapshot Content) (view : Option (Seen Book)) : Type 0 where
  pub book : Book
  pub key : s.key ≡ Locks
  pub content : s.content ≡ OfLocks book
  pub viewed : view ≡ Some (seen s.version book s.tick)

pub record ShownSaves (s : Snapshot Content) (view : Option (Seen (List Saved))) : Type 0 where
  pub saved : List Saved
  pub key : s.key ≡ Caches
  pub content : s.content ≡ OfCaches saved
  pub viewed : view ≡ Some (seen s.version saved s.tick)

abbrev pub ShowsFlow : Snapshot Content → Text → Views → Type 0
ShowsFlow s w v = ShownFlow s w v.flow

abbrev pub ShowsBook : Snapshot Content → Views → Type 0
ShowsBook s v = ShownBook s v.book

abbrev pub ShowsSaves : Snapshot Content → Views → Type 0
ShowsSaves s v = ShownSaves s v.saves
