-- What the store keeps: its kinds, what makes them, what it begins with, and when an entry is justified.
use Rattle.std.specs.Prelude.{◌≡◌, ℕ, List, [], ◌∷◌, ◌++◌, Option, Some, None}
use Rattle.tree_types.specs.declared.path.LockId.{LockId}
use Rattle.tree_types.specs.declared.outcome.Outputs.{Outputs}
use Rattle.tree_types.specs.declared.entry.Key.{Key}
use Rattle.tree_types.specs.declared.entry.Key.TheVariants as of_key
use Rattle.tree_types.specs.declared.entry.HolderKey.{HolderKey}
use Rattle.tree_types.specs.declared.entry.Rank.{Rank}
use Rattle.tree_types.specs.declared.entry.Limit.{Limit}
use Rattle.tree_types.specs.declared.entry.Entry.{Entry}
use Rattle.tree_types.specs.declared.entry.Entry.TheVariants.{Submit, Create, File, Release, Save}
use Rattle.meaning.specs.Answers.{Facts}
use Rattle.history.specs.History.{Event}
use Rattle.saves.specs.declared.Saved.{Saved}
use Rattle.memo_cache.specs.Saving.{save_of}
use Rattle.sync_locks.specs.Book as locks
use Rattle.wf_bundle.specs.declared.document.Document as bundle
use Rattle.law.specs.Documents.{Text}
use Rattle.law.specs.Contents as law
use Rattle.law.specs.Contents.{Flow, PodObject, Content, OfWorkflow, OfPod, OfLocks, OfCaches, flow, begun_pod, book_after, saves_after, Story, requests_in, saves_in}
use Rattle.law.specs.Justified as justified_by
use Rattle.wf_object.specs.Documents.{law_of}

-- ---- kinds of contents

-- a lock book, as the law has it
abbrev pub law_book : locks.Book → law.Book
law_book b = record { limits = b.limits; requests = b.requests }

abbrev pub locks_in : Option Content → Option law.Book
locks_in (Some (OfLocks b)) = Some b
locks_in _ = None

abbrev pub caches_in : Option Content → Option (List Saved)
caches_in (Some (OfCaches ss)) = Some ss
caches_in _ = None

-- the requests and the saves of the law are those of a lock book and of caches
pub record KindsTell : Type 0 where
  pub locks : (c : Option Content) (b : law.Book) → locks_in c ≡ Some b → requests_in c ≡ b.requests
  pub caches : (c : Option Content) (ss : List Saved) → caches_in c ≡ Some ss → saves_in c ≡ ss

-- ---- what makes them

-- the workflow of this name, with what its submission carries over
pub record MakesFlow (w : Text) (facts : Facts) (f : Flow) : Type 0 where
  pub name : f.manifest.name ≡ w
  pub is : f ≡ flow f.manifest facts

abbrev pub makes_flow : Flow → Entry → Type 0
makes_flow f (Submit w old facts) = MakesFlow w facts f
makes_flow f _ = ⊥

abbrev pub makes_pod : PodObject → Entry → Type 0
makes_pod pod (Create w n p begin) = pod ≡ begun_pod p begin
makes_pod pod _ = ⊥

abbrev pub makes_content : Entry → Content → Type 0
makes_content e (OfWorkflow f) = makes_flow f e
makes_content e (OfPod pod) = makes_pod pod e
makes_content e _ = ⊥

abbrev pub makes : Key → Entry → Content → Type 0
makes k e c = makes_content e c

-- ---- the law

-- what a store of these limits begins with
abbrev pub start_of : List Limit → List (Key × Content)
start_of limits =
    (of_key.Locks, OfLocks record { limits = limits; requests = [] }) ∷ (of_key.Caches, OfCaches []) ∷ []

abbrev pub begins : bundle.Document → List (Key × Content) → Type 0
begins D start = start ≡ law.starts (law_of D)

abbrev pub justified : bundle.Document → Story → Event Content → Type 0
justified D h e = justified_by.Justified (law_of D) h e

-- ---- changes

-- what a lock book makes of a filing and of a release is what the law says
pub record BooksFollow : Type 0 where
  pub filed :
      (b : locks.Book) (lock : LockId) (key : HolderKey) (rank : Rank) →
      book_after (law_book b) (File lock key rank) ≡ Some (OfLocks (law_book (locks.with_filed lock key rank b)))
  pub released :
      (b : locks.Book) (lock : LockId) (key : HolderKey) →
      book_after (law_book b) (Release lock key) ≡ Some (OfLocks (law_book (locks.with_freed key b)))

-- and what caches make of a save
abbrev pub SavesFollow : Type 0
SavesFollow =
    (ss : List Saved) (cache key : Text) (writer : HolderKey) (outputs : Outputs) (tick : ℕ) →
    saves_after ss (Save cache key writer outputs tick)
    ≡ Some (OfCaches (ss ++ save_of cache key writer outputs tick ∷ []))
