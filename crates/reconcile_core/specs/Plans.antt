-- The change that an act makes, with the content that it leaves.
use Rattle.std.specs.Prelude.{◌≡◌, ℕ, Option, Some, None, Result, Ok, Err, option_map}
use Rattle.tree_types.specs.declared.fact.Fact.{Fact}
use Rattle.tree_state.specs.declared.refused.TreeRefused.{TreeRefused}
use Rattle.tree_state.specs.declared.refused.TreeRefused.TheVariants as refused
use Rattle.meaning.specs.Answers.{Facts}
use Rattle.law.specs.Documents.{Text, Document}
use Rattle.object_store.specs.declared.snapshot.Snapshot.{Snapshot}
use Rattle.object_store.specs.declared.refused.StoreRefused.{StoreRefused}
use Rattle.object_store.specs.Answers.{IsOf}
use Rattle.law.specs.Contents.{Flow, Content, OfWorkflow, OfLocks, OfCaches, apply, Story}
use Rattle.law.specs.Due.{Matter, record_fact, file, create, save, release, submit, IsTooLarge}
use Rattle.next_step.specs.Views.{Seen, Views}
use Rattle.next_step.specs.Next.{act, worker_next}
use Rattle.next_step.specs.Changes.{change_of, AddsFor, ViewsOf}
use Rattle.reply_laws.specs.Replies.{change_reply, DidBehind}
use Rattle.worker_job.specs.Told.{key_of}
use Rattle.reconcile_core.specs.declared.plan.Plan.{Plan}

-- it is what the job does next, by some document
pub record IsNext (w : Text) (v : Views) (m : Matter) : Type 0 where
  pub document : Document
  pub next : worker_next document w v ≡ act m

abbrev pub content_seen : {C : Type 0} → (C → Content) → Option (Seen C) → Option Content
content_seen of o = option_map (λ s. of s.content) o

-- the object that it changes, as it was read; a pod and a resubmission are made
abbrev pub from_content : Views → Matter → Option Content
from_content v (record_fact x) = content_seen OfWorkflow v.flow
from_content v (file lock k rank) = content_seen OfLocks v.book
from_content v (release lock k) = content_seen OfLocks v.book
from_content v (save cache entry k outputs) = content_seen OfCaches v.saves
from_content v (create p name) = None
from_content v (submit c) = None

-- it leads there from what was read, or makes it
abbrev pub Leads : Option Content → Plan → Option Content → Type 0
Leads None p made = made ≡ Some p.content
Leads (Some c) p made = (made ≡ None) × (apply c p.change ≡ Some p.content)

pub record IsPlan (w : Text) (v : Views) (m : Matter) (p : Plan) : Type 0 where
  pub flow : Seen Flow
  pub viewed : v.flow ≡ Some flow
  pub facts : Facts
  pub adds : AddsFor flow facts m
  pub entry : (change_of w v flow facts m).event.entry ≡ p.change
  pub leads : Leads (from_content v m) p (change_of w v flow facts m).event.made

-- the fact that is next would make too large a tree
pub record IsFullBy (v : Views) (m : Matter) : Type 0 where
  pub flow : Seen Flow
  pub viewed : v.flow ≡ Some flow
  pub fact : Fact
  pub is : m ≡ record_fact fact
  pub large : IsTooLarge flow.content fact

abbrev pub Plans : Text → Views → Matter → Result Plan TreeRefused → Type 0
Plans w v m (Ok p) = IsPlan w v m p
Plans w v m (Err refused.TooLarge) = IsFullBy v m
Plans w v m (Err refused.Memory) = Unit {0}

-- a snapshot of the object that it changes
pub record IsFrom (w : Text) (v : Views) (m : Matter) (s : Snapshot Content) : Type 0 where
  pub key : s.key ≡ key_of w m
  pub content : from_content v m ≡ Some s.content
  pub number : (flow : Seen Flow) (facts : Facts) → v.flow ≡ Some flow → (change_of w v flow facts m).number ≡ s.version
  pub shown : (seen : Story) → ViewsOf seen w v → IsOf apply s seen

-- the change of the act was made, or refused, at a history that goes on from what was seen
pub record ActDone
    (w : Text) (v : Views) (m : Matter) (seen : Story) (r : Result (Snapshot Content) StoreRefused) (now : Story)
    (others_before others_now : ℕ) : Type 0 where
  pub flow : Seen Flow
  pub viewed : v.flow ≡ Some flow
  pub facts : Facts
  pub adds : AddsFor flow facts m
  pub did : DidBehind seen (change_of w v flow facts m) (change_reply r) now others_before others_now
