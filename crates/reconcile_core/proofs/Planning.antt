-- Why the change of an act can be made: what its step has seen.
use Rattle.std.proofs.Common.{◌≡◌, false, List, [], ◌∷◌, ◌++◌, refl, sym, ◌∙◌, ap, subst, Option, Some, None, option_map}
use Rattle.tree_types.specs.declared.path.LockId.{LockId}
use Rattle.tree_types.specs.declared.fact.Fact.{Fact}
use Rattle.tree_types.specs.declared.outcome.Outputs.{Outputs}
use Rattle.tree_types.specs.declared.entry.HolderKey.{HolderKey}
use Rattle.tree_types.specs.declared.entry.Rank.{Rank}
use Rattle.tree_types.specs.declared.entry.Entry.TheVariants.{File, Release, Save}
use Rattle.tree_types.specs.Journals.{knows}
use Rattle.books.specs.declared.Request.{Request}
use Rattle.books.specs.declared.LockState.TheVariants.{Holding}
use Rattle.books.specs.Books.{request_of, filed, freed}
use Rattle.saves.specs.declared.Saved.{Saved}
use Rattle.saves.specs.Saves.{has_saved}
use Rattle.law.specs.Documents.{Text, Document}
use Rattle.object_store.specs.declared.snapshot.Snapshot.{Snapshot}
use Rattle.law.specs.Contents.{Flow, Book, Content, OfLocks, OfCaches, save_of, apply, flow_in}
use Rattle.wf_object.specs.Kept.{locks_in, caches_in}
use Rattle.worker_job.specs.Jobs.{ShownFlow, ShownBook, ShownSaves}
use Rattle.next_step.specs.Replies.{seen}
use Rattle.law.specs.Due.{Matter, record_fact, file, save, release}
use Rattle.lawful.proofs.Facts.{none_some, some_same}
use Rattle.next_step.specs.Views.{Seen, Views}
use Rattle.next_step.specs.Next.{act, next_by}
use Rattle.next_step.specs.Changes.{change_of, tick_seen}
use Rattle.next_laws.specs.Acts.{ActIsNew}
use Rattle.next_laws.proofs.Reasons.{Reason, by_start, by_end, by_grant, by_wait, by_look, by_arming, by_timer, by_command, by_absence, by_save, by_past, by_over, reason}
use Rattle.reconcile_core.specs.declared.plan.Plan.{Plan}
use Rattle.reconcile_core.specs.Plans.{IsNext, from_content, Leads, IsPlan}

-- ---- what a snapshot shows

pub shown_book : (s : Snapshot Content) (view : Option (Seen Book)) → ShownBook s view → (b : Book) → Some b ≡ locks_in (Some s.content) → view ≡ Some (seen s.version b s.tick)
shown_book s view shown b e =
    shown.viewed ∙ ap (λ x. Some (seen s.version x s.tick)) (some_same shown.book b (sym (e ∙ ap (λ c. locks_in (Some c)) shown.content)))

pub shown_saves : (s : Snapshot Content) (view : Option (Seen (List Saved))) → ShownSaves s view → (b : List Saved) → Some b ≡ caches_in (Some s.content) → view ≡ Some (seen s.version b s.tick)
shown_saves s view shown b e =
    shown.viewed ∙ ap (λ x. Some (seen s.version x s.tick)) (some_same shown.saved b (sym (e ∙ ap (λ c. caches_in (Some c)) shown.content)))

pub shown_flow : (s : Snapshot Content) (w : Text) (view : Option (Seen Flow)) → ShownFlow s w view → (b : Flow) → Some b ≡ flow_in (Some s.content) → view ≡ Some (seen s.version b s.tick)
shown_flow s w view shown b e =
    shown.viewed ∙ ap (λ x. Some (seen s.version x s.tick)) (some_same shown.flow b (sym (e ∙ ap (λ c. flow_in (Some c)) shown.content)))

-- an act is next only by a view of the workflow
pub record HasView (v : Views) : Type 0 where
  pub flow : Seen Flow
  pub viewed : v.flow ≡ Some flow

has_view : (w : Text) (v : Views) (m : Matter) → IsNext w v m → HasView v
has_view w v m n = by v.flow refl n.next
  where
    by : (o : Option (Seen Flow)) → v.flow ≡ o → next_by n.document w v o ≡ act m → HasView v
    by None t e = absurd cc
    by (Some s) t e = record { flow = s; viewed = t }

-- what a change of the lock book or of the saves has seen of them
pub record SeesUnknown (v : Views) (k : HolderKey) : Type 0 where
  pub book : Seen Book
  pub seen : v.book ≡ Some book
  pub unknown : request_of book.content.requests k ≡ None

pub record SeesHolding (v : Views) (k : HolderKey) : Type 0 where
  pub book : Seen Book
  pub seen : v.book ≡ Some book
  pub request : Request
  pub stands : request_of book.content.requests k ≡ Some request
  pub holding : request.state ≡ Holding

pub record SeesUnsaved (v : Views) (k : HolderKey) : Type 0 where
  pub saves : Seen (List Saved)
  pub seen : v.saves ≡ Some saves
  pub unsaved : has_saved k saves.content ≡ false

abbrev pub Sees : Views → Matter → Type 0
Sees v (file lock k rank) = SeesUnknown v k
Sees v (release lock k) = SeesHolding v k
Sees v (save cache entry k o) = SeesUnsaved v k
Sees v _ = Unit {0}

module _ (w : Text) (v : Views) where
  sees_by : (D : Document) (s : Seen Flow) (m : Matter) → Reason D w v s m → Sees v m
  sees_by D s m (by_start k) = tt
  sees_by D s m (by_end p o r) = tt
  sees_by D s m (by_grant p l r i k) = tt
  sees_by D s m (by_look p cache entry age c r) = tt
  sees_by D s m (by_arming p i) = tt
  sees_by D s m (by_timer p t i reached) = tt
  sees_by D s m (by_command a armed c r) = tt
  sees_by D s m (by_wait p l name r) = record { book = r.book; seen = r.seen; unknown = r.unknown }
  sees_by D s m (by_absence p name r) = tt
  sees_by D s m (by_save p cache entry o c r new) = record { saves = c; seen = r.seen; unsaved = new }
  sees_by D s m (by_past p r over k) = record { book = k.book; seen = k.seen; request = r; stands = k.stands; holding = k.holding }
  sees_by D s m (by_over c r) = tt

  pub sees : (m : Matter) → IsNext w v m → Sees v m
  sees m n =
      let view = has_view w v m n in
      sees_by n.document view.flow m (reason n.document w v view.flow m view.viewed n.next)

  -- ---- where nothing was read there is nothing to change

  pub file_has_book : {B : Type 0} (lock : LockId) (k : HolderKey) (rank : Rank) → IsNext w v (file lock k rank) → v.book ≡ None → B
  file_has_book lock k rank n e = let r = sees (file lock k rank) n in none_some r.book (sym e ∙ r.seen)

  pub release_has_book : {B : Type 0} (lock : LockId) (k : HolderKey) → IsNext w v (release lock k) → v.book ≡ None → B
  release_has_book lock k n e = let r = sees (release lock k) n in none_some r.book (sym e ∙ r.seen)

  pub save_has_saves : {B : Type 0} (cache entry : Text) (k : HolderKey) (o : Outputs) → IsNext w v (save cache entry k o) → v.saves ≡ None → B
  save_has_saves cache entry k o n e = let r = sees (save cache entry k o) n in none_some r.saves (sym e ∙ r.seen)

  -- ---- what the book and the saves say

  pub unknown_in : (lock : LockId) (k : HolderKey) (rank : Rank) → IsNext w v (file lock k rank) → (b : Seen Book) → v.book ≡ Some b → request_of b.content.requests k ≡ None
  unknown_in lock k rank n b e =
      let r = sees (file lock k rank) n in
      ap (λ (x : Seen Book). request_of x.content.requests k) (some_same b r.book (sym e ∙ r.seen)) ∙ r.unknown

  pub holding_in : (lock : LockId) (k : HolderKey) → IsNext w v (release lock k) → (b : Seen Book) → v.book ≡ Some b → option_map (λ (r : Request). r.state) (request_of b.content.requests k) ≡ Some Holding
  holding_in lock k n b e =
      let r = sees (release lock k) n in
      ap (λ (x : Seen Book). option_map (λ (r : Request). r.state) (request_of x.content.requests k)) (some_same b r.book (sym e ∙ r.seen))
      ∙ ap (option_map (λ (r : Request). r.state)) r.stands ∙ ap Some r.holding

  pub unsaved_in : (cache entry : Text) (k : HolderKey) (o : Outputs) → IsNext w v (save cache entry k o) → (c : Seen (List Saved)) → v.saves ≡ Some c → has_saved k c.content ≡ false
  unsaved_in cache entry k o n c e =
      let r = sees (save cache entry k o) n in
      ap (λ (x : Seen (List Saved)). has_saved k x.content) (some_same c r.saves (sym e ∙ r.seen)) ∙ r.unsaved

  -- ---- plans

  leads_by : (m : Matter) (s : Seen Flow) (p : Plan) (c : Content) → from_content v m ≡ Some c → (change_of w v s [] m).event.made ≡ None → apply c p.change ≡ Some p.content → Leads (from_content v m) p (change_of w v s [] m).event.made
  leads_by m s p c e none a = subst (λ o. Leads o p (change_of w v s [] m).event.made) (sym e) (none, a)

  pub file_plan : (lock : LockId) (k : HolderKey) (rank : Rank) → IsNext w v (file lock k rank) → (b : Seen Book) → v.book ≡ Some b → (p : Plan) → p.change ≡ File lock k rank → p.content ≡ OfLocks record { limits = b.content.limits; requests = filed b.content.limits lock k rank b.content.requests } → IsPlan w v (file lock k rank) p
  file_plan lock k rank n b e p change content =
      let view = has_view w v (file lock k rank) n in
      record {
        flow = view.flow;
        viewed = view.viewed;
        facts = [];
        adds = tt;
        entry = sym change;
        leads = leads_by (file lock k rank) view.flow p (OfLocks b.content) (ap (option_map (λ (x : Seen Book). OfLocks x.content)) e) refl (ap (apply (OfLocks b.content)) change ∙ ap Some (sym content));
      }

  pub release_plan : (lock : LockId) (k : HolderKey) → IsNext w v (release lock k) → (b : Seen Book) → v.book ≡ Some b → (p : Plan) → p.change ≡ Release lock k → p.content ≡ OfLocks record { limits = b.content.limits; requests = freed b.content.limits k b.content.requests } → IsPlan w v (release lock k) p
  release_plan lock k n b e p change content =
      let view = has_view w v (release lock k) n in
      record {
        flow = view.flow;
        viewed = view.viewed;
        facts = [];
        adds = tt;
        entry = sym change;
        leads = leads_by (release lock k) view.flow p (OfLocks b.content) (ap (option_map (λ (x : Seen Book). OfLocks x.content)) e) refl (ap (apply (OfLocks b.content)) change ∙ ap Some (sym content));
      }

  pub save_plan : (cache entry : Text) (k : HolderKey) (o : Outputs) → IsNext w v (save cache entry k o) → (c : Seen (List Saved)) → v.saves ≡ Some c → (p : Plan) → p.change ≡ Save cache entry k o c.tick → p.content ≡ OfCaches (c.content ++ save_of cache entry k o c.tick ∷ []) → IsPlan w v (save cache entry k o) p
  save_plan cache entry k o n c e p change content =
      let view = has_view w v (save cache entry k o) n in
      record {
        flow = view.flow;
        viewed = view.viewed;
        facts = [];
        adds = tt;
        entry = ap (λ t. Save cache entry k o (tick_seen t)) e ∙ sym change;
        leads = leads_by (save cache entry k o) view.flow p (OfCaches c.content) (ap (option_map (λ (x : Seen (List Saved)). OfCaches x.content)) e) refl (ap (apply (OfCaches c.content)) change ∙ ap Some (sym content));
      }

  -- ---- facts

  pub new_fact : ActIsNew → (x : Fact) → IsNext w v (record_fact x) → (s : Seen Flow) → v.flow ≡ Some s → knows s.content.journal x ≡ false
  new_fact law x n s e = (law n.document w v s x e n.next).1
