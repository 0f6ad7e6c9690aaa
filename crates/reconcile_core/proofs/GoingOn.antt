-- Why a workflow goes on from the one that was read by a fact, saves by one more, and the book by a filing or a release.
use Rattle.std.proofs.Common.{◌≡◌, cond, List, [], ◌∷◌, ◌++◌, refl, sym, ◌∙◌, ap, subst, inl, inr, Option, Some, None, option_map, Result, Ok, Err}
use Rattle.std.specs.Prelude.{IfOk}
use Rattle.tree_types.specs.declared.fact.Fact.{Fact}
use Rattle.tree_types.specs.declared.entry.Entry.{Entry}
use Rattle.tree_types.specs.declared.entry.Entry.TheVariants.{File, Release}
use Rattle.tree_types.specs.declared.entry.HolderKey.{HolderKey}
use Rattle.tree_types.specs.declared.entry.Limit.{Limit}
use Rattle.tree_types.specs.declared.entry.Rank.{Rank}
use Rattle.tree_types.specs.declared.path.LockId.{LockId}
use Rattle.tree_types.specs.declared.outcome.Outputs.{Outputs}
use Rattle.books.specs.declared.Request.{Request}
use Rattle.books.specs.Books.{key_eq, request, release_one, filed, freed, request_of}
use Rattle.books.proofs.Requests.{GoesOn as RequestGoesOn, or_else, filed_goes_on, freed_goes_on}
use Rattle.saves.specs.declared.Saved.{Saved}
use Rattle.memo_cache.specs.Saving.{save_of}
use Rattle.object_store.specs.declared.snapshot.Snapshot.{Snapshot}
use Rattle.object_store.specs.declared.refused.StoreRefused.{StoreRefused}
use Rattle.law.specs.Documents.{Text}
use Rattle.law.specs.Contents.{Flow, Book, Content, OfWorkflow, OfLocks, OfCaches, flow, flow_in, with_requests, apply}
use Rattle.law.specs.Due.{Matter, record_fact, file, create, save, release, submit}
use Rattle.lawful.proofs.Facts.{some_same}
use Rattle.wf_object.specs.Kept.{locks_in, caches_in}
use Rattle.next_step.specs.Views.{Seen, Views}
use Rattle.next_step.specs.Changes.{tick_seen}
use Rattle.worker_job.specs.Jobs.{GoesOn, FactGoesOn, SavesGoOn, SaveGoesOn, KeepsRequests, BookGoesOn, LocksGoOn}
use Rattle.reconcile_core.specs.declared.plan.Plan.{Plan}
use Rattle.reconcile_core.specs.Plans.{Leads, content_seen, IsPlan}

-- a key that has no request after a release had none before
freed_lost : (k : HolderKey) (o q : Option Request) → RequestGoesOn (option_map (release_one k) o) q → q ≡ None → o ≡ None
freed_lost k None q goes e = refl
freed_lost k (Some r) q (inl is) e = absurd (cc)
freed_lost k (Some r) q (inr is) e = let held = is.1 in absurd (cc)

freed_keeps : (limits : List Limit) (k : HolderKey) (rs : List Request) → KeepsRequests rs (freed limits k rs)
freed_keeps limits k rs key lost = freed_lost k (request_of rs key) (request_of (freed limits k rs) key) (freed_goes_on limits k rs key) lost

-- nor had one that has none after a filing
filed_lost : (o new q : Option Request) → RequestGoesOn (or_else o new) q → q ≡ None → o ≡ None
filed_lost None new q goes e = refl
filed_lost (Some r) new q (inl is) e = absurd (cc)
filed_lost (Some r) new q (inr is) e = let held = is.1 in absurd (cc)

filed_keeps : (limits : List Limit) (l : LockId) (k : HolderKey) (r : Rank) (rs : List Request) → KeepsRequests rs (filed limits l k r rs)
filed_keeps limits l k r rs key lost =
    filed_lost (request_of rs key) (cond (key_eq key k) (Some (request l k r)) None) (request_of (filed limits l k r rs) key) (filed_goes_on limits l k r rs key) lost

module _ (w : Text) (v : Views) where
  fact_goes_on : (x : Fact) (p : Plan) → IsPlan w v (record_fact x) p → GoesOn v p.content
  fact_goes_on x p is = λ s f viewed shown.
      let same : is.flow ≡ s = some_same is.flow s (sym is.viewed ∙ viewed) in
      let leads = subst (λ (o : Option (Seen Flow)). Leads (content_seen OfWorkflow o) p None) is.viewed is.leads in
      let left : Some (OfWorkflow (flow is.flow.content.manifest (is.flow.content.journal ++ is.facts))) ≡ Some p.content = ap (λ (e : Entry). apply (OfWorkflow is.flow.content) e) is.entry ∙ leads.1 in
      let now : flow is.flow.content.manifest (is.flow.content.journal ++ is.facts) ≡ f = some_same (flow is.flow.content.manifest (is.flow.content.journal ++ is.facts)) f (ap flow_in left ∙ shown) in
      record {
        manifest = sym (ap (λ (f : Flow). f.manifest) now) ∙ ap (λ (s : Seen Flow). s.content.manifest) same;
        more = is.facts;
        journal = sym (ap (λ (f : Flow). f.journal) now) ∙ ap (λ (s : Seen Flow). s.content.journal ++ is.facts) same;
      }

  goes_on : (m : Matter) (p : Plan) → IsPlan w v m p → FactGoesOn m v p.content
  goes_on (record_fact x) p is = fact_goes_on x p is
  goes_on (file l k r) p is = tt
  goes_on (create q name) p is = tt
  goes_on (save c e k o) p is = tt
  goes_on (release l k) p is = tt
  goes_on (submit c) p is = tt

  pub answer_goes_on : (m : Matter) (p : Plan) (r : Result (Snapshot Content) StoreRefused) → IsPlan w v m p → IfOk r (λ s. s.content ≡ p.content) → IfOk r (λ s. FactGoesOn m v s.content)
  answer_goes_on m p (Ok s) is same = subst (FactGoesOn m v) (sym same) (goes_on m p is)
  answer_goes_on m p (Err e) is same = tt

  -- ---- saves

  one_more : (cache entry : Text) (k : HolderKey) (o : Outputs) (p : Plan) → IsPlan w v (save cache entry k o) p → SavesGoOn v p.content
  one_more cache entry k o p is = λ s ss viewed shown.
      let one : Saved = save_of cache entry k o (tick_seen v.saves) in
      let leads = subst (λ (c : Option (Seen (List Saved))). Leads (content_seen OfCaches c) p None) viewed is.leads in
      let left : Some (OfCaches (s.content ++ one ∷ [])) ≡ Some p.content = ap (λ (e : Entry). apply (OfCaches s.content) e) is.entry ∙ leads.1 in
      record { more = one ∷ []; saves = sym (some_same (s.content ++ one ∷ []) ss (ap caches_in left ∙ shown)) }

  saves_go_on : (m : Matter) (p : Plan) → IsPlan w v m p → SaveGoesOn m v p.content
  saves_go_on (record_fact x) p is = tt
  saves_go_on (file l k r) p is = tt
  saves_go_on (create q name) p is = tt
  saves_go_on (save c e k o) p is = one_more c e k o p is
  saves_go_on (release l k) p is = tt
  saves_go_on (submit c) p is = tt

  -- ---- filings and releases

  -- the change of the book keeps the requests
  book_goes_on :
      (p : Plan) (e : Entry) (after : Book → List Request) → ((b : Book) → apply (OfLocks b) e ≡ Some (with_requests b (after b))) →
      ((b : Book) → KeepsRequests b.requests (after b)) → e ≡ p.change → Leads (content_seen OfLocks v.book) p None → BookGoesOn v p.content
  book_goes_on p e after makes keeps same leads = λ s b viewed shown.
      let led = subst (λ (c : Option (Seen Book)). Leads (content_seen OfLocks c) p None) viewed leads in
      let left : Some (with_requests s.content (after s.content)) ≡ Some p.content = sym (makes s.content) ∙ ap (λ (e : Entry). apply (OfLocks s.content) e) same ∙ led.1 in
      let now = some_same (record s.content { requests = after s.content }) b (ap locks_in left ∙ shown) in
      λ key lost. keeps s.content key (ap (λ (b : Book). request_of b.requests key) now ∙ lost)

  locks_go_on : (m : Matter) (p : Plan) → IsPlan w v m p → LocksGoOn m v p.content
  locks_go_on (record_fact x) p is = tt
  locks_go_on (file l k r) p is =
      book_goes_on p (File l k r) (λ (b : Book). filed b.limits l k r b.requests) (λ b. refl) (λ b. filed_keeps b.limits l k r b.requests) is.entry is.leads
  locks_go_on (create q name) p is = tt
  locks_go_on (save c e k o) p is = tt
  locks_go_on (release l k) p is =
      book_goes_on p (Release l k) (λ (b : Book). freed b.limits k b.requests) (λ b. refl) (λ b. freed_keeps b.limits k b.requests) is.entry is.leads
  locks_go_on (submit c) p is = tt

  pub answer_locks : (m : Matter) (p : Plan) (r : Result (Snapshot Content) StoreRefused) → IsPlan w v m p → IfOk r (λ s. s.content ≡ p.content) → IfOk r (λ s. LocksGoOn m v s.content)
  answer_locks m p (Ok s) is same = subst (LocksGoOn m v) (sym same) (locks_go_on m p is)
  answer_locks m p (Err e) is same = tt

  pub answer_saves : (m : Matter) (p : Plan) (r : Result (Snapshot Content) StoreRefused) → IsPlan w v m p → IfOk r (λ s. s.content ≡ p.content) → IfOk r (λ s. SaveGoesOn m v s.content)
  answer_saves m p (Ok s) is same = subst (SaveGoesOn m v) (sym same) (saves_go_on m p is)
  answer_saves m p (Err e) is same = tt
