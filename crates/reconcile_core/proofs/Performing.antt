-- Why the change of an act that is next may be made, and what its answer is.
use Rattle.std.proofs.Common.{◌≡◌, ℕ, refl, sym, ◌∙◌, ap, ap₂, subst, Option, Some, None, Result}
use Rattle.std.specs.Option.{MatchOption}
use Rattle.tree_types.specs.declared.entry.Key.{Key}
use Rattle.tree_types.specs.declared.entry.Key.TheVariants.{Locks, Caches}
use Rattle.meaning.specs.Answers.{Facts}
use Rattle.history.specs.History.{Event, event, IsVersionOf}
use Rattle.object_store.specs.declared.snapshot.Snapshot.{Snapshot}
use Rattle.object_store.specs.declared.refused.StoreRefused.{StoreRefused}
use Rattle.tree_types.specs.declared.entry.Entry.{Entry}
use Rattle.object_store.specs.Entries.{MakesObject}
use Rattle.object_store.specs.Answers.{IsOf}
use Rattle.store_client.specs.Calls.{WillBeJustified}
use Rattle.wf_bundle.specs.declared.document.Document as bundle
use Rattle.law.specs.Documents.{Text}
use Rattle.law.specs.Contents.{Flow, Content, OfLocks, OfCaches, apply, Story}
use Rattle.law.specs.Due.{Matter, record_fact, file, create, save, release, submit}
use Rattle.lawful.specs.Manifests.{HasValidWorkflows}
use Rattle.lawful.proofs.Facts.{none_some}
use Rattle.next_step.specs.Views.{Seen, Views}
use Rattle.next_step.specs.Next.{act, worker_next}
use Rattle.next_step.specs.Changes.{Change, change, change_of, number_seen, ViewsOf}
use Rattle.next_laws.specs.Acts.{ActsStill, ChangeStill}
use Rattle.reply_laws.specs.Replies.{change_reply, DidBehind}
use Rattle.wf_object.specs.Documents.{law_of}
use Rattle.wf_object.specs.Kept.{begins, justified}
use Rattle.worker_job.specs.Jobs.{ShownBook, ShownSaves}
use Rattle.worker_job.specs.Told.{key_of}
use Rattle.reconcile_core.specs.declared.plan.Plan.{Plan}
use Rattle.reconcile_core.specs.Plans.{content_seen, from_content, Leads, IsPlan, IsFrom, ActDone}

-- ---- the object that an act changes

pub match_map : {X : Type 0} {A B : Type 0} {P Q : X → Type 0} (r : Option X) → (A → B) → ((x : X) → P x → Q x) → MatchOption r A P → MatchOption r B Q
match_map None none some m = none m
match_map (Some x) none some m = some x m

module _ (w : Text) (v : Views) where
  is_of : (seen : Story) (s : Snapshot Content) (k : Key) (c : Content) → s.key ≡ k → s.content ≡ c → IsVersionOf apply seen k s.version c s.tick → IsOf apply s seen
  is_of seen s k c e f is = subst (λ q. IsVersionOf apply seen q s.version s.content s.tick) (sym e) (subst (λ x. IsVersionOf apply seen k s.version x s.tick) (sym f) is)

  book_seen : (s : Snapshot Content) → ShownBook s v.book → (seen : Story) → ViewsOf seen w v → IsOf apply s seen
  book_seen s shown seen views = is_of seen s Locks (OfLocks shown.book) shown.key shown.content (views.book _ shown.viewed)

  saves_seen : (s : Snapshot Content) → ShownSaves s v.saves → (seen : Story) → ViewsOf seen w v → IsOf apply s seen
  saves_seen s shown seen views =
      let c = views.saves _ shown.viewed in
      is_of seen s Caches (OfCaches shown.saved) shown.key shown.content record { before = c.then; extends = c.extends; stood = c.shown.stood; clock = c.shown.clock }

  pub from_book : (m : Matter) → key_of w m ≡ Locks → from_content v m ≡ content_seen OfLocks v.book → ((flow : Seen Flow) (facts : Facts) → (change_of w v flow facts m).number ≡ number_seen v.book) → (s : Snapshot Content) → ShownBook s v.book → IsFrom w v m s
  from_book m k c n s shown = record {
    key = shown.key ∙ sym k;
    content = c ∙ ap (content_seen OfLocks) shown.viewed ∙ ap Some (sym shown.content);
    number = λ flow facts e. n flow facts ∙ ap number_seen shown.viewed;
    shown = book_seen s shown;
  }

  pub from_saves : (m : Matter) → key_of w m ≡ Caches → from_content v m ≡ content_seen OfCaches v.saves → ((flow : Seen Flow) (facts : Facts) → (change_of w v flow facts m).number ≡ number_seen v.saves) → (s : Snapshot Content) → ShownSaves s v.saves → IsFrom w v m s
  from_saves m k c n s shown = record {
    key = shown.key ∙ sym k;
    content = c ∙ ap (content_seen OfCaches) shown.viewed ∙ ap Some (sym shown.content);
    number = λ flow facts e. n flow facts ∙ ap number_seen shown.viewed;
    shown = saves_seen s shown;
  }

  pub none_seen : {C : Type 0} (of : C → Content) (o : Option (Seen C)) → o ≡ None → content_seen of o ≡ None
  none_seen of o e = ap (content_seen of) e

  -- ---- the change of a plan

  same_key : (s : Seen Flow) (facts : Facts) (m : Matter) → (change_of w v s facts m).key ≡ key_of w m
  same_key s facts (record_fact x) = refl
  same_key s facts (file lock k rank) = refl
  same_key s facts (create p name) = refl
  same_key s facts (save cache entry k o) = refl
  same_key s facts (release lock k) = refl
  same_key s facts (submit c) = refl

  -- from nothing something is made
  made_from_none : (s : Seen Flow) (facts : Facts) (m : Matter) (x : Content) → (change_of w v s facts m).event.made ≡ Some x → (change_of w v s facts m).number ≡ 0
  made_from_none s facts (record_fact f) x e = none_some x e
  made_from_none s facts (file lock k rank) x e = none_some x e
  made_from_none s facts (create p name) x e = refl
  made_from_none s facts (save cache entry k o) x e = none_some x e
  made_from_none s facts (release lock k) x e = none_some x e
  made_from_none s facts (submit c) x e = refl

  same_change : (c : Change) (k : Key) (n : ℕ) (e : Event Content) → c.key ≡ k → c.number ≡ n → c.event.entry ≡ e.entry → c.event.made ≡ e.made → c ≡ change k n e
  same_change c k n e a b f g =
      ap₂ (λ i j. record { key = i; number = j; event = c.event }) a b
      ∙ ap₂ (λ x y. record { key = k; number = n; event = record { entry = x; made = y } }) f g

  -- a change that makes an object is of an entry that makes one of its key
  made_as : (s : Seen Flow) (facts : Facts) (m : Matter) (k : Key) (e : Entry) (c : Content) → change_of w v s facts m ≡ change k 0 (event e (Some c)) → MakesObject e k
  made_as s facts (create n name) k e c q =
      subst (λ (y : Entry). MakesObject y k) (ap (λ (x : Change). x.event.entry) q)
      (subst (λ (y : Key). MakesObject (change_of w v s facts (create n name)).event.entry y) (ap (λ (x : Change). x.key) q) (refl, refl))
  made_as s facts (submit a) k e c q =
      subst (λ (y : Entry). MakesObject y k) (ap (λ (x : Change). x.event.entry) q)
      (subst (λ (y : Key). MakesObject (change_of w v s facts (submit a)).event.entry y) (ap (λ (x : Change). x.key) q) (refl, refl))
  made_as s facts (record_fact x) k e c q = none_some c (ap (λ (x : Change). x.event.made) q)
  made_as s facts (file l h r) k e c q = none_some c (ap (λ (x : Change). x.event.made) q)
  made_as s facts (release l h) k e c q = none_some c (ap (λ (x : Change). x.event.made) q)
  made_as s facts (save a n h o) k e c q = none_some c (ap (λ (x : Change). x.event.made) q)

  module _ (m : Matter) (p : Plan) (is : IsPlan w v m p) where
    abbrev The_change : Change
    The_change = change_of w v is.flow is.facts m

    leads_some : (c : Content) → from_content v m ≡ Some c → The_change.event.made ≡ None
    leads_some c e = (subst (λ o. Leads o p The_change.event.made) e is.leads).0

    leads_none : from_content v m ≡ None → The_change.event.made ≡ Some p.content
    leads_none e = subst (λ o. Leads o p The_change.event.made) e is.leads

    pub written : (s : Snapshot Content) → IsFrom w v m s → The_change ≡ change s.key s.version (event p.change None)
    written s f = same_change The_change s.key s.version (event p.change None) (same_key is.flow is.facts m ∙ sym f.key) (f.number is.flow is.facts is.viewed) is.entry (leads_some s.content f.content)

    pub created : (k : Key) → k ≡ key_of w m → from_content v m ≡ None → The_change ≡ change k 0 (event p.change (Some p.content))
    created k e none =
        let made = leads_none none in
        same_change The_change k 0 (event p.change (Some p.content)) (same_key is.flow is.facts m ∙ sym e) (made_from_none is.flow is.facts m p.content made) is.entry made

    pub makes_it : (k : Key) → The_change ≡ change k 0 (event p.change (Some p.content)) → MakesObject p.change k
    makes_it k q = made_as is.flow is.facts m k p.change p.content q

    pub still : (law D : bundle.Document) → law ≡ D → ActsStill → HasValidWorkflows (law_of D) → (seen : Story) → ViewsOf seen w v → worker_next (law_of D) w v ≡ act m → (k : Key) (n : ℕ) (e : Event Content) → The_change ≡ change k n e → WillBeJustified begins justified law apply seen k n e
    still law D same acts valid seen views next k n e q =
        subst (λ l. WillBeJustified begins justified l apply seen k n e) (sym same)
        (λ start. subst (ChangeStill (law_of D) seen) q (acts (law_of D) seen w v is.flow is.facts m valid start views is.viewed next is.adds))

    pub done : (seen now : Story) (r : Result (Snapshot Content) StoreRefused) (before after : ℕ) (k : Key) (n : ℕ) (e : Event Content) → The_change ≡ change k n e → DidBehind seen (change k n e) (change_reply r) now before after → ActDone w v m seen r now before after
    done seen now r before after k n e q d = record {
      flow = is.flow;
      viewed = is.viewed;
      facts = is.facts;
      adds = is.adds;
      did = subst (λ c. DidBehind seen c (change_reply r) now before after) (sym q) d;
    }
