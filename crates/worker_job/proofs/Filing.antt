-- What is left to be filed: nothing goes on to be left where no lock is new, and no more is left where no request is lost.
use Rattle.std.proofs.Common.{◌≡◌, Bool, true, false, true≢false, cond, not, ◌&&◌, List, [], ◌∷◌, ◌++◌, ◌+◌, length, inl, inr, refl, sym, ap, ◌∙◌, subst, Bor, Option, Some, None, Result, Ok, Err, option_and_then, option_map}
use Rattle.std.specs.Prelude.{is_some, is_none, option_copied, IfOk}
use Rattle.std.specs.List.{find, filter}
use Rattle.tree_types.specs.declared.path.Path.{Path}
use Rattle.tree_types.specs.declared.path.LockId.{LockId}
use Rattle.tree_types.specs.declared.want.Want.{Want}
use Rattle.tree_types.specs.declared.want.Want.TheVariants as want
use Rattle.wf_manifest.specs.declared.manifest.Manifest.{Manifest}
use Rattle.meaning.specs.Answers.{Facts}
use Rattle.meaning.specs.Trees.{wants}
use Rattle.growth.specs.Growth.{Among}
use Rattle.tree_state.specs.declared.kinds.WantKind.{WantKind}
use Rattle.tree_state.specs.declared.kinds.WantKind.TheVariants as kind
use Rattle.tree_state.specs.Asking.{is_of}
use Rattle.books.specs.declared.Request.{Request}
use Rattle.books.specs.Books.{request_of}
use Rattle.ahead.specs.Left.{AheadOf, FindsBy}
use Rattle.ahead.proofs.Laws.{fewer_left, known_ahead, none_known, none_ahead, none_left, finds_among}
use Rattle.pod_laws.specs.NewPods.{NoneNew}
use Rattle.pod_laws.specs.NewLocks.{locks as locks_of}
use Rattle.pod_laws.proofs.OfKind.{want_of, of_kind}
use Rattle.tree_incr.specs.Workflows.{Workflow}
use Rattle.tree_incr.specs.NewLocks.{LastAddsNoLock}
use Rattle.law.specs.Documents.{Text}
use Rattle.law.specs.Contents.{Flow, Book, Content, flow_in}
use Rattle.object_store.specs.declared.snapshot.Snapshot.{Snapshot}
use Rattle.sync_locks.specs.Book as locks
use Rattle.wf_object.specs.Kept.{law_book, locks_in}
use Rattle.law.specs.Due.{Matter}
use Rattle.law.specs.Justified.{wants_of, key}
use Rattle.next_step.specs.Views.{Seen}
use Rattle.next_step.specs.Next as next
use Rattle.next_step.specs.Replies.{seen}
use Rattle.worker_job.specs.declared.reading.Reading.{Reading}
use Rattle.worker_job.specs.Jobs.{OneJob, HasMore, KeepsRequests, ShowsFlow}
use Rattle.worker_job.specs.Inside.{flow_seen, book_seen}
use Rattle.worker_job.specs.Inside.Left.{LeftOf, LeftFits}
use Rattle.worker_job.specs.Readings as reads
use Rattle.worker_job.specs.Inside.Filing.{is_unknown, to_file, NoneUnknown, FiledOf, FiledFits, FilingOf, FilingFits}
use Rattle.worker_job.proofs.Lasting.{one_more}
use Rattle.worker_job.proofs.Passing.{off_at, lacks_by}

abbrev asks_unknown : Text → List Request → Want → Bool
asks_unknown w rs a = is_of kind.Lock a && is_unknown w rs a

-- ---- no lock is new

module _ (w : Text) (rs : List Request) (older newer : List Want) (none : NoneNew (filter (is_of kind.Lock) newer) (filter (is_of kind.Lock) older)) (known : NoneUnknown w rs older) where
  still : (a : Want) → Among a newer → asks_unknown w rs a ≡ false
  still (want.Lock p l) here =
      off_at (asks_unknown w rs) older (want.Lock p l)
      (want_of kind.Lock (want.Lock p l) older (none (want.Lock p l) (of_kind kind.Lock (want.Lock p l) newer refl here)))
      known
  still (want.Pod p) here = refl
  still (want.LookUp p cache entry age) here = refl
  still (want.Arming p) here = refl
  still (want.Timer p tick) here = refl
  still (want.Save p cache entry o) here = refl

  pub still_known : NoneUnknown w rs newer
  still_known = lacks_by (asks_unknown w rs) newer still

-- by one fact more
pub none_new_by : (f g : Flow) → HasMore f g → length g.journal ≡ length f.journal + 1 → (state : Workflow) → state ≡ record { manifest = g.manifest; facts = g.journal } → LastAddsNoLock state → NoneNew (locks_of g.manifest g.journal) (locks_of f.manifest f.journal)
none_new_by f g has one state is told =
    let adds = subst LastAddsNoLock is told in
    let same : adds.before ≡ f.journal = one_more f.journal g.journal adds.before has.more adds.fact adds.last has.journal one in
    subst (λ m. NoneNew (locks_of g.manifest g.journal) (locks_of m f.journal)) has.manifest
    (subst (λ J. NoneNew (locks_of g.manifest g.journal) (locks_of g.manifest J)) same adds.locks)

-- ---- no request is lost

module _ (w : Text) (rs ts : List Request) (keeps : KeepsRequests rs ts) where
  lost_before : (p : Path) (o : Option Request) → request_of ts (key w p) ≡ o → is_none o ≡ true → is_none (request_of rs (key w p)) ≡ true
  lost_before p None e is = ap is_none (keeps (key w p) e)
  lost_before p (Some r) e is = absurd (true≢false (sym is))

  -- what is unknown now was unknown before
  pub unknown_before : (a : Want) → is_unknown w ts a ≡ true → is_unknown w rs a ≡ true
  unknown_before (want.Lock p l) e = lost_before p (request_of ts (key w p)) refl e
  unknown_before (want.Pod p) e = e
  unknown_before (want.LookUp p cache entry age) e = e
  unknown_before (want.Arming p) e = e
  unknown_before (want.Timer p tick) e = e
  unknown_before (want.Save p cache entry o) e = e

-- ---- what a job knows

-- by the book that a view has
pub known_by :
    (w : Text) (j : OneJob) (b : Bool) (f : Flow) (book : locks.Book) (view : Option (Seen Book)) → w ≡ j.workflow →
    Some (law_book book) ≡ option_map (λ (s : Seen Book). s.content) view → (b ≡ true → NoneUnknown w book.requests (wants_of f)) →
    FiledOf b j.workflow f view
known_by w j b f book None same shown known = absurd (cc)
known_by w j b f book (Some c) same shown known = record {
  none = λ is d viewed.
      let here : law_book book ≡ c.content = cc in
      let other : c ≡ d = cc in
      subst (λ w. NoneUnknown w d.content.requests (wants_of f)) same
      (subst (λ (x : Book). NoneUnknown w x.requests (wants_of f)) (here ∙ ap (λ (s : Seen Book). s.content) other) (known is));
}

module _ (j : OneJob) (s : Snapshot Content) (shows : ShowsFlow s j.workflow j.views) where
  -- the workflow of a view is the one in its snapshot
  pub shown_flow : (f : Flow) (v : Seen Flow) → Some f ≡ flow_in (Some s.content) → j.views.flow ≡ Some v → f ≡ v.content
  shown_flow f v found viewed =
      let same : Some f ≡ Some shows.flow = found ∙ ap (λ (c : Content). flow_in (Some c)) shows.content in
      let one : f ≡ shows.flow = cc in
      let seen_so : Some (seen s.version shows.flow s.tick) ≡ Some v = sym shows.viewed ∙ viewed in
      let other : seen s.version shows.flow s.tick ≡ v = cc in
      one ∙ ap (λ (x : Seen Flow). x.content) other

  -- of the workflow in the snapshot
  pub left_of :
      {C : Type 0} (k : WantKind) (left : C → Want → Bool) (ahead : Option (List Want)) (view : Option (Seen C)) (f : Flow) →
      Some f ≡ flow_in (Some s.content) → LeftFits k left ahead j.views.flow view → LeftOf k left ahead f view
  left_of k left ahead view f found fits =
      let flow = seen s.version shows.flow s.tick in
      subst (λ (f : Flow). LeftOf k left ahead f view) (sym (shown_flow f flow found shows.viewed)) (fits flow shows.viewed)

  -- by a book that is read now
  pub known_all :
      (w : Text) (b : Bool) (f : Flow) (t : Snapshot Content) (book : locks.Book) → w ≡ j.workflow →
      Some f ≡ flow_in (Some s.content) → Some (law_book book) ≡ locks_in (Some t.content) →
      (b ≡ true → NoneUnknown w book.requests (wants_of f)) → FiledFits b j.workflow j.views.flow (book_seen t)
  known_all w b f t book same found kept known = λ v viewed. record {
    none = λ is c shown.
        let read : Some (seen t.version (law_book book) t.tick) ≡ Some c = ap (option_map (λ (x : Book). seen t.version x t.tick)) kept ∙ shown in
        let here : seen t.version (law_book book) t.tick ≡ c = cc in
        subst (λ (f : Flow). NoneUnknown j.workflow c.content.requests (wants_of f)) (shown_flow f v found viewed)
        (subst (λ w. NoneUnknown w c.content.requests (wants_of f)) same
        (subst (λ (x : Book). NoneUnknown w x.requests (wants_of f)) (ap (λ (x : Seen Book). x.content) here) (known is)));
  }

  -- over one fact more
  pub still_filed :
      (filed adds : Bool) (before f : Flow) → FiledFits filed j.workflow j.views.flow j.views.book →
      Some before ≡ flow_in (Some s.content) →
      (adds ≡ true → NoneNew (locks_of f.manifest f.journal) (locks_of before.manifest before.journal)) →
      filed ≡ true → FiledOf adds j.workflow f j.views.book
  still_filed filed adds before f fits found none was = record {
    none = λ is c viewed.
        let flow = seen s.version shows.flow s.tick in
        let same : before ≡ flow.content = shown_flow before flow found shows.viewed in
        still_known j.workflow c.content.requests (wants_of before) (wants_of f) (none is)
        (subst (λ (x : Flow). NoneUnknown j.workflow c.content.requests (wants_of x)) (sym same) ((fits flow shows.viewed).none was c viewed));
  }

-- of a workflow that is read now
pub fits_flow :
    (b : Bool) (w : Text) (f : Flow) (t : Snapshot Content) (book : Option (Seen Book)) → Some f ≡ flow_in (Some t.content) →
    FiledOf b w f book → FiledFits b w (flow_seen t) book
fits_flow b w f t book found filed = λ v viewed.
    let read : Some (seen t.version f t.tick) ≡ Some v = ap (option_map (λ (x : Flow). seen t.version x t.tick)) found ∙ viewed in
    let one : seen t.version f t.tick ≡ v = cc in
    subst (λ (f : Flow). FiledOf b w f book) (ap (λ (x : Seen Flow). x.content) one) filed

-- where none is found
pub none_by_state :
    (w : Text) (rs : List Request) (f : Flow) (state : Workflow) (o : Option (Bor Want)) (b : Bool) →
    state ≡ record { manifest = f.manifest; facts = f.journal } →
    option_copied o ≡ find (λ a. is_of kind.Lock a && is_unknown w rs a) (wants state.manifest state.facts) →
    is_some o ≡ not b → b ≡ true → NoneUnknown w rs (wants_of f)
none_by_state w rs f state None b same found told is =
    sym (found ∙ ap (λ (s : Workflow). find (λ a. is_of kind.Lock a && is_unknown w rs a) (wants s.manifest s.facts)) same)
none_by_state w rs f state (Some a) b same found told is = absurd (true≢false (told ∙ ap not is))

-- ---- what is left

-- nothing, where each lock is known to be filed
none_filed : (b : Bool) (w : Text) (f : Flow) (book : Option (Seen Book)) → FiledOf b w f book → FilingOf (cond b (Some []) None) w f book
none_filed true w f book filed = record {
  fits = λ c viewed. known_ahead kind.Lock (to_file w c.content) [] (wants_of f) (none_ahead kind.Lock (to_file w c.content) (wants_of f) (filed.none refl c viewed));
}
none_filed false w f book filed = record { fits = λ c viewed. none_known kind.Lock (to_file w c.content) None (wants_of f) refl }

pub filing_by :
    (b : Bool) (w : Text) (flow : Option (Seen Flow)) (book : Option (Seen Book)) (ahead : Option (List Want)) → ahead ≡ cond b (Some []) None →
    FiledFits b w flow book → FilingFits ahead w flow book
filing_by b w flow book ahead is filed = λ s viewed.
    subst (λ (o : Option (List Want)). FilingOf o w s.content book) (sym is) (none_filed b w s.content book (filed s viewed))

-- where nothing is left, each lock is filed
pub filed_by_nothing :
    (w : Text) (flow : Option (Seen Flow)) (book : Option (Seen Book)) (ahead : Option (List Want)) → ahead ≡ Some [] →
    FilingFits ahead w flow book → FiledFits true w flow book
filed_by_nothing w flow book ahead is fits = λ s viewed. record {
  none = λ _ c shown.
      none_left kind.Lock (to_file w c.content) (wants_of s.content) (((fits s viewed).fits c shown).fits [] is);
}

-- where it is not known what is left, nothing is told
pub unknown_fits :
    {C : Type 0} (k : WantKind) (left : C → Want → Bool) (ahead : Option (List Want)) (flow : Option (Seen Flow)) (view : Option (Seen C)) →
    ahead ≡ None → LeftFits k left ahead flow view
unknown_fits k left ahead flow view is = λ s viewed. record {
  fits = λ c shown. none_known k (left c.content) ahead (wants_of s.content) is;
}

module _ (k : WantKind) (t : Text → Want → Bool) (j : OneJob) (w : Text) (same : w ≡ j.workflow) (s : Snapshot Content) (shows : ShowsFlow s j.workflow j.views) (object : Flow) (found : Some object ≡ flow_in (Some s.content)) (state : Workflow) (is : state ≡ record { manifest = object.manifest; facts = object.journal }) where
  -- by an object that goes on from the one that was read
  pub ready :
      {C : Type 0} (left : C → Want → Bool) (ahead : Option (List Want)) (view : Option (Seen C)) (c : Seen C) → view ≡ Some c →
      ((a : Want) → t j.workflow a ≡ true → left c.content a ≡ true) → LeftFits k left ahead j.views.flow view →
      AheadOf k (t w) ahead (wants state.manifest state.facts)
  ready left ahead view c viewed more fits =
      let v = seen s.version shows.flow s.tick in
      subst (λ (x : Workflow). AheadOf k (t w) ahead (wants x.manifest x.facts)) (sym is)
      (subst (λ (w : Text). AheadOf k (t w) ahead (wants_of object)) (sym same)
      (subst (λ (f : Flow). AheadOf k (t j.workflow) ahead (wants_of f)) (sym (shown_flow j s shows object v found shows.viewed))
      (fewer_left k (left c.content) (t j.workflow) ahead (wants_of shows.flow) more ((fits v shows.viewed).fits c viewed))))

  pub moved_on :
      {E : Type 0} (r : Result (Option (List Want)) E) → IfOk r (λ a. AheadOf k (t w) a (wants state.manifest state.facts)) →
      IfOk r (λ a. (v : Seen Flow) → j.views.flow ≡ Some v → AheadOf k (t j.workflow) a (wants_of v.content))
  moved_on (Err e) left = tt
  moved_on (Ok a) left = λ v viewed.
      subst (λ (f : Flow). AheadOf k (t j.workflow) a (wants_of f)) (shown_flow j s shows object v found viewed)
      (subst (λ (w : Text). AheadOf k (t w) a (wants_of object)) same
      (subst (λ (x : Workflow). AheadOf k (t w) a (wants x.manifest x.facts)) is left))

-- by the book in a snapshot
pub in_book :
    (w : Text) (flow : Option (Seen Flow)) (t : Snapshot Content) (book : locks.Book) (ahead : Option (List Want)) →
    Some (law_book book) ≡ locks_in (Some t.content) →
    ((s : Seen Flow) → flow ≡ Some s → AheadOf kind.Lock (is_unknown w book.requests) ahead (wants_of s.content)) →
    FilingFits ahead w flow (book_seen t)
in_book w flow t book ahead kept left = λ s viewed. record {
  fits = λ c shown.
      let read : Some (seen t.version (law_book book) t.tick) ≡ Some c = ap (option_map (λ (x : Book). seen t.version x t.tick)) kept ∙ shown in
      let here : seen t.version (law_book book) t.tick ≡ c = cc in
      subst (λ (x : Seen Book). AheadOf kind.Lock (to_file w x.content) ahead (wants_of s.content)) here (left s viewed);
}

-- ---- what is sought among what is left to be filed

module _ (r : Reading) where
  abbrev filed_by : Path → LockId → Option (Seen Book) → Option Matter
  filed_by p l o = option_and_then (λ (b : Seen Book). next.if_unknown (reads.law r) (reads.workflow r) (reads.views r) (reads.flow r) p l (request_of b.content.requests (key (reads.workflow r) p))) o

  by_request : (p : Path) (l : LockId) (o : Option Request) → is_some (next.if_unknown (reads.law r) (reads.workflow r) (reads.views r) (reads.flow r) p l o) ≡ true → is_none o ≡ true
  by_request p l None e = refl
  by_request p l (Some q) e = absurd (true≢false (sym e))

  filing_unknown : (b : Seen Book) → (reads.views r).book ≡ Some b → (a : Want) → is_some (reads.filing r a) ≡ true → is_unknown (reads.workflow r) b.content.requests a ≡ true
  filing_unknown b viewed (want.Lock p l) e =
      by_request p l (request_of b.content.requests (key (reads.workflow r) p)) (ap (λ (o : Option (Seen Book)). is_some (filed_by p l o)) (sym viewed) ∙ e)
  filing_unknown b viewed (want.Pod p) e = e
  filing_unknown b viewed (want.LookUp p cache entry age) e = e
  filing_unknown b viewed (want.Arming p) e = e
  filing_unknown b viewed (want.Timer p tick) e = e
  filing_unknown b viewed (want.Save p cache entry o) e = e

  no_filing : (reads.views r).book ≡ None → (a : Want) → is_some (reads.filing r a) ≡ false
  no_filing none (want.Lock p l) = ap (λ (o : Option (Seen Book)). is_some (filed_by p l o)) none
  no_filing none (want.Pod p) = refl
  no_filing none (want.LookUp p cache entry age) = refl
  no_filing none (want.Arming p) = refl
  no_filing none (want.Timer p tick) = refl
  no_filing none (want.Save p cache entry o) = refl

  none_at_all : (a : Want) (k b : Bool) → b ≡ false → (k && b) ≡ false
  none_at_all a true b e = e
  none_at_all a false b e = refl

  both_none : (o : Option (List Want)) (ws : List Want) → ((a : Want) → is_some (reads.filing r a) ≡ false) → FindsBy kind.Lock (λ a. is_some (reads.filing r a)) o ws
  both_none o ws none = record {
    finds = λ ahead known.
        lacks_by (λ a. is_some (reads.filing r a)) ahead (λ a _. none a)
        ∙ sym (lacks_by (λ a. is_of kind.Lock a && is_some (reads.filing r a)) ws (λ a _. none_at_all a (is_of kind.Lock a) (is_some (reads.filing r a)) (none a)));
  }

  among_by : (o : Option (Seen Book)) → (reads.views r).book ≡ o → reads.KnowsFiling r → FindsBy kind.Lock (λ a. is_some (reads.filing r a)) r.to_file.now (wants_of r.object.now)
  among_by None viewed knows = both_none r.to_file.now (wants_of r.object.now) (no_filing viewed)
  among_by (Some b) viewed knows =
      finds_among kind.Lock (to_file (reads.workflow r) b.content) (λ a. is_some (reads.filing r a)) r.to_file.now (wants_of r.object.now)
      (filing_unknown b viewed) (knows.fits b viewed)

  pub filing_among :
      (state : Workflow) → state ≡ record { manifest = r.object.now.manifest; facts = r.object.now.journal } → reads.KnowsFiling r →
      FindsBy kind.Lock (λ a. is_some (reads.filing r a)) r.to_file.now (wants state.manifest state.facts)
  filing_among state is knows =
      subst (λ (x : Workflow). FindsBy kind.Lock (λ a. is_some (reads.filing r a)) r.to_file.now (wants x.manifest x.facts)) (sym is) (among_by (reads.views r).book refl knows)
