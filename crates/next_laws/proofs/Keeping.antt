-- Why the views of a job that nobody disturbs stay fresh.
use Rattle.std.proofs.Common.{◌≡◌, ℕ, ◌<◌, Bool, true, false, not, cond, ◌&&◌, ◌||◌, bytes_eq, List, [], ◌∷◌, ◌++◌, filter, find, refl, sym, ◌∙◌, ap, subst, Option, Some, None, unwrap_or, true≢false, arith}
use Rattle.std.specs.List.{list_any}
use Rattle.tree_types.specs.declared.entry.Key.{Key}
use Rattle.tree_types.specs.declared.entry.Key.TheVariants.{Workflow, Pod, Locks, Caches}
use Rattle.tree_types.specs.declared.entry.Entry.TheVariants.{Submit}
use Rattle.meaning.specs.Answers.{Facts}
use Rattle.history.specs.Keys.{is_about, tick_of}
use Rattle.history.specs.History.{Event, event, number_of, map_content, Extends, clock_of, version_at, next_version, grown}
use Rattle.history.specs.Sometime.{Stood}
use Rattle.history.proofs.Keys.{bytes_eq-true, bytes_eq-refl}
use Rattle.history.proofs.Extends.{extends_itself, extends_grown, extends_later, clock_from-append, version_at-grown}
use Rattle.history.proofs.Carrying.{was_justified, absent_at}
use Rattle.saves.specs.declared.Saved.{Saved}
use Rattle.law.specs.Documents.{Text, Document}
use Rattle.law.specs.Contents.{Flow, PodObject, Book, Content, OfWorkflow, OfPod, OfLocks, OfCaches, flow, apply, Story, flow_in, number_at}
use Rattle.law.specs.Justified.{carried_facts, renamed, Justified, IsLawful}
use Rattle.law.specs.Due.{Matter, record_fact, file, create, save, release, submit}
use Rattle.lawful.proofs.Facts.{some_same, none_some}
use Rattle.lawful.proofs.Changes.{FlowNext, flow_stays, flow_goes_on, flow_next}
use Rattle.lawful.proofs.Journals.{lawful_then}
use Rattle.next_step.specs.Views.{Seen, Look, Views, nothing, is_look, look_at}
use Rattle.next_step.specs.Next.{get, act}
use Rattle.next_step.specs.Changes.{Change, number_seen, change_of, ShownAt}
use Rattle.next_step.specs.Replies.{Reply, found, accepted, no_object, exists, conflict, fault, Job, goes_on, ended, seen, with_look, taken, missed, did, there, after}
use Rattle.next_step.specs.Calls.{Got, Did, Undisturbed, stays, reads, acts}
use Rattle.next_laws.specs.Fresh.{IsPresent, IsPodNow, IsSubmitted, Fresh}
use Rattle.next_laws.specs.Jobs.{IsConflict}
use Rattle.next_laws.proofs.Gets.{OwnKey, own_key}
use Rattle.next_laws.proofs.ContentKinds.{is_submitted}

abbrev pub FreshJob : Story → Text → Job → Type 0
FreshJob h w (goes_on v) = Fresh h w v
FreshJob h w (ended e) = Unit {0}

-- ---- reads

module _ (h : Story) (w : Text) (v : Views) (fresh : Fresh h w v) where
  look_fresh : (name : Text) (o : Option (Seen PodObject)) → IsPodNow h w name o → Fresh h w (with_look v name o)
  look_fresh name o is = record { flow = fresh.flow; book = fresh.book; saves = fresh.saves; tried = fresh.tried; pods = λ m l e. by m l (bytes_eq name m) refl e }
    where
      by : (m : Text) (l : Look) (b : Bool) → bytes_eq name m ≡ b → cond b (Some record { name = name; found = o }) (look_at v m) ≡ Some l → IsPodNow h w m l.found
      by m l true t e = subst (λ (x : Look). IsPodNow h w m x.found) (some_same record { name = name; found = o } l e) (subst (λ n. IsPodNow h w n o) (bytes_eq-true name m t) is)
      by m l false t e = fresh.pods m l e

  flow_fresh : (n t : ℕ) (f : Flow) → ShownAt h (Workflow w) n (OfWorkflow f) t → Fresh h w (record v { flow = Some (seen n f t); saves = None })
  flow_fresh n t f is = record { book = fresh.book; pods = fresh.pods; tried = fresh.tried; saves = λ x e. none_some x e; flow = λ s e. subst (λ (y : Seen Flow). ShownAt h (Workflow w) y.number (OfWorkflow y.content) y.tick) (some_same (seen n f t) s e) is }

  book_fresh : (n t : ℕ) (b : Book) → IsPresent h Locks n (OfLocks b) → Fresh h w (record v { book = Some (seen n b t) })
  book_fresh n t b is = record { flow = fresh.flow; saves = fresh.saves; pods = fresh.pods; tried = fresh.tried; book = λ x e. subst (λ (y : Seen Book). IsPresent h Locks y.number (OfLocks y.content)) (some_same (seen n b t) x e) is }

  saves_fresh : (n t : ℕ) (ss : List Saved) → ShownAt h Caches n (OfCaches ss) t → Fresh h w (record v { saves = Some (seen n ss t) })
  saves_fresh n t ss is = record { flow = fresh.flow; book = fresh.book; pods = fresh.pods; tried = fresh.tried; saves = λ x e. subst (λ (y : Seen (List Saved)). ShownAt h Caches y.number (OfCaches y.content) y.tick) (some_same (seen n ss t) x e) is }

  tried_fresh : (name : Text) → IsSubmitted h name → Fresh h w (record v { tried = name ∷ v.tried })
  tried_fresh name is = record { flow = fresh.flow; book = fresh.book; saves = fresh.saves; pods = fresh.pods; tried = λ m e. by m (bytes_eq m name) refl e }
    where
      by : (m : Text) (b : Bool) → bytes_eq m name ≡ b → (b || list_any (bytes_eq m) v.tried) ≡ true → IsSubmitted h m
      by m true t e = subst (IsSubmitted h) (sym (bytes_eq-true m name t)) is
      by m false t e = fresh.tried m e

  taken_fresh : (k : Key) → OwnKey w k → (n t : ℕ) (c : Content) → ShownAt h k n c t → FreshJob h w (taken v k n t c)
  taken_fresh (Workflow x) own n t (OfWorkflow f) is = flow_fresh n t f (subst (λ y. ShownAt h (Workflow y) n (OfWorkflow f) t) own is)
  taken_fresh (Pod x name) own n t (OfPod pod) is = look_fresh name (Some (seen n pod t)) (subst (λ y. IsPresent h (Pod y name) n (OfPod pod)) own is.stood)
  taken_fresh Locks own n t (OfLocks b) is = book_fresh n t b is.stood
  taken_fresh Caches own n t (OfCaches ss) is = saves_fresh n t ss is
  taken_fresh _ own n t _ is = tt

  missed_fresh : (k : Key) → OwnKey w k → version_at apply h k ≡ None → FreshJob h w (missed v k)
  missed_fresh (Pod x name) own e = look_fresh name None (subst (λ y. version_at apply h (Pod y name) ≡ None) own e)
  missed_fresh (Workflow x) own e = tt
  missed_fresh Locks own e = tt
  missed_fresh Caches own e = tt

  pub got_fresh : (k : Key) → OwnKey w k → (r : Reply) → Got h k r → FreshJob h w (after v (get k) r)
  got_fresh k own (found x) g = taken_fresh k own x.number x.tick x.content g
  got_fresh k own no_object g = missed_fresh k own g
  got_fresh k own fault g = tt
  got_fresh k own (accepted x) g = absurd g
  got_fresh k own exists g = absurd g
  got_fresh k own (conflict e f) g = absurd g

-- ---- where a note is removed the other looks stay

not_removed : (name m : Text) (ls : List Look) → m ≡ name → find (is_look m) (filter (λ l. not (is_look name l)) ls) ≡ None
not_removed name m [] q = refl
not_removed name m (l ∷ ls) q = by (is_look name l) refl (not_removed name m ls q)
  where
    by : (b : Bool) → is_look name l ≡ b → find (is_look m) (filter (λ l. not (is_look name l)) ls) ≡ None → find (is_look m) (cond (not b) (l ∷ filter (λ l. not (is_look name l)) ls) (filter (λ l. not (is_look name l)) ls)) ≡ None
    by true t ih = ih
    by false t ih = ap (λ b. cond b (Some l) (find (is_look m) (filter (λ l. not (is_look name l)) ls))) (ap (λ k. is_look k l) q ∙ t) ∙ ih

pub still_looked : (name m : Text) (ls : List Look) (l : Look) → find (is_look m) (filter (λ l. not (is_look name l)) ls) ≡ Some l → find (is_look m) ls ≡ Some l
still_looked name m [] l e = none_some l e
still_looked name m (k ∷ ls) l e = by (is_look name k) (is_look m k) refl refl e (λ h. still_looked name m ls l h)
  where
    by : (b c : Bool) → is_look name k ≡ b → is_look m k ≡ c → find (is_look m) (cond (not b) (k ∷ filter (λ l. not (is_look name l)) ls) (filter (λ l. not (is_look name l)) ls)) ≡ Some l → (find (is_look m) (filter (λ l. not (is_look name l)) ls) ≡ Some l → find (is_look m) ls ≡ Some l) → cond (is_look m k) (Some k) (find (is_look m) ls) ≡ Some l
    by true true p q h ih = none_some l (sym (not_removed name m ls (sym (bytes_eq-true k.name m q) ∙ bytes_eq-true k.name name p)) ∙ h)
    by true false p q h ih = ap (λ b. cond b (Some k) (find (is_look m) ls)) q ∙ ih h
    by false true p q h ih = ap (λ b. cond b (Some k) (find (is_look m) ls)) q ∙ sym (ap (λ b. cond b (Some k) (find (is_look m) (filter (λ l. not (is_look name l)) ls))) q) ∙ h
    by false false p q h ih = ap (λ b. cond b (Some k) (find (is_look m) ls)) q ∙ ih (sym (ap (λ b. cond b (Some k) (find (is_look m) (filter (λ l. not (is_look name l)) ls))) q) ∙ h)

-- ---- changes

-- one entry more leaves each object that it is not about
else_version : (h : Story) (e : Event Content) (k : Key) → is_about k e.entry ≡ false → version_at apply (grown h e) k ≡ version_at apply h k
else_version h e k t = version_at-grown apply h e k ∙ ap (λ b. cond b (next_version apply (version_at apply h k) e) (version_at apply h k)) t

clock_same : (h : Story) (e : Event Content) → tick_of e.entry ≡ None → clock_of (grown h e) ≡ clock_of h
clock_same h e t = clock_from-append 0 h.events (e ∷ []) ∙ ap (λ o. unwrap_or o (clock_of h)) t

submitted_on : (D : Document) (h : Story) (e : Event Content) (name : Text) → Justified D h e → IsSubmitted h name → IsSubmitted (grown h e) name
submitted_on D h e name j k = by (flow_next D h name k.0 k.1 e j)
  where
    by : FlowNext D h e name k.0 → IsSubmitted (grown h e) name
    by (flow_stays q) = (k.0, q)
    by (flow_goes_on n facts wj is q) = (flow k.0.manifest (k.0.journal ++ facts), q)

-- views that the entry leaves as they are
module _ (D : Document) (h : Story) (w : Text) (v : Views) (fresh : Fresh h w v) (e : Event Content) (j : Justified D h e) (timeless : tick_of e.entry ≡ None) where
  abbrev g : Story
  g = grown h e

  abbrev Untouched : Key → Type 0
  Untouched k = is_about k e.entry ≡ false

  shown_on : (k : Key) (n t : ℕ) (c : Content) → Untouched k → ShownAt h k n c t → ShownAt g k n c t
  shown_on k n t c a is = record { stood = else_version h e k a ∙ is.stood; clock = clock_same h e timeless ∙ is.clock }

  flow_on : Untouched (Workflow w) → (s : Seen Flow) → v.flow ≡ Some s → ShownAt g (Workflow w) s.number (OfWorkflow s.content) s.tick
  flow_on a s t = shown_on (Workflow w) s.number s.tick (OfWorkflow s.content) a (fresh.flow s t)

  book_on : Untouched Locks → (b : Seen Book) → v.book ≡ Some b → IsPresent g Locks b.number (OfLocks b.content)
  book_on a b t = else_version h e Locks a ∙ fresh.book b t

  saves_on : Untouched Caches → (c : Seen (List Saved)) → v.saves ≡ Some c → ShownAt g Caches c.number (OfCaches c.content) c.tick
  saves_on a c t = shown_on Caches c.number c.tick (OfCaches c.content) a (fresh.saves c t)

  pod_on : (name : Text) → Untouched (Pod w name) → (o : Option (Seen PodObject)) → IsPodNow h w name o → IsPodNow g w name o
  pod_on name a None t = else_version h e (Pod w name) a ∙ t
  pod_on name a (Some x) t = else_version h e (Pod w name) a ∙ t

  tried_on : (name : Text) → list_any (bytes_eq name) v.tried ≡ true → IsSubmitted g name
  tried_on name t = submitted_on D h e name j (fresh.tried name t)

  abbrev NoPod : Type 0
  NoPod = (name : Text) → Untouched (Pod w name)

  pods_on : NoPod → (name : Text) (l : Look) → look_at v name ≡ Some l → IsPodNow g w name l.found
  pods_on o name l t = pod_on name (o name) l.found (fresh.pods name l t)

  -- all of them
  fresh_on : Untouched (Workflow w) → Untouched Locks → Untouched Caches → NoPod → Fresh g w v
  fresh_on a b c o = record { flow = flow_on a; book = book_on b; saves = saves_on c; pods = pods_on o; tried = tried_on }

  -- the workflow was written
  wrote : Untouched Locks → NoPod → (n t : ℕ) (f : Flow) → ShownAt g (Workflow w) n (OfWorkflow f) t → Fresh g w (record v { flow = Some (seen n f t); saves = None })
  wrote b o n t f is = record { book = book_on b; pods = pods_on o; tried = tried_on; saves = λ x q. none_some x q; flow = λ s q. subst (λ (y : Seen Flow). ShownAt g (Workflow w) y.number (OfWorkflow y.content) y.tick) (some_same (seen n f t) s q) is }

  -- the book was
  booked : Untouched (Workflow w) → Untouched Caches → NoPod → (n t : ℕ) (b : Book) → IsPresent g Locks n (OfLocks b) → Fresh g w (record v { book = Some (seen n b t) })
  booked a c o n t b is = record { flow = flow_on a; saves = saves_on c; pods = pods_on o; tried = tried_on; book = λ x q. subst (λ (y : Seen Book). IsPresent g Locks y.number (OfLocks y.content)) (some_same (seen n b t) x q) is }

  -- the saves were
  saved : Untouched (Workflow w) → Untouched Locks → NoPod → (n t : ℕ) (ss : List Saved) → ShownAt g Caches n (OfCaches ss) t → Fresh g w (record v { saves = Some (seen n ss t) })
  saved a b o n t ss is = record { flow = flow_on a; book = book_on b; pods = pods_on o; tried = tried_on; saves = λ x q. subst (λ (y : Seen (List Saved)). ShownAt g Caches y.number (OfCaches y.content) y.tick) (some_same (seen n ss t) x q) is }

  -- a pod was created
  created : Untouched (Workflow w) → Untouched Locks → Untouched Caches → (name : Text) → ((m : Text) → bytes_eq name m ≡ false → Untouched (Pod w m)) → (n t : ℕ) (pod : PodObject) → IsPresent g (Pod w name) n (OfPod pod) → Fresh g w (with_look v name (Some (seen n pod t)))
  created a b c name o n t pod is = record { flow = flow_on a; book = book_on b; saves = saves_on c; tried = tried_on; pods = λ m l q. by m l (bytes_eq name m) refl q }
    where
      by : (m : Text) (l : Look) (x : Bool) → bytes_eq name m ≡ x → cond x (Some record { name = name; found = Some (seen n pod t) }) (look_at v m) ≡ Some l → IsPodNow g w m l.found
      by m l true q r = subst (λ (y : Look). IsPodNow g w m y.found) (some_same record { name = name; found = Some (seen n pod t) } l r) (subst (λ k. IsPresent g (Pod w k) n (OfPod pod)) (bytes_eq-true name m q) is)
      by m l false q r = pod_on m (o m q) l.found (fresh.pods m l r)

-- ---- the answers of changes

both_false : (a b : Bool) → b ≡ false → (a && b) ≡ false
both_false true b e = e
both_false false b e = refl

not_equal : (a b : Text) → bytes_eq a b ≡ false → bytes_eq b a ≡ false
not_equal a b e = by (bytes_eq b a) refl
  where
    by : (c : Bool) → bytes_eq b a ≡ c → c ≡ false
    by false t = refl
    by true t = absurd (true≢false (sym (bytes_eq-refl a) ∙ ap (λ x. bytes_eq a x) (sym (bytes_eq-true b a t)) ∙ e))

module _ (h : Story) (w : Text) (v : Views) (fresh : Fresh h w v) (s : Seen Flow) (viewed : v.flow ≡ Some s) (facts : Facts) where
  abbrev Change_of : Matter → Change
  Change_of m = change_of w v s facts m

  there_fresh : (D : Document) → IsLawful D h → (m : Matter) → 0 < number_at h (Change_of m).key → FreshJob h w (there v m)
  there_fresh D l (create p name) n = record { flow = fresh.flow; book = fresh.book; saves = fresh.saves; tried = fresh.tried; pods = λ m k e. fresh.pods m k (still_looked name m v.pods k e) }
  there_fresh D l (submit c) n = tried_fresh h w v fresh c.name (is_submitted D h c.name l n)
  there_fresh D l (record_fact x) n = tt
  there_fresh D l (file y k r) n = tt
  there_fresh D l (save c k q o) n = tt
  there_fresh D l (release y k) n = tt

  -- the workflow stands, so a workflow that is absent is another
  not_own : (name : Text) → number_at h (Workflow name) ≡ 0 → bytes_eq w name ≡ false
  not_own name n = by (bytes_eq w name) refl
    where
      by : (b : Bool) → bytes_eq w name ≡ b → b ≡ false
      by false t = refl
      by true t = none_some record { number = s.number; content = OfWorkflow s.content } (sym (absent_at apply h (Workflow name) n) ∙ subst (λ k. IsPresent h (Workflow k) s.number (OfWorkflow s.content)) (bytes_eq-true w name t) (fresh.flow s viewed).stood)

  now_submitted : (name : Text) (old : Option Text) (fs : Facts) (f : Flow) → number_at h (Workflow name) ≡ 0 → IsSubmitted (grown h (event (Submit name old fs) (Some (OfWorkflow f)))) name
  now_submitted name old fs f n =
      let e : Event Content = event (Submit name old fs) (Some (OfWorkflow f)) in (
        f,
        ap (λ o. flow_in (map_content o)) (version_at-grown apply h e (Workflow name)
            ∙ ap (λ b. cond b (next_version apply (version_at apply h (Workflow name)) e) (version_at apply h (Workflow name))) (bytes_eq-refl name)
            ∙ ap (λ o. next_version apply o e) (absent_at apply h (Workflow name) n)),
      )

  did_fresh : (D : Document) (m : Matter) → Justified D h (Change_of m).event → number_at h (Change_of m).key ≡ (Change_of m).number → (n t : ℕ) (c : Content) → ShownAt (grown h (Change_of m).event) (Change_of m).key n c t → FreshJob (grown h (Change_of m).event) w (did v m n t c)
  did_fresh D (record_fact x) j q n t (OfWorkflow f) is = wrote D h w v fresh (Change_of (record_fact x)).event j refl refl (λ m. refl) n t f is
  did_fresh D (file l y r) j q n t (OfLocks b) is = booked D h w v fresh (Change_of (file l y r)).event j refl refl refl (λ m. refl) n t b is.stood
  did_fresh D (release l y) j q n t (OfLocks b) is = booked D h w v fresh (Change_of (release l y)).event j refl refl refl (λ m. refl) n t b is.stood
  did_fresh D (save a y p o) j q n t (OfCaches ss) is = saved D h w v fresh (Change_of (save a y p o)).event j refl refl refl (λ m. refl) n t ss is
  did_fresh D (create p name) j q n t (OfPod pod) is = created D h w v fresh (Change_of (create p name)).event j refl refl refl refl name (λ m e. both_false (bytes_eq w w) (bytes_eq m name) (not_equal name m e)) n t pod is.stood
  did_fresh D (submit r) j q n t c is =
      let e : Event Content = (Change_of (submit r)).event in
      tried_fresh (grown h e) w v (fresh_on D h w v fresh e j refl (not_own r.name q) refl refl (λ m. refl)) r.name (now_submitted r.name (Some w) (carried_facts r.memoized s.content) (flow (renamed s.content.manifest r.name r.created) (carried_facts r.memoized s.content)) q)
  did_fresh D _ j q n t _ is = tt

  -- the version of each view is that of its object
  fresh_number : (m : Matter) → 0 < (Change_of m).number → number_at h (Change_of m).key ≡ (Change_of m).number
  fresh_number (record_fact x) p = ap number_of (fresh.flow s viewed).stood
  fresh_number (file l k r) p = book_number v.book refl p
    where
      book_number : (o : Option (Seen Book)) → v.book ≡ o → 0 < number_seen o → number_at h Locks ≡ number_seen o
      book_number None e p = absurd (omega (arith, p))
      book_number (Some b) e p = ap number_of (fresh.book b e)
  fresh_number (release l k) p = book_number v.book refl p
    where
      book_number : (o : Option (Seen Book)) → v.book ≡ o → 0 < number_seen o → number_at h Locks ≡ number_seen o
      book_number None e p = absurd (omega (arith, p))
      book_number (Some b) e p = ap number_of (fresh.book b e)
  fresh_number (save a k q o) p = by v.saves refl p
    where
      by : (c : Option (Seen (List Saved))) → v.saves ≡ c → 0 < number_seen c → number_at h Caches ≡ number_seen c
      by None e p = absurd (omega (arith, p))
      by (Some c) e p = ap number_of (fresh.saves c e).stood
  fresh_number (create q name) p = absurd (omega (arith, p))
  fresh_number (submit c) p = absurd (omega (arith, p))

  pub no_conflict : (m : Matter) (r : Reply) (i : Story) → Did h (Change_of m) r i → IsConflict r → ⊥
  no_conflict m (conflict e f) i d c = let n = fresh_number m d.0 in let a = d.1 in let b = d.2 in let l = d.3 in omega (arith, n, a, b, l)
  no_conflict m (accepted x) i d c = c
  no_conflict m (found x) i d c = c
  no_conflict m no_object i d c = c
  no_conflict m exists i d c = c
  no_conflict m fault i d c = c

-- ---- a whole job

pub did_extends : (h i : Story) (c : Change) (r : Reply) → Did h c r i → Extends i h
did_extends h i c (accepted x) d = subst (λ g. Extends g h) (sym d.grows) (extends_grown h c.event)
did_extends h i c exists d = subst (λ g. Extends g h) (sym d.2) (extends_itself h)
did_extends h i c (conflict e f) d = subst (λ g. Extends g h) (sym d.4) (extends_itself h)
did_extends h i c fault d = subst (λ g. Extends g h) (sym d) (extends_itself h)
did_extends h i c (found x) d = absurd d
did_extends h i c no_object d = absurd d

pub goes_on_from : (D : Document) (w : Text) (h : Story) (v : Views) (g : Story) (u : Views) → Undisturbed D w h v g u → Extends g h
goes_on_from D w h v g u stays = extends_itself h
goes_on_from D w h v g u (reads k r x e got go rest) = goes_on_from D w h x g u rest
goes_on_from D w h v g u (acts {i = i} m s facts r x e viewed adds d go rest) = extends_later g i h (goes_on_from D w i x g u rest) (did_extends h i (change_of w v s facts m) r d)

pub acted_fresh : (D : Document) (w : Text) (h i g : Story) (v : Views) → IsLawful D g → Extends g i → Extends i h → Fresh h w v → (s : Seen Flow) → v.flow ≡ Some s → (facts : Facts) (m : Matter) (r : Reply) → Did h (change_of w v s facts m) r i → FreshJob i w (after v (act m) r)
acted_fresh D w h i g v l b a fresh s viewed facts m (accepted x) d =
    let c = change_of w v s facts m in
    let stood : Stood g h c.event = record { extends = subst (λ y. Extends g y) d.grows b } in
    let j : Justified D h c.event = was_justified (Justified D) g h c.event stood l.each in
    subst (λ y. FreshJob y w (did v m x.number x.tick x.content)) (sym d.grows) (did_fresh h w v fresh s viewed facts D m j d.unmoved x.number x.tick x.content (subst (λ y. ShownAt y c.key x.number x.content x.tick) d.grows d.shows))
acted_fresh D w h i g v l b a fresh s viewed facts m exists d = subst (λ y. FreshJob y w (there v m)) (sym d.2) (there_fresh h w v fresh s viewed facts D (lawful_then D g h (extends_later g i h b a) l) m d.1)
acted_fresh D w h i g v l b a fresh s viewed facts m (conflict e f) d = tt
acted_fresh D w h i g v l b a fresh s viewed facts m fault d = tt
acted_fresh D w h i g v l b a fresh s viewed facts m (found x) d = absurd d
acted_fresh D w h i g v l b a fresh s viewed facts m no_object d = absurd d

pub stays_fresh : (D : Document) (w : Text) (h : Story) (v : Views) (g : Story) (u : Views) → IsLawful D g → Fresh h w v → Undisturbed D w h v g u → Fresh g w u
stays_fresh D w h v g u l fresh stays = fresh
stays_fresh D w h v g u l fresh (reads k r x e got go rest) =
    stays_fresh D w h x g u l (subst (FreshJob h w) go (got_fresh h w v fresh k (own_key D w v k e) r got)) rest
stays_fresh D w h v g u l fresh (acts {i = i} m s facts r x e viewed adds d go rest) =
    let c = change_of w v s facts m in
    stays_fresh D w i x g u l (subst (FreshJob i w) go (acted_fresh D w h i g v l (goes_on_from D w i x g u rest) (did_extends h i c r d) fresh s viewed facts m r d)) rest

pub fresh_nothing : (h : Story) (w : Text) → Fresh h w nothing
fresh_nothing h w = record { flow = λ s e. none_some s e; book = λ b e. none_some b e; saves = λ c e. none_some c e; pods = λ n l e. none_some l e; tried = λ n e. absurd (true≢false (sym e)) }
