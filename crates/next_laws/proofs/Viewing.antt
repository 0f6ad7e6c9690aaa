-- Why the views of a job stay views of what was seen.
use Rattle.std.proofs.Common.{◌≡◌, ℕ, Bool, true, false, not, cond, bytes_eq, List, ◌∷◌, filter, find, refl, ◌∙◌, ap, subst, Option, Some, None}
use Rattle.tree_types.specs.declared.entry.Key.{Key}
use Rattle.tree_types.specs.declared.entry.Key.TheVariants.{Workflow, Pod, Locks, Caches}
use Rattle.meaning.specs.Answers.{Facts}
use Rattle.history.specs.History.{Extends, IsVersionOf}
use Rattle.history.proofs.Keys.{bytes_eq-true}
use Rattle.history.proofs.Extends.{extends_itself, extends_later, is_version_later}
use Rattle.saves.specs.declared.Saved.{Saved}
use Rattle.law.specs.Documents.{Text}
use Rattle.law.specs.Contents.{Flow, PodObject, Book, Content, OfWorkflow, OfPod, OfLocks, OfCaches, apply, Story}
use Rattle.law.specs.Due.{Matter, record_fact, file, create, save, release, submit}
use Rattle.lawful.proofs.Facts.{some_same, none_some}
use Rattle.next_step.specs.Views.{Seen, Look, Views, nothing, is_look, look_at, found_in}
use Rattle.next_step.specs.Next.{get, act}
use Rattle.next_step.specs.Changes.{change_of, ShownAt, SavesSince, ViewsOf}
use Rattle.next_step.specs.Replies.{Reply, found, accepted, no_object, exists, conflict, fault, Job, goes_on, ended, seen, with_look, taken, missed, did, there, after}
use Rattle.next_step.specs.Calls.{Did}
use Rattle.next_laws.specs.Viewing.{IsRead, Answers, ViewsStay}
use Rattle.next_laws.proofs.Gets.{OwnKey, own_key}
use Rattle.next_laws.proofs.Keeping.{still_looked, did_extends}

no_views : (h : Story) (w : Text) → ViewsOf h w nothing
no_views h w = record { moment = h; extends = extends_itself h; flow = λ s e. none_some s e; book = λ b e. none_some b e; saves = λ c e. none_some c e; pods = λ name x e. none_some x e }

views_later : (h g : Story) (w : Text) (v : Views) → Extends g h → ViewsOf h w v → ViewsOf g w v
views_later h g w v b a = record {
  moment = a.moment;
  extends = extends_later g h a.moment b a.extends;
  flow = a.flow;
  book = λ k e. is_version_later apply h g Locks k.number (OfLocks k.content) k.tick b (a.book k e);
  saves = λ c e. let k = a.saves c e in record { then = k.then; extends = extends_later g h k.then b k.extends; since = k.since; shown = k.shown };
  pods = λ name x e. is_version_later apply h g (Pod w name) x.number (OfPod x.content) x.tick b (a.pods name x e);
}

abbrev JobOf : Story → Text → Job → Type 0
JobOf h w (goes_on v) = ViewsOf h w v
JobOf h w (ended e) = Unit {0}

-- what stands now was there at a moment
pub now_version : (h : Story) (k : Key) (n : ℕ) (c : Content) (t : ℕ) → ShownAt h k n c t → IsVersionOf apply h k n c t
now_version h k n c t is = record { before = h; extends = extends_itself h; stood = is.stood; clock = is.clock }

module _ (h : Story) (w : Text) (v : Views) (a : ViewsOf h w v) where
  abbrev HasShown : Key → ℕ → Content → ℕ → Type 0
  HasShown k n c t = IsVersionOf apply h k n c t

  -- a new view of the workflow, and none of the saves
  flow_kept : (n t : ℕ) (f : Flow) → HasShown (Workflow w) n (OfWorkflow f) t → ViewsOf h w (record v { flow = Some (seen n f t); saves = None })
  flow_kept n t f is = record {
    moment = is.before;
    extends = is.extends;
    flow = λ s e. subst (λ (y : Seen Flow). ShownAt is.before (Workflow w) y.number (OfWorkflow y.content) y.tick) (some_same (seen n f t) s e) record { stood = is.stood; clock = is.clock };
    book = a.book;
    saves = λ c e. none_some c e;
    pods = a.pods;
  }

  look_kept : (name : Text) (o : Option (Seen PodObject)) → ((x : Seen PodObject) → o ≡ Some x → HasShown (Pod w name) x.number (OfPod x.content) x.tick) → ViewsOf h w (with_look v name o)
  look_kept name o is = record { moment = a.moment; extends = a.extends; flow = a.flow; book = a.book; saves = a.saves; pods = λ m x e. by m x (bytes_eq name m) refl e }
    where
      by : (m : Text) (x : Seen PodObject) (b : Bool) → bytes_eq name m ≡ b → found_in (cond b (Some record { name = name; found = o }) (look_at v m)) ≡ Some x → HasShown (Pod w m) x.number (OfPod x.content) x.tick
      by m x true t e = subst (λ q. HasShown (Pod w q) x.number (OfPod x.content) x.tick) (bytes_eq-true name m t) (is x e)
      by m x false t e = a.pods m x e

  seen_look_kept : (name : Text) (n t : ℕ) (pod : PodObject) → HasShown (Pod w name) n (OfPod pod) t → ViewsOf h w (with_look v name (Some (seen n pod t)))
  seen_look_kept name n t pod is = look_kept name (Some (seen n pod t)) (λ y e. subst (λ (z : Seen PodObject). HasShown (Pod w name) z.number (OfPod z.content) z.tick) (some_same (seen n pod t) y e) is)

  book_kept : (n t : ℕ) (b : Book) → HasShown Locks n (OfLocks b) t → ViewsOf h w (record v { book = Some (seen n b t) })
  book_kept n t b is = record { moment = a.moment; extends = a.extends; flow = a.flow; saves = a.saves; pods = a.pods; book = λ k e. subst (λ (y : Seen Book). HasShown Locks y.number (OfLocks y.content) y.tick) (some_same (seen n b t) k e) is }

  saves_kept : (n t : ℕ) (ss : List Saved) → ShownAt h Caches n (OfCaches ss) t → ViewsOf h w (record v { saves = Some (seen n ss t) })
  saves_kept n t ss is = record { moment = a.moment; extends = a.extends; flow = a.flow; book = a.book; pods = a.pods; saves = λ k e. subst (SavesSince h a.moment) (some_same (seen n ss t) k e) record { then = h; extends = extends_itself h; since = a.extends; shown = is } }

  tried_kept : (ts : List Text) → ViewsOf h w (record v { tried = ts })
  tried_kept ts = record { moment = a.moment; extends = a.extends; flow = a.flow; book = a.book; saves = a.saves; pods = a.pods }

  removed_kept : (name : Text) → ViewsOf h w (record v { pods = filter (λ l. not (is_look name l)) v.pods })
  removed_kept name = record { moment = a.moment; extends = a.extends; flow = a.flow; book = a.book; saves = a.saves; pods = λ m x e. by m x (find (is_look m) (filter (λ l. not (is_look name l)) v.pods)) refl e }
    where
      by : (m : Text) (x : Seen PodObject) (o : Option Look) → find (is_look m) (filter (λ l. not (is_look name l)) v.pods) ≡ o → found_in o ≡ Some x → HasShown (Pod w m) x.number (OfPod x.content) x.tick
      by m x None t e = none_some x e
      by m x (Some l) t e = a.pods m x (ap found_in (still_looked name m v.pods l t) ∙ e)

  taken_kept : (k : Key) → OwnKey w k → (n t : ℕ) (c : Content) → IsRead h k (seen n c t) → JobOf h w (taken v k n t c)
  taken_kept (Workflow x) own n t (OfWorkflow f) is = flow_kept n t f (subst (λ y. HasShown (Workflow y) n (OfWorkflow f) t) own is)
  taken_kept (Pod x name) own n t (OfPod pod) is = seen_look_kept name n t pod (subst (λ y. HasShown (Pod y name) n (OfPod pod) t) own is)
  taken_kept Locks own n t (OfLocks b) is = book_kept n t b is
  taken_kept Caches own n t (OfCaches ss) is = saves_kept n t ss is
  taken_kept _ own n t _ is = tt

  missed_kept : (k : Key) → JobOf h w (missed v k)
  missed_kept (Pod x name) = look_kept name None (λ y e. none_some y e)
  missed_kept (Workflow x) = tt
  missed_kept Locks = tt
  missed_kept Caches = tt

  there_kept : (m : Matter) → JobOf h w (there v m)
  there_kept (create p name) = removed_kept name
  there_kept (submit c) = tried_kept (c.name ∷ v.tried)
  there_kept (record_fact x) = tt
  there_kept (file l k r) = tt
  there_kept (save c k q o) = tt
  there_kept (release l k) = tt

  answered_kept : (k : Key) → OwnKey w k → (r : Reply) → Answers h k r → JobOf h w (after v (get k) r)
  answered_kept k own (found x) g = taken_kept k own x.number x.tick x.content g
  answered_kept k own no_object g = missed_kept k
  answered_kept k own fault g = tt
  answered_kept k own (accepted x) g = absurd g
  answered_kept k own exists g = absurd g
  answered_kept k own (conflict p q) g = absurd g

  did_kept : (s : Seen Flow) (facts : Facts) (m : Matter) (n t : ℕ) (c : Content) → ShownAt h (change_of w v s facts m).key n c t → JobOf h w (did v m n t c)
  did_kept s facts (record_fact x) n t (OfWorkflow f) is = flow_kept n t f (now_version h (Workflow w) n (OfWorkflow f) t is)
  did_kept s facts (file l k r) n t (OfLocks b) is = book_kept n t b (now_version h Locks n (OfLocks b) t is)
  did_kept s facts (release l k) n t (OfLocks b) is = book_kept n t b (now_version h Locks n (OfLocks b) t is)
  did_kept s facts (save c k q o) n t (OfCaches ss) is = saves_kept n t ss is
  did_kept s facts (create p name) n t (OfPod pod) is = seen_look_kept name n t pod (now_version h (Pod w name) n (OfPod pod) t is)
  did_kept s facts (submit c) n t x is = tried_kept (c.name ∷ v.tried)
  did_kept s facts _ n t _ is = tt

acted_kept : (at now : Story) (w : Text) (v : Views) (s : Seen Flow) (facts : Facts) (m : Matter) (r : Reply) → ViewsOf now w v → Did at (change_of w v s facts m) r now → JobOf now w (after v (act m) r)
acted_kept at now w v s facts m (accepted x) a d = did_kept now w v a s facts m x.number x.tick x.content d.shows
acted_kept at now w v s facts m exists a d = there_kept now w v a m
acted_kept at now w v s facts m (conflict p q) a d = tt
acted_kept at now w v s facts m fault a d = tt
acted_kept at now w v s facts m (found x) a d = absurd d
acted_kept at now w v s facts m no_object a d = absurd d

pub views_stay : ViewsStay
views_stay = record {
  begin = no_views;
  later = views_later;
  reads = λ D before now w v x k r b a e g on. subst (JobOf now w) on (answered_kept now w v (views_later before now w v b a) k (own_key D w v k e) r g);
  acts = λ D before at now w v x s facts m r b a viewed e d on.
      let extends = extends_later now at before (did_extends at now (change_of w v s facts m) r d) b in
      subst (JobOf now w) on (acted_kept at now w v s facts m r (views_later before now w v extends a) d);
}
