-- Why each call after which a job goes on leaves it fewer, where the history stays as it was.
use Rattle.std.proofs.Common.{◌≡◌, ℕ, ◌<◌, ◌≤◌, le_refl, Bool, true, false, not, cond, ◌||◌, bytes_eq, List, [], ◌∷◌, ◌++◌, length, length-append, filter, find, refl, sym, ◌∙◌, ap, subst, Option, Some, None, is_some, inl, inr, true≢false, arith}
use Rattle.std.specs.List.{list_any, sum_by}
use Rattle.std.proofs.lemmas.List.Sums.{sum_by-cons}
use Rattle.tree_types.specs.declared.want.Want.TheVariants as want
use Rattle.tree_types.specs.declared.entry.Key.{Key}
use Rattle.tree_types.specs.declared.entry.Key.TheVariants.{Workflow, Pod, Locks, Caches}
use Rattle.meaning.specs.Answers.{Facts}
use Rattle.growth.specs.Growth.{Among}
use Rattle.history.specs.History.{Event, Version, number_of, version_at, grown}
use Rattle.history.proofs.Keys.{bytes_eq-true, bytes_eq-refl}
use Rattle.saves.specs.declared.Saved.{Saved}
use Rattle.law.specs.Documents.{Text, Resubmission, Command, Resume, Resubmit, Document}
use Rattle.law.specs.Contents.{Flow, PodObject, Book, Content, OfPod, OfLocks, OfCaches, apply, Story, number_at}
use Rattle.law.specs.Justified.{wants_of}
use Rattle.law.specs.Due.{Matter}
use Rattle.next_step.specs.Views.{Seen, Look, Views, is_look, look_at}
use Rattle.next_step.specs.Next.{get, act}
use Rattle.next_step.specs.Changes.{change_of}
use Rattle.next_step.specs.Replies.{Reply, found, accepted, no_object, exists, conflict, fault, Ending, goes_on, ended, seen, with_look, taken, missed, there, after}
use Rattle.next_step.specs.Calls.{Did}
use Rattle.next_laws.specs.Sizes.{if_unseen, pod_name, pod_names, pod_calls, calls_for_pod, calls_for_command, calls_left, HasFewer, MayGet, ReadsLeaveFewer, RefusalsLeaveFewer}
use Rattle.next_laws.proofs.Firsts.{among_filter}
use Rattle.next_laws.proofs.Gets.{Unlooked, WhyGet, why_get}
use Rattle.next_laws.proofs.Reasons.{Reason, by_start, by_end, by_grant, by_wait, by_look, by_arming, by_timer, by_command, by_absence, by_save, by_past, by_over, reason}

-- ---- sums

sum_le : {A : Type 0} (f g : A → ℕ) (xs : List A) → ((x : A) → f x ≤ g x) → sum_by f xs ≤ sum_by g xs
sum_le f g [] each = le_refl 0
sum_le f g (x ∷ xs) each =
    let a = each x in
    let b = sum_le f g xs each in
    let c = sum_by-cons f x xs in
    let d = sum_by-cons g x xs in
    omega (arith, a, b, c, d)

sum_less : {A : Type 0} (f g : A → ℕ) (xs : List A) (x : A) → ((x : A) → f x ≤ g x) → Among x xs → f x < g x → sum_by f xs < sum_by g xs
sum_less f g [] x each i l = absurd i
sum_less f g (y ∷ xs) x each (inl e) l =
    let a : f y < g y = subst (λ z. f z < g z) (sym e) l in
    let b = sum_le f g xs each in
    let c = sum_by-cons f y xs in
    let d = sum_by-cons g y xs in
    omega (arith, a, b, c, d)
sum_less f g (y ∷ xs) x each (inr i) l =
    let a = each y in
    let b = sum_less f g xs x each i l in
    let c = sum_by-cons f y xs in
    let d = sum_by-cons g y xs in
    omega (arith, a, b, c, d)

sum_same : {A : Type 0} (f g : A → ℕ) (xs : List A) → ((x : A) → f x ≡ g x) → sum_by f xs ≡ sum_by g xs
sum_same f g [] each = refl
sum_same f g (x ∷ xs) each =
    let a = each x in
    let b = sum_same f g xs each in
    let c = sum_by-cons f x xs in
    let d = sum_by-cons g x xs in
    omega (arith, a, b, c, d)

-- ---- the calls for pods

module _ (h : Story) (w : Text) (v : Views) where
  abbrev stands : Text → Option (Version Content)
  stands name = version_at apply h (Pod w name)

  -- a look after which nothing is to be done
  abbrev Settles : Text → Option (Seen PodObject) → Type 0
  Settles name o = pod_calls (stands name) (Some record { name = name; found = o }) ≡ 0

  look_least : (name : Text) (o : Option (Seen PodObject)) → Settles name o → (m : Text) → calls_for_pod h w (with_look v name o) m ≤ calls_for_pod h w v m
  look_least name o z m = by (bytes_eq name m) refl
    where
      zero_at : name ≡ m → pod_calls (stands m) (Some record { name = name; found = o }) ≡ 0
      zero_at e = subst (λ k. pod_calls (stands k) (Some record { name = name; found = o }) ≡ 0) e z

      by : (b : Bool) → bytes_eq name m ≡ b → pod_calls (stands m) (cond b (Some record { name = name; found = o }) (look_at v m)) ≤ calls_for_pod h w v m
      by true t = let e = zero_at (bytes_eq-true name m t) in omega (arith, e)
      by false t = le_refl (calls_for_pod h w v m)

  look_less : (name : Text) (o : Option (Seen PodObject)) → look_at v name ≡ None → Settles name o → calls_for_pod h w (with_look v name o) name < calls_for_pod h w v name
  look_less name o e z =
      let a : calls_for_pod h w v name ≡ 1 = ap (pod_calls (stands name)) e in
      let b : calls_for_pod h w (with_look v name o) name ≡ 0 = ap (λ x. pod_calls (stands name) (cond x (Some record { name = name; found = o }) (look_at v name))) (bytes_eq-refl name) ∙ z in
      omega (arith, a, b)

  -- ---- a note that is removed

  abbrev kept_looks : Text → List Look → List Look
  kept_looks name ls = filter (λ l. not (is_look name l)) ls

  abbrev removed : Text → Views
  removed name = record v { pods = kept_looks name v.pods }

  none_left : (name : Text) (ls : List Look) → find (is_look name) (kept_looks name ls) ≡ None
  none_left name [] = refl
  none_left name (l ∷ ls) = by (is_look name l) refl (none_left name ls)
    where
      by : (b : Bool) → is_look name l ≡ b → find (is_look name) (kept_looks name ls) ≡ None → find (is_look name) (cond (not b) (l ∷ kept_looks name ls) (kept_looks name ls)) ≡ None
      by true t ih = ih
      by false t ih = ap (λ b. cond b (Some l) (find (is_look name) (kept_looks name ls))) t ∙ ih

  other_left : (name m : Text) (ls : List Look) → bytes_eq name m ≡ false → find (is_look m) (kept_looks name ls) ≡ find (is_look m) ls
  other_left name m [] e = refl
  other_left name m (l ∷ ls) e = by (is_look name l) (is_look m l) refl refl (other_left name m ls e)
    where
      by : (b c : Bool) → is_look name l ≡ b → is_look m l ≡ c → find (is_look m) (kept_looks name ls) ≡ find (is_look m) ls → find (is_look m) (cond (not b) (l ∷ kept_looks name ls) (kept_looks name ls)) ≡ cond (is_look m l) (Some l) (find (is_look m) ls)
      by true true p q ih = absurd (true≢false (sym (bytes_eq-refl name) ∙ ap (bytes_eq name) (sym (bytes_eq-true l.name name p) ∙ bytes_eq-true l.name m q) ∙ e))
      by true false p q ih = ih ∙ sym (ap (λ x. cond x (Some l) (find (is_look m) ls)) q)
      by false c p q ih = ap (λ o. cond (is_look m l) (Some l) o) ih

  module _ (name : Text) (l : Look) (x : Version Content) (e : look_at v name ≡ Some l) (n : l.found ≡ None) (is : stands name ≡ Some x) where
    two : calls_for_pod h w v name ≡ 2
    two = ap (λ o. pod_calls o (look_at v name)) is ∙ ap (λ o. pod_calls (Some x) o) e ∙ ap (λ o. cond (is_some o) 0 2) n

    one : calls_for_pod h w (removed name) name ≡ 1
    one = ap (pod_calls (stands name)) (none_left name v.pods)

    removed_least : (m : Text) → calls_for_pod h w (removed name) m ≤ calls_for_pod h w v m
    removed_least m = by (bytes_eq name m) refl
      where
        by : (b : Bool) → bytes_eq name m ≡ b → calls_for_pod h w (removed name) m ≤ calls_for_pod h w v m
        by true t = subst (λ k. calls_for_pod h w (removed name) k ≤ calls_for_pod h w v k) (bytes_eq-true name m t) (let a = one in let b = two in omega (arith, a, b))
        by false t = let a : calls_for_pod h w (removed name) m ≡ calls_for_pod h w v m = ap (pod_calls (stands m)) (other_left name m v.pods t) in omega (arith, a)

    removed_less : calls_for_pod h w (removed name) name < calls_for_pod h w v name
    removed_less = let a = one in let b = two in omega (arith, a, b)

-- ---- each call

pub goes_same : (x y : Views) → goes_on x ≡ goes_on y → x ≡ y
goes_same x y e = cc

pub ends_not : {B : Type 0} (e : Ending) (x : Views) → ended e ≡ goes_on x → B
ends_not e x q = absurd cc

module _ (D : Document) (h : Story) (w : Text) (v : Views) (s : Seen Flow) (viewed : v.flow ≡ Some s) where
  fewer_by : (x : Views) → x.flow ≡ Some s → calls_left D h w x s.content < calls_left D h w v s.content → (y : Views) → goes_on x ≡ goes_on y → HasFewer D h w v y s
  fewer_by x f l y e = subst (λ (z : Views). HasFewer D h w v z s) (goes_same x y e) record { same = f; fewer = l }

  book_fewer : (b : Seen Book) → v.book ≡ None → calls_left D h w (record v { book = Some b }) s.content < calls_left D h w v s.content
  book_fewer b e = let a : if_unseen v.book ≡ 1 = ap if_unseen e in omega (arith, a)

  saves_fewer : (c : Seen (List Saved)) → v.saves ≡ None → calls_left D h w (record v { saves = Some c }) s.content < calls_left D h w v s.content
  saves_fewer c e = let a : if_unseen v.saves ≡ 1 = ap if_unseen e in omega (arith, a)

  pods_fewer : (pods : List Look) (name : Text) → Among name (pod_names s.content) → ((m : Text) → calls_for_pod h w (record v { pods = pods }) m ≤ calls_for_pod h w v m) → calls_for_pod h w (record v { pods = pods }) name < calls_for_pod h w v name → calls_left D h w (record v { pods = pods }) s.content < calls_left D h w v s.content
  pods_fewer pods name i each l =
      let t = sum_less (calls_for_pod h w (record v { pods = pods })) (calls_for_pod h w v) (pod_names s.content) name each i l in
      let u : sum_by (calls_for_command (record v { pods = pods })) D.commands ≡ sum_by (calls_for_command v) D.commands = sum_same (calls_for_command (record v { pods = pods })) (calls_for_command v) D.commands commands_same in
      omega (arith, t, u)
    where
      commands_same : (c : Command) → calls_for_command (record v { pods = pods }) c ≡ calls_for_command v c
      commands_same (Resume c) = refl
      commands_same (Resubmit c) = refl

  looked_fewer : (name : Text) (o : Option (Seen PodObject)) → Unlooked v s.content name → Settles h w v name o → calls_left D h w (with_look v name o) s.content < calls_left D h w v s.content
  looked_fewer name o u z = pods_fewer (record { name = name; found = o } ∷ v.pods) name (among_filter (pod_name s.content) (wants_of s.content) (want.Pod u.path) name u.asks u.named) (look_least h w v name o z) (look_less h w v name o u.unseen z)

  found_settles : (x : Seen PodObject) (name : Text) (o : Option (Version Content)) → pod_calls o (Some record { name = name; found = Some x }) ≡ 0
  found_settles x name None = refl
  found_settles x name (Some y) = refl

  taken_fewer : (k : Key) → WhyGet w v s.content k → (n t : ℕ) (c : Content) (x : Views) → taken v k n t c ≡ goes_on x → HasFewer D h w v x s
  taken_fewer (Workflow y) why n t c x e = absurd why
  taken_fewer (Pod y name) why n t (OfPod pod) x e = fewer_by (with_look v name (Some (seen n pod t))) viewed (looked_fewer name (Some (seen n pod t)) why.1 (found_settles (seen n pod t) name (stands h w v name))) x e
  taken_fewer Locks why n t (OfLocks b) x e = fewer_by (record v { book = Some (seen n b t) }) viewed (book_fewer (seen n b t) why) x e
  taken_fewer Caches why n t (OfCaches ss) x e = fewer_by (record v { saves = Some (seen n ss t) }) viewed (saves_fewer (seen n ss t) why) x e
  taken_fewer (Pod y name) why n t _ x e = ends_not _ x e
  taken_fewer Locks why n t _ x e = ends_not _ x e
  taken_fewer Caches why n t _ x e = ends_not _ x e

  missed_fewer : (k : Key) → WhyGet w v s.content k → version_at apply h k ≡ None → (x : Views) → missed v k ≡ goes_on x → HasFewer D h w v x s
  missed_fewer (Pod y name) why z x e = fewer_by (with_look v name None) viewed (looked_fewer name None why.1 (ap (λ o. pod_calls o (Some record { name = name; found = None })) (subst (λ k. version_at apply h (Pod k name) ≡ None) why.0 z))) x e
  missed_fewer (Workflow y) why z x e = ends_not _ x e
  missed_fewer Locks why z x e = ends_not _ x e
  missed_fewer Caches why z x e = ends_not _ x e

  read_fewer : (k : Key) (r : Reply) (x : Views) → WhyGet w v s.content k → MayGet h k r → after v (get k) r ≡ goes_on x → HasFewer D h w v x s
  read_fewer k (found y) x why g e = taken_fewer k why y.number y.tick y.content x e
  read_fewer k no_object x why g e = missed_fewer k why g x e
  read_fewer k fault x why g e = ends_not _ x e
  read_fewer k (accepted y) x why g e = absurd g
  read_fewer k exists x why g e = absurd g
  read_fewer k (conflict a b) x why g e = absurd g

  -- ---- refusals

  -- a history with one entry more is another
  longer : (e : Event Content) → h ≡ grown h e → ⊥
  longer e q = not_same h.events (ap (λ (y : Story). y.events) q)
    where
      not_same : (es : List (Event Content)) → es ≡ es ++ e ∷ [] → ⊥
      not_same es r = let l = ap length r ∙ length-append es (e ∷ []) in omega (arith, l)

  there_is : (o : Option (Version Content)) → 0 < number_of o → (x : Version Content) × (o ≡ Some x)
  there_is None p = absurd (omega (arith, p))
  there_is (Some x) p = (x, refl)

  abbrev with_tried : Text → Views
  with_tried name = record v { tried = name ∷ v.tried }

  tried_fewer : (c : Resubmission) → Among (Resubmit c) D.commands → list_any (bytes_eq c.name) v.tried ≡ false → calls_left D h w (record v { tried = c.name ∷ v.tried }) s.content < calls_left D h w v s.content
  tried_fewer c i e = let t = sum_less (calls_for_command (with_tried c.name)) (calls_for_command v) D.commands (Resubmit c) each i one_less in omega (arith, t)
    where
      le : (a b : Bool) → cond (a || b) 0 1 ≤ cond b 0 1
      le true true = le_refl 0
      le true false = omega arith
      le false b = le_refl (cond b 0 1)

      each : (d : Command) → calls_for_command (with_tried c.name) d ≤ calls_for_command v d
      each (Resume d) = le_refl 0
      each (Resubmit d) = le (bytes_eq d.name c.name) (list_any (bytes_eq d.name) v.tried)

      one_less : calls_for_command (with_tried c.name) (Resubmit c) < calls_for_command v (Resubmit c)
      one_less =
          let a : calls_for_command (with_tried c.name) (Resubmit c) ≡ 0 = ap (λ b. cond (b || list_any (bytes_eq c.name) v.tried) 0 1) (bytes_eq-refl c.name) in
          let b : calls_for_command v (Resubmit c) ≡ 1 = ap (λ b. cond b 0 1) e in
          omega (arith, a, b)

  noted_fewer : (name : Text) → Among name (pod_names s.content) → (l : Look) → look_at v name ≡ Some l → l.found ≡ None → (x : Version Content) → version_at apply h (Pod w name) ≡ Some x → calls_left D h w (removed h w v name) s.content < calls_left D h w v s.content
  noted_fewer name i l e n x is = pods_fewer (kept_looks h w v name v.pods) name i (removed_least h w v name l x e n is) (removed_less h w v name l x e n is)

  there_fewer : (facts : Facts) (m : Matter) (x : Views) → Reason D w v s m → 0 < number_at h (change_of w v s facts m).key → there v m ≡ goes_on x → HasFewer D h w v x s
  there_fewer facts m x (by_absence p name r) n e =
      let z = there_is (version_at apply h (Pod w name)) n in
      fewer_by (removed h w v name) viewed (noted_fewer name (among_filter (pod_name s.content) (wants_of s.content) (want.Pod p) name r.asks r.named) r.look r.seen r.absent z.0 z.1) x e
  there_fewer facts m x (by_over c r) n e = fewer_by (record v { tried = c.name ∷ v.tried }) viewed (tried_fewer c r.given r.untried) x e
  there_fewer facts m x (by_start k) n e = ends_not _ x e
  there_fewer facts m x (by_end p o r) n e = ends_not _ x e
  there_fewer facts m x (by_grant p l r i k) n e = ends_not _ x e
  there_fewer facts m x (by_wait p l name r) n e = ends_not _ x e
  there_fewer facts m x (by_look p c k g t r) n e = ends_not _ x e
  there_fewer facts m x (by_arming p i) n e = ends_not _ x e
  there_fewer facts m x (by_timer p t i reached) n e = ends_not _ x e
  there_fewer facts m x (by_command k t c r) n e = ends_not _ x e
  there_fewer facts m x (by_save p c k o t r new) n e = ends_not _ x e
  there_fewer facts m x (by_past p r over k) n e = ends_not _ x e

  refused_fewer : (facts : Facts) (m : Matter) (r : Reply) (x : Views) → Reason D w v s m → Did h (change_of w v s facts m) r h → after v (act m) r ≡ goes_on x → HasFewer D h w v x s
  refused_fewer facts m (accepted y) x why d e = absurd (longer (change_of w v s facts m).event d.grows)
  refused_fewer facts m exists x why d e = there_fewer facts m x why d.1 e
  refused_fewer facts m (conflict a b) x why d e = ends_not _ x e
  refused_fewer facts m fault x why d e = ends_not _ x e
  refused_fewer facts m (found y) x why d e = absurd d
  refused_fewer facts m no_object x why d e = absurd d

pub reads_leave_fewer : ReadsLeaveFewer
reads_leave_fewer D h w v x s k r viewed e g a = read_fewer D h w v s viewed k r x (why_get D w v s k viewed e) g a

pub refusals_leave_fewer : RefusalsLeaveFewer
refusals_leave_fewer D h w v x s facts m r viewed e d a = refused_fewer D h w v s viewed facts m r x (reason D w v s m viewed e) d a
