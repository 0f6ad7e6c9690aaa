-- Why a job that nobody disturbs makes so few calls.
use Rattle.std.proofs.Common.{◌≡◌, ℕ, ◌+◌, ◌*◌, ◌<◌, ◌≤◌, le_refl, List, [], ◌∷◌, ◌++◌, length, length-append, append-nil, refl, sym, ◌∙◌, ap, ap₂, subst, Some, arith}
use Rattle.tree_types.specs.declared.entry.Key.{Key}
use Rattle.tree_types.specs.declared.entry.Key.TheVariants.{Workflow}
use Rattle.meaning.specs.Answers.{Facts}
use Rattle.meaning.specs.Trees.{most_nodes}
use Rattle.history.specs.History.{Event, Extends, map_content, grown}
use Rattle.history.proofs.Extends.{extends_itself, extends_later}
use Rattle.law.specs.Documents.{Text, Document}
use Rattle.law.specs.Contents.{Flow, Content, OfWorkflow, OfPod, OfLocks, OfCaches, Story, flow_in, flow_of, HasFlow}
use Rattle.law.specs.Justified.{tree_of, IsLawful}
use Rattle.law.specs.Due.{Matter, record_fact, file, create, save, release, submit}
use Rattle.lawful.proofs.Facts.{some_same, none_some}
use Rattle.lawful.proofs.Journals.{lawful_then}
use Rattle.lawful.proofs.Moments.{trees_mean}
use Rattle.next_step.specs.Views.{Seen, Views, nothing}
use Rattle.next_step.specs.Next.{get, act, worker_next}
use Rattle.next_step.specs.Changes.{change_of}
use Rattle.next_step.specs.Replies.{Reply, found, accepted, no_object, exists, conflict, fault, Job, goes_on, ended, taken, did, after}
use Rattle.next_step.specs.Calls.{Got, Did, Undisturbed, stays, reads, acts, calls_of}
use Rattle.next_laws.specs.Fresh.{Fresh}
use Rattle.next_laws.specs.Sizes.{calls_left, HasFewer, MayGet, most_calls, IsBounded, UndisturbedEnds}
use Rattle.next_laws.proofs.Gets.{own_key, first_get}
use Rattle.next_laws.proofs.Keeping.{FreshJob, got_fresh, did_extends, goes_on_from, acted_fresh, stays_fresh, fresh_nothing}
use Rattle.next_laws.proofs.Falling.{goes_same, ends_not, reads_leave_fewer, refusals_leave_fewer}
use Rattle.next_laws.proofs.Few.{calls_are_bounded}
use Rattle.next_laws.proofs.Viewing.{views_stay}
use Rattle.next_laws.proofs.StayingLawful.{stays_lawful}

may_get : (h : Story) (k : Key) (r : Reply) → Got h k r → MayGet h k r
may_get h k (found x) g = tt
may_get h k no_object g = g
may_get h k fault g = tt
may_get h k (accepted x) g = absurd g
may_get h k exists g = absurd g
may_get h k (conflict a b) g = absurd g

-- a job that goes on after an accepted change has a view of its workflow still
abbrev HasView : Job → Type 0
HasView (goes_on x) = (s : Seen Flow) × (x.flow ≡ Some s)
HasView (ended e) = Unit {0}

did_viewed : (v : Views) (s : Seen Flow) → v.flow ≡ Some s → (m : Matter) (n t : ℕ) (c : Content) → HasView (did v m n t c)
did_viewed v s e (record_fact x) n t (OfWorkflow f) = (record { number = n; content = f; tick = t }, refl)
did_viewed v s e (file l k r) n t (OfLocks b) = (s, e)
did_viewed v s e (release l k) n t (OfLocks b) = (s, e)
did_viewed v s e (save c k p o) n t (OfCaches ss) = (s, e)
did_viewed v s e (create p name) n t (OfPod pod) = (s, e)
did_viewed v s e (submit c) n t x = (s, e)
did_viewed v s e _ n t _ = tt

-- a job in which the workflow is read first
taken_viewed : (w : Text) (n t : ℕ) (c : Content) (x : Views) → taken nothing (Workflow w) n t c ≡ goes_on x → (s : Seen Flow) × (x.flow ≡ Some s)
taken_viewed w n t (OfWorkflow f) x e = (record { number = n; content = f; tick = t }, ap (λ (y : Views). y.flow) (sym (goes_same _ x e)))
taken_viewed w n t (OfPod pod) x e = ends_not _ x e
taken_viewed w n t (OfLocks b) x e = ends_not _ x e
taken_viewed w n t (OfCaches ss) x e = ends_not _ x e

got_viewed : (w : Text) (h : Story) (r : Reply) (x : Views) → Got h (Workflow w) r → after nothing (get (Workflow w)) r ≡ goes_on x → (s : Seen Flow) × (x.flow ≡ Some s)
got_viewed w h (found y) x g e = taken_viewed w y.number y.tick y.content x e
got_viewed w h no_object x g e = ends_not _ x e
got_viewed w h fault x g e = ends_not _ x e
got_viewed w h (accepted y) x g e = absurd g
got_viewed w h exists x g e = absurd g
got_viewed w h (conflict a b) x g e = absurd g

fall : (a b c k n : ℕ) → a ≤ b + k * n → b < c → a + 1 ≤ c + k * n
fall a b c k n e l = omega (arith, e, l)

-- where an entry came, its share is spent
spent : (a b c k most : ℕ) → a ≤ b + k * (most + 1) → b ≤ most → a + 1 ≤ c + (k + 1) * (most + 1)
spent a b c k most e l = grind (arith, e, l)

-- the whole, with the first read
whole : (a b k most : ℕ) → a ≤ b + k * (most + 1) → b ≤ most → a + 1 ≤ (k + 1) * (most + 1)
whole a b k most e l = grind (arith, e, l)

module _ (D : Document) (w : Text) (h0 g : Story) (l : IsLawful D g) (nodes : ℕ) (fits : (i : Story) (s : Seen Flow) → Extends g i → Extends i h0 → HasFlow i w s.content → length (tree_of s.content) ≤ nodes) where
  abbrev most : ℕ
  most = most_calls D nodes

  within : (h : Story) (v : Views) (s : Seen Flow) → Extends g h → Extends h h0 → Fresh h w v → v.flow ≡ Some s → calls_left D h w v s.content ≤ most
  within h v s b c fresh e =
      let stands : HasFlow h w s.content = ap (λ o. flow_in (map_content o)) (fresh.flow s e).stood in
      let a = calls_are_bounded D h w v s.content in
      let n = fits h s b c stands in
      omega (arith, a, n)

  -- how many entries are still to come
  entries_after : (h : Story) (b : Extends g h) → length g.events ≡ length h.events + length b.rest
  entries_after h b = ap length b.goes_on ∙ length-append h.events b.rest

  module _ (h i : Story) (v x : Views) (s : Seen Flow) (facts : Facts) (m : Matter) (viewed : v.flow ≡ Some s) (e : worker_next D w v ≡ act m) (b : Extends g i) (c : Extends i h0) (fresh : Fresh i w x) (entries calls : ℕ) (n : length g.events ≡ length h.events + entries) (ih : (t : Seen Flow) (k : ℕ) → x.flow ≡ Some t → length g.events ≡ length i.events + k → calls ≤ calls_left D i w x t.content + k * (most + 1)) where
    accepted_bounded : (t : Seen Flow) → x.flow ≡ Some t → (event : Event Content) → i ≡ grown h event → calls + 1 ≤ calls_left D h w v s.content + entries * (most + 1)
    accepted_bounded t q event grows =
        let after_it = entries_after i b in
        let one : length i.events ≡ length h.events + 1 = ap (λ (y : Story). length y.events) grows ∙ length-append h.events (event ∷ []) in
        let many : length b.rest + 1 ≡ entries = omega (arith, after_it, one, n) in
        let a = ih t (length b.rest) q after_it in
        subst (λ k. calls + 1 ≤ calls_left D h w v s.content + k * (most + 1)) many
        (spent calls (calls_left D i w x t.content) (calls_left D h w v s.content) (length b.rest) most a (within i x t b c fresh q))

    refused_bounded : i ≡ h → HasFewer D h w v x s → calls + 1 ≤ calls_left D h w v s.content + entries * (most + 1)
    refused_bounded same f =
        let a = ih s entries f.same (n ∙ ap (λ (y : Story). length y.events + entries) (sym same)) in
        fall calls (calls_left D h w x s.content) (calls_left D h w v s.content) entries (most + 1) (subst (λ y. calls ≤ calls_left D y w x s.content + entries * (most + 1)) same a) f.fewer

    act_bounded : (r : Reply) → Did h (change_of w v s facts m) r i → after v (act m) r ≡ goes_on x → calls + 1 ≤ calls_left D h w v s.content + entries * (most + 1)
    act_bounded (accepted y) d on =
        let t = subst HasView on (did_viewed v s viewed m y.number y.tick y.content) in
        accepted_bounded t.0 t.1 (change_of w v s facts m).event d.grows
    act_bounded exists d on = refused_bounded d.2 (refusals_leave_fewer D h w v x s facts m exists viewed e (d.0, d.1, refl) on)
    act_bounded (conflict p q) d on = ends_not _ x on
    act_bounded fault d on = ends_not _ x on
    act_bounded (found y) d on = absurd d
    act_bounded no_object d on = absurd d

  bounded_from : (h : Story) (v u : Views) (s : Seen Flow) (entries : ℕ) (ran : Undisturbed D w h v g u) → Extends h h0 → Fresh h w v → v.flow ≡ Some s → length g.events ≡ length h.events + entries → calls_of ran ≤ calls_left D h w v s.content + entries * (most + 1)
  bounded_from h v u s entries stays c fresh viewed n = omega arith
  bounded_from h v u s entries (reads k r x e got on rest) c fresh viewed n =
      let f = reads_leave_fewer D h w v x s k r viewed e (may_get h k r got) on in
      let a = bounded_from h x u s entries rest c (subst (FreshJob h w) on (got_fresh h w v fresh k (own_key D w v k e) r got)) f.same n in
      fall (calls_of rest) (calls_left D h w x s.content) (calls_left D h w v s.content) entries (most + 1) a f.fewer
  bounded_from h v u s entries (acts {i = i} m t facts r x e seen adds d on rest) c fresh viewed n =
      let b = goes_on_from D w i x g u rest in
      let extends = did_extends h i (change_of w v t facts m) r d in
      let next = subst (FreshJob i w) on (acted_fresh D w h i g v l b extends fresh t seen facts m r d) in
      let later = extends_later i h h0 extends c in
      subst (λ (y : Seen Flow). calls_of rest + 1 ≤ calls_left D h w v y.content + entries * (most + 1)) (some_same t s (sym seen ∙ viewed))
      (act_bounded h i v x t facts m seen e b later next entries (calls_of rest) n (λ y k q j. bounded_from i x u y k rest later next q j) r d on)

  bounded : (h : Story) (v u : Views) (entries : ℕ) (ran : Undisturbed D w h v g u) → Extends h h0 → v ≡ nothing → length g.events ≡ length h.events + entries → calls_of ran ≤ (entries + 1) * (most + 1)
  bounded h v u entries stays c q n = omega arith
  bounded h v u entries (reads k r x e got on rest) c q n =
      let own = first_get D w v k (ap (λ (y : Views). y.flow) q) e in
      let got_it = subst (λ j. Got h j r) (sym own) got in
      let on_it = subst (λ y. after y (get (Workflow w)) r ≡ goes_on x) q (subst (λ j. after v (get j) r ≡ goes_on x) (sym own) on) in
      let t = got_viewed w h r x got_it on_it in
      let fresh = subst (Fresh h w) (sym q) (fresh_nothing h w) in
      let next = subst (FreshJob h w) on (got_fresh h w v fresh k (own_key D w v k e) r got) in
      let a = bounded_from h x u t.0 entries rest c next t.1 n in
      whole (calls_of rest) (calls_left D h w x t.0.content) entries most a (within h x t.0 (goes_on_from D w h x g u rest) c next t.1)
  bounded h v u entries (acts m s facts r x e viewed adds d on rest) c q n = none_some s (sym (ap (λ (y : Views). y.flow) q) ∙ viewed)

-- ---- where no entry came

no_rest : {A : Type 0} (xs : List A) → length xs ≡ 0 → xs ≡ []
no_rest [] e = refl
no_rest (x ∷ xs) e = absurd (omega (arith, e))

-- between a history and one as long there is no other
same_flow : (w : Text) (h i g : Story) → Extends g i → Extends i h → length g.events ≡ length h.events → flow_of g w ≡ flow_of i w
same_flow w h i g b c n =
    let p : length g.events ≡ length i.events + length b.rest = ap length b.goes_on ∙ length-append i.events b.rest in
    let q : length i.events ≡ length h.events + length c.rest = ap length c.goes_on ∙ length-append h.events c.rest in
    let none : b.rest ≡ [] = no_rest b.rest (omega (arith, n, p, q)) in
    ap₂ (λ start events. flow_of record { start = start; events = events } w) b.same_start (b.goes_on ∙ ap (λ es. i.events ++ es) none ∙ append-nil i.events)

ends_by : (D : Document) (w : Text) (h g : Story) (u : Views) (ran : Undisturbed D w h nothing g u) → IsLawful D g → IsBounded D w h g u ran
ends_by D w h g u ran l = record {
  bounded = λ entries n. bounded D w h g l most_nodes all_fit h nothing u entries ran (extends_itself h) refl n;
  still = λ s viewed n. let a = bounded D w h g l (length (tree_of s.content)) (same_tree s viewed n) h nothing u 0 ran (extends_itself h) refl (omega (arith, n)) in omega (arith, a);
}
  where
    all_fit : (i : Story) (s : Seen Flow) → Extends g i → Extends i h → HasFlow i w s.content → length (tree_of s.content) ≤ most_nodes
    all_fit i s b c stands =
        let m = trees_mean D i (lawful_then D g i b l) w s.content stands in
        subst (λ ns. length ns ≤ most_nodes) m.is_tree m.fits

    same_tree : (s : Seen Flow) → u.flow ≡ Some s → length g.events ≡ length h.events → (i : Story) (t : Seen Flow) → Extends g i → Extends i h → HasFlow i w t.content → length (tree_of t.content) ≤ length (tree_of s.content)
    same_tree s viewed n i t b c stands =
        let fresh = stays_fresh D w h nothing g u l (fresh_nothing h w) ran in
        let now : HasFlow g w s.content = ap (λ o. flow_in (map_content o)) (fresh.flow s viewed).stood in
        let same : t.content ≡ s.content = some_same t.content s.content (sym stands ∙ sym (same_flow w h i g b c n) ∙ now) in
        subst (λ f. length (tree_of f) ≤ length (tree_of s.content)) (sym same) (le_refl (length (tree_of s.content)))

pub undisturbed_ends : UndisturbedEnds
undisturbed_ends D w h g u ran valid begun = ends_by D w h g u ran (stays_lawful D w h nothing g u valid begun (views_stay.begin h w) ran)
