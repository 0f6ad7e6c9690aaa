-- Why every history that a schedule plays is lawful.
use Rattle.std.proofs.Common.{◌≡◌, ◌⊎◌, inl, inr, ℕ, zero, suc, ◌<◌, List, [], ◌∷◌, ◌++◌, refl, sym, ◌∙◌, subst, Option, Some, None}
use Rattle.std.specs.Prelude.{slice_get, slice_set, replicate}
use Rattle.tree_types.specs.declared.entry.Key.TheVariants.{Pod}
use Rattle.history.specs.History.{Extends, grown, clock_of, IsVersionOf}
use Rattle.history.specs.Versions.{lag_after}
use Rattle.history.proofs.Extends.{extends_itself, extends_grown, extends_later, is_version_later, lawful-grown}
use Rattle.law.specs.Documents.{Text, Document}
use Rattle.law.specs.Contents.{PodObject, Content, OfWorkflow, OfPod, OfLocks, OfCaches, apply, Story, pod_in}
use Rattle.law.specs.Justified.{Justified, IsLawful}
use Rattle.lawful.specs.Manifests.{HasValidWorkflows}
use Rattle.lawful.proofs.Facts.{some_same, none_some}
use Rattle.next_step.specs.Views.{Seen, Views, nothing}
use Rattle.next_step.specs.Next.{get, act}
use Rattle.next_step.specs.Changes.{change_of, ViewsOf}
use Rattle.next_step.specs.Runner.{finish_change}
use Rattle.next_step.specs.Replies.{Reply, found, accepted, no_object, exists, conflict, fault, Job, goes_on, ended, seen, after}
use Rattle.next_step.specs.Backward.{GotBack}
use Rattle.next_step.specs.Hands.{Given, for_flow, for_pod, Hand, idle_hand, with_job, with_pod, with_reply, CallNote}
use Rattle.next_step.specs.Plays.{Stepped, has_none, gets, changes, is_full, is_done, gets_pod, finishes, ends, ScheduleStep, Stage, with_hand, tick_event, Plays, gave, stepped, restarted, lagged, ticked, stayed, failed, Played, over, step}
use Rattle.next_laws.specs.Playing.{HasSeen, HandHasSeen, IsLawfulStage, PlaysLawfully}
use Rattle.next_laws.proofs.Acting.{acts_still, finishes_still}
use Rattle.next_laws.proofs.Keeping.{did_extends}
use Rattle.next_laws.proofs.Viewing.{views_stay}
use Rattle.next_laws.proofs.StayingLawful.{did_lawful}
use Rattle.next_laws.proofs.ReadingBack.{read_is, got_back_answers}

-- ---- a hand

-- before the first call of a job nothing was read
none_read : (h : Story) (js : List Given) → HasSeen h js nothing None
none_read h [] = (refl, refl)
none_read h (for_flow w ∷ js) = (views_stay.begin h w, refl)
none_read h (for_pod w name ∷ js) = (refl, λ x e. none_some x e)

seen_later : (h g : Story) (js : List Given) (v : Views) (pod : Option (Seen PodObject)) → Extends g h → HasSeen h js v pod → HasSeen g js v pod
seen_later h g [] v pod b a = a
seen_later h g (for_flow w ∷ js) v pod b a = (views_stay.later h g w v b a.0, a.1)
seen_later h g (for_pod w name ∷ js) v pod b a = (a.0, λ x e. is_version_later apply h g (Pod w name) x.number (OfPod x.content) x.tick b (a.1 x e))

seen_more : (h : Story) (js : List Given) (v : Views) (pod : Option (Seen PodObject)) (job : Given) → HasSeen h js v pod → HasSeen h (js ++ job ∷ []) v pod
seen_more h [] v pod (for_flow w) a = (subst (ViewsOf h w) (sym a.0) (views_stay.begin h w), a.1)
seen_more h [] v pod (for_pod w name) a = (a.0, λ x e. none_some x (sym a.1 ∙ e))
seen_more h (for_flow w ∷ js) v pod job a = a
seen_more h (for_pod w name ∷ js) v pod job a = a

job_seen : (h : Story) (w : Text) (js : List Given) (lag : ℕ) (j : Job) → ((x : Views) → j ≡ goes_on x → ViewsOf h w x) → HandHasSeen h (with_job j (for_flow w ∷ js) js lag)
job_seen h w js lag (goes_on v) on = (on v refl, refl)
job_seen h w js lag (ended e) on = none_read h js

pod_seen : (h : Story) (w name : Text) (js : List Given) (lag n tick : ℕ) (c : Content) → IsVersionOf apply h (Pod w name) n c tick → HandHasSeen h (with_pod n tick (pod_in (Some c)) (for_pod w name ∷ js) js lag)
pod_seen h w name js lag n tick (OfPod pod) is =
    (refl, λ x e. subst (λ (y : Seen PodObject). IsVersionOf apply h (Pod w name) y.number (OfPod y.content) y.tick) (some_same (seen n pod tick) x e) is)
pod_seen h w name js lag n tick (OfWorkflow f) is = none_read h js
pod_seen h w name js lag n tick (OfLocks b) is = none_read h js
pod_seen h w name js lag n tick (OfCaches ss) is = none_read h js

reply_seen : (h : Story) (w name : Text) (js : List Given) (back lag : ℕ) (r : Reply) → GotBack h back (Pod w name) r → HandHasSeen h (with_reply r (for_pod w name ∷ js) js lag)
reply_seen h w name js back lag (found x) g = pod_seen h w name js lag x.number x.tick x.content (read_is h (Pod w name) back x g)
reply_seen h w name js back lag no_object g = none_read h js
reply_seen h w name js back lag exists g = none_read h js
reply_seen h w name js back lag fault g = none_read h js
reply_seen h w name js back lag (accepted x) g = none_read h js
reply_seen h w name js back lag (conflict a b) g = none_read h js

-- what a step leaves of the history and of its hand
record Leaves (D : Document) (h g : Story) (b : Hand) : Type 0 where
  lawful : IsLawful D g
  extends : Extends g h
  hand : HandHasSeen g b

stays_so : (D : Document) (h : Story) (b : Hand) → IsLawful D h → HandHasSeen h b → Leaves D h h b
stays_so D h b l a = record { lawful = l; extends = extends_itself h; hand = a }

steps_lawfully : (D : Document) (h : Story) (i : ℕ) (a : Hand) (notes : List CallNote) (g : Story) (b : Hand) → HasValidWorkflows D → IsLawful D h → HandHasSeen h a → Stepped D h i a notes g b → Leaves D h g b
steps_lawfully D h i a notes g b valid l s (has_none e) = stays_so D h a l s
steps_lawfully D h i a notes g b valid l s (gets w js k r e n got) =
    let v : ViewsOf h w a.views × (a.pod ≡ None) = subst (λ os. HasSeen h os a.views a.pod) e s in
    stays_so D h b l (subst (λ os. HandHasSeen h (with_job (after a.views (get k) r) os js (lag_after k a.lag))) (sym e)
    (job_seen h w js (lag_after k a.lag) (after a.views (get k) r)
    (λ x on. views_stay.reads D h h w a.views x k r (extends_itself h) v.0 n (got_back_answers h k a.lag r got) on)))
steps_lawfully D h i a notes g b valid l s (changes w js m y facts r k e n viewed adds d) =
    let v : ViewsOf h w a.views × (a.pod ≡ None) = subst (λ os. HasSeen h os a.views a.pod) e s in
    let c = change_of w a.views y facts m in
    let still = acts_still D h w a.views y facts m valid l.start v.0 viewed n adds in
    record {
      lawful = did_lawful D h g c r still l d;
      extends = did_extends h g c r d;
      hand = subst (λ os. HandHasSeen g (with_job (after a.views (act m) r) os js a.lag)) (sym e)
          (job_seen g w js a.lag (after a.views (act m) r)
          (λ x on. views_stay.acts D h h g w a.views x y facts m r (extends_itself h) v.0 viewed n d on));
    }
steps_lawfully D h i a notes g b valid l s (is_full w js x y e n viewed t) = stays_so D h b l (none_read h js)
steps_lawfully D h i a notes g b valid l s (is_done w js e n) = stays_so D h b l (none_read h js)
steps_lawfully D h i a notes g b valid l s (gets_pod w name js r e p got) =
    stays_so D h b l (subst (λ os. HandHasSeen h (with_reply r os js 0)) (sym e) (reply_seen h w name js a.lag 0 r got))
steps_lawfully D h i a notes g b valid l s (finishes w name js x o r k e p n d) =
    let v : (a.views ≡ nothing) × ((y : Seen PodObject) → a.pod ≡ Some y → IsVersionOf apply h (Pod w name) y.number (OfPod y.content) y.tick) = subst (λ os. HasSeen h os a.views a.pod) e s in
    let c = finish_change w name x o in
    let still = finishes_still D h w name x o (v.1 x p) n in
    record { lawful = did_lawful D h g c r still l d; extends = did_extends h g c r d; hand = none_read g js }
steps_lawfully D h i a notes g b valid l s (ends w name js x e p n) = stays_so D h b l (none_read h js)

-- ---- the schedule

-- a hand that was put in its place, and the others
pub set_gets : {A : Type 0} (xs : List A) (i j : ℕ) (b a : A) → slice_get (slice_set xs i b) j ≡ Some a → (b ≡ a) ⊎ (slice_get xs j ≡ Some a)
set_gets [] i j b a e = none_some a e
set_gets (x ∷ xs) zero zero b a e = inl (some_same b a e)
set_gets (x ∷ xs) zero (suc j) b a e = inr e
set_gets (x ∷ xs) (suc i) zero b a e = inr e
set_gets (x ∷ xs) (suc i) (suc j) b a e = set_gets xs i j b a e

put_hand : (D : Document) (p : Stage) (i : ℕ) (b : Hand) (g : Story) → IsLawfulStage D p → Leaves D p.story g b → IsLawfulStage D (with_hand p g i b)
put_hand D p i b g r l = record { lawful = l.lawful; hands = λ j a e. by j a (set_gets p.hands i j b a e) (r.hands j a) }
  where
    by : (j : ℕ) (a : Hand) → (b ≡ a) ⊎ (slice_get p.hands j ≡ Some a) → (slice_get p.hands j ≡ Some a → HandHasSeen p.story a) → HandHasSeen g a
    by j a (inl e) old = subst (HandHasSeen g) e l.hand
    by j a (inr e) old = seen_later p.story g a.jobs a.views a.pod l.extends (old e)

tick_lawful : (D : Document) (h : Story) (t : ℕ) → IsLawful D h → clock_of h < t → IsLawful D (grown h (tick_event t))
tick_lawful D h t l c = record { start = l.start; each = lawful-grown (Justified D) h (tick_event t) l.each (refl, c) }

one_lawfully : (D : Document) (p q : Stage) (o : ScheduleStep) (notes : List CallNote) → HasValidWorkflows D → IsLawfulStage D p → Plays D p o notes q → IsLawfulStage D q
one_lawfully D p q o notes valid r (gave i job a e) =
    put_hand D p i (record a { jobs = a.jobs ++ job ∷ [] }) p.story r (stays_so D p.story (record a { jobs = a.jobs ++ job ∷ [] }) r.lawful (seen_more p.story a.jobs a.views a.pod job (r.hands i a e)))
one_lawfully D p q o notes valid r (stepped i a b ns g e s) =
    put_hand D p i b g r (steps_lawfully D p.story i a ns g b valid r.lawful (r.hands i a e) s)
one_lawfully D p q o notes valid r (restarted i a e) = put_hand D p i idle_hand p.story r (stays_so D p.story idle_hand r.lawful (refl, refl))
one_lawfully D p q o notes valid r (lagged i back a e) =
    put_hand D p i (record a { lag = back }) p.story r (stays_so D p.story (record a { lag = back }) r.lawful (r.hands i a e))
one_lawfully D p q o notes valid r (ticked t c) = record {
  lawful = tick_lawful D p.story t r.lawful c;
  hands = λ j a e. seen_later p.story (grown p.story (tick_event t)) a.jobs a.views a.pod (extends_grown p.story (tick_event t)) (r.hands j a e);
}
one_lawfully D p q o notes valid r (stayed t c) = r
one_lawfully D p q o notes valid r (failed t) = r

played_lawfully : (D : Document) (p q : Stage) (os : List ScheduleStep) (notes : List CallNote) → HasValidWorkflows D → IsLawfulStage D p → Played D p os notes q → IsLawfulStage D q
played_lawfully D p q os notes valid r over = r
played_lawfully D p q os notes valid r (step {q = m} {os = rest} {ms = ms} {ns = ns} o x rests) = played_lawfully D m q rest ns valid (one_lawfully D p m o ms valid r x) rests

-- ---- a history that is played goes on from the one before

steps_on : (D : Document) (h : Story) (i : ℕ) (a : Hand) (notes : List CallNote) (g : Story) (b : Hand) → Stepped D h i a notes g b → Extends g h
steps_on D h i a notes g b (has_none e) = extends_itself h
steps_on D h i a notes g b (gets w js k r e n got) = extends_itself h
steps_on D h i a notes g b (changes w js m y facts r k e n viewed adds d) = did_extends h g (change_of w a.views y facts m) r d
steps_on D h i a notes g b (is_full w js x y e n viewed t) = extends_itself h
steps_on D h i a notes g b (is_done w js e n) = extends_itself h
steps_on D h i a notes g b (gets_pod w name js r e p got) = extends_itself h
steps_on D h i a notes g b (finishes w name js x o r k e p n d) = did_extends h g (finish_change w name x o) r d
steps_on D h i a notes g b (ends w name js x e p n) = extends_itself h

one_on : (D : Document) (p q : Stage) (o : ScheduleStep) (notes : List CallNote) → Plays D p o notes q → Extends q.story p.story
one_on D p q o notes (gave i job a e) = extends_itself p.story
one_on D p q o notes (stepped i a b ns g e s) = steps_on D p.story i a ns g b s
one_on D p q o notes (restarted i a e) = extends_itself p.story
one_on D p q o notes (lagged i back a e) = extends_itself p.story
one_on D p q o notes (ticked t c) = extends_grown p.story (tick_event t)
one_on D p q o notes (stayed t c) = extends_itself p.story
one_on D p q o notes (failed t) = extends_itself p.story

played_on : (D : Document) (p q : Stage) (os : List ScheduleStep) (notes : List CallNote) → Played D p os notes q → Extends q.story p.story
played_on D p q os notes over = extends_itself p.story
played_on D p q os notes (step {q = m} {os = rest} {ms = ms} {ns = ns} o x rests) = extends_later q.story m.story p.story (played_on D m q rest ns rests) (one_on D p m o ms x)

-- ---- the beginning

idle_hands : (h : Story) (n i : ℕ) (a : Hand) → slice_get (replicate n idle_hand) i ≡ Some a → HandHasSeen h a
idle_hands h zero i a e = none_some a e
idle_hands h (suc n) zero a e = subst (HandHasSeen h) (some_same idle_hand a e) (refl, refl)
idle_hands h (suc n) (suc i) a e = idle_hands h n i a e

pub plays_lawfully : PlaysLawfully
plays_lawfully = record {
  begin = λ D h n l. record { lawful = l; hands = λ i a e. idle_hands h n i a e };
  plays = played_lawfully;
  goes_on = played_on;
}
