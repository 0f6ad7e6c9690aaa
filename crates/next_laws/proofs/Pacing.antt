-- Why a run is paced: no job moves the clock, and the clock moves from an idle state to its next tick.
use Rattle.std.proofs.Common.{◌≡◌, ◌⊎◌, inl, inr, ℕ, zero, suc, ◌+◌, ◌<◌, ◌≤◌, List, [], ◌∷◌, ◌++◌, length, length-append, append_assoc, append-nil, refl, sym, ◌∙◌, ap, ap₂, subst, Option, Some, None, arith}
use Rattle.tree_types.specs.declared.outcome.Outcome.{Outcome}
use Rattle.tree_types.specs.declared.entry.Entry.{Entry}
use Rattle.tree_types.specs.declared.entry.Entry.TheVariants.{Tick}
use Rattle.meaning.specs.Answers.{Facts}
use Rattle.history.specs.Keys.{tick_of}
use Rattle.history.specs.History.{Event, History, Extends, grown}
use Rattle.history.specs.Sometime.{Stood}
use Rattle.law.specs.Documents.{Text, Document}
use Rattle.law.specs.Contents.{Flow, PodObject, Content, Story}
use Rattle.law.specs.Justified.{IsLawful}
use Rattle.law.specs.Due.{Matter, record_fact, file, create, save, release, submit, IsIdle, IsNext, IsPaced}
use Rattle.lawful.specs.Manifests.{HasValidWorkflows}
use Rattle.next_step.specs.Views.{Seen, Views, nothing}
use Rattle.next_step.specs.Changes.{Change, change_of}
use Rattle.next_step.specs.Replies.{Reply, found, accepted, no_object, exists, conflict, fault}
use Rattle.next_step.specs.Runner.{finish_change}
use Rattle.next_step.specs.Calls.{Did, Undisturbed, stays, reads, acts}
use Rattle.next_step.specs.Hands.{Given}
use Rattle.next_step.specs.Plays.{tick_event}
use Rattle.next_step.specs.Ticks.{next_tick}
use Rattle.next_step.specs.Rounds.{jobs_of, WorkerEnds, by_done, by_full, by_get, by_change, JobRan, worker_ran, runner_missed, runner_rested, runner_finished, JobsRan, no_more, one_more, entries_in}
use Rattle.next_laws.specs.Ends.{RunsKeepPace}
use Rattle.next_laws.proofs.Rounds.{still_round_is_idle}
use Rattle.next_laws.proofs.RunsQuiet.{was_still}
use Rattle.next_laws.proofs.Ticks.{next_tick_is_next}

-- ---- the last entry of a list

record Last {A : Type 0} (x : A) (xs : List A) : Type 0 where
  front : List A
  last : A
  is : x ∷ xs ≡ front ++ last ∷ []

last_of : {A : Type 0} (x : A) (xs : List A) → Last x xs
last_of x [] = record { front = []; last = x; is = refl }
last_of x (y ∷ ys) = let l = last_of y ys in record { front = x ∷ l.front; last = l.last; is = ap (λ zs. x ∷ zs) l.is }

empty_not : {A B : Type 0} (xs : List A) (x : A) → [] ≡ xs ++ x ∷ [] → B
empty_not [] x e = absurd cc
empty_not (y ∷ ys) x e = absurd cc

snoc_same : {A : Type 0} (xs ys : List A) (x y : A) → xs ++ x ∷ [] ≡ ys ++ y ∷ [] → (xs ≡ ys) × (x ≡ y)
snoc_same [] [] x y e = (refl, cc)
snoc_same [] (b ∷ ys) x y e = empty_not ys y cc
snoc_same (a ∷ xs) [] x y e = empty_not xs x cc
snoc_same (a ∷ xs) (b ∷ ys) x y e =
    let first : a ≡ b = cc in
    let rest = snoc_same xs ys x y cc in
    (ap₂ (λ c cs. c ∷ cs) first rest.0, rest.1)

-- ---- an entry of a longer history stood before, or is the last

data StoodIn (h : Story) (e : Event Content) (k : Story) (x : Event Content) : Type 0 where
  before : Stood h k x → StoodIn h e k x
  now : k ≡ h → x ≡ e → StoodIn h e k x

stood_in : (h k : Story) (e x : Event Content) → Stood (grown h e) k x → StoodIn h e k x
stood_in h k e x s = by s.extends.rest s.extends.goes_on
  where
    by : (rest : List (Event Content)) → h.events ++ e ∷ [] ≡ (k.events ++ x ∷ []) ++ rest → StoodIn h e k x
    by [] q =
        let same = snoc_same h.events k.events e x (q ∙ append-nil (k.events ++ x ∷ [])) in
        now (ap₂ (λ start events. record { start = start; events = events }) (sym s.extends.same_start) (sym same.0)) (sym same.1)
    by (y ∷ ys) q =
        let l = last_of y ys in
        let same = snoc_same h.events ((k.events ++ x ∷ []) ++ l.front) e l.last (q ∙ ap (λ zs. (k.events ++ x ∷ []) ++ zs) l.is ∙ sym (append_assoc (k.events ++ x ∷ []) l.front (l.last ∷ []))) in
        before record { extends = record { same_start = s.extends.same_start; rest = l.front; goes_on = same.0 } }

-- ---- entries that keep the pace

none_ticks : (o : Entry) (t : ℕ) → tick_of o ≡ None → o ≡ Tick t → {B : Type 0} → B
none_ticks o t e q = absurd cc

paced_other : (D : Document) (n : ℕ) (h : Story) (e : Event Content) → tick_of e.entry ≡ None → IsPaced D n h → IsPaced D n (grown h e)
paced_other D n h e timeless p k x t s q l = by (stood_in h k e x s)
  where
    by : StoodIn h e k x → IsIdle D k × IsNext D k (Some t)
    by (before b) = p k x t b q l
    by (now same is) = none_ticks e.entry t timeless (ap (λ (y : Event Content). y.entry) (sym is) ∙ q)

tick_same : (s t : ℕ) → Tick s ≡ Tick t → s ≡ t
tick_same s t e = cc

paced_tick : (D : Document) (n : ℕ) (h : Story) (to : ℕ) → IsIdle D h → IsNext D h (Some to) → IsPaced D n h → IsPaced D n (grown h (tick_event to))
paced_tick D n h to idle next p k x t s q l = by (stood_in h k (tick_event to) x s)
  where
    by : StoodIn h (tick_event to) k x → IsIdle D k × IsNext D k (Some t)
    by (before b) = p k x t b q l
    by (now same is) =
        let at = tick_same to t (ap (λ (y : Event Content). y.entry) (sym is) ∙ q) in
        subst (λ i. IsIdle D i × IsNext D i (Some t)) (sym same) (idle, subst (λ m. IsNext D h (Some m)) at next)

-- ---- what a job adds

did_paced : (D : Document) (n : ℕ) (h g : Story) (c : Change) (r : Reply) → tick_of c.event.entry ≡ None → Did h c r g → IsPaced D n h → IsPaced D n g
did_paced D n h g c (accepted x) t d p = subst (IsPaced D n) (sym d.grows) (paced_other D n h c.event t p)
did_paced D n h g c exists t d p = subst (IsPaced D n) (sym d.2) p
did_paced D n h g c (conflict a b) t d p = subst (IsPaced D n) (sym d.4) p
did_paced D n h g c fault t d p = subst (IsPaced D n) (sym d) p
did_paced D n h g c (found x) t d p = absurd d
did_paced D n h g c no_object t d p = absurd d

change_timeless : (w : Text) (v : Views) (s : Seen Flow) (facts : Facts) (m : Matter) → tick_of (change_of w v s facts m).event.entry ≡ None
change_timeless w v s facts (record_fact x) = refl
change_timeless w v s facts (file l k r) = refl
change_timeless w v s facts (create p name) = refl
change_timeless w v s facts (save c e k o) = refl
change_timeless w v s facts (release l k) = refl
change_timeless w v s facts (submit c) = refl

undisturbed_paced : (D : Document) (n : ℕ) (w : Text) (h g : Story) (v u : Views) → Undisturbed D w h v g u → IsPaced D n h → IsPaced D n g
undisturbed_paced D n w h g v u stays p = p
undisturbed_paced D n w h g v u (reads k r x e got on rest) p = undisturbed_paced D n w h g x u rest p
undisturbed_paced D n w h g v u (acts {i = i} m s facts r x e viewed adds d on rest) p =
    undisturbed_paced D n w i g x u rest (did_paced D n h i (change_of w v s facts m) r (change_timeless w v s facts m) d p)

ends_paced : (D : Document) (n : ℕ) (w : Text) (h : Story) (v : Views) (calls faults : ℕ) (g : Story) → WorkerEnds D w h v calls faults g → IsPaced D n h → IsPaced D n g
ends_paced D n w h v calls faults g (by_done e) p = p
ends_paced D n w h v calls faults g (by_full x s e viewed t) p = p
ends_paced D n w h v calls faults g (by_get k r e q got on) p = p
ends_paced D n w h v calls faults g (by_change m s facts r i e q viewed adds d on) p = did_paced D n h g (change_of w v s facts m) r (change_timeless w v s facts m) d p

job_paced : (D : Document) (n : ℕ) (h g : Story) (job : Given) (calls faults : ℕ) → JobRan D h job calls faults g → IsPaced D n h → IsPaced D n g
job_paced D n h g job calls faults (worker_ran w i j u last fail ran end) p = ends_paced D n w i u last fail g end (undisturbed_paced D n w h i nothing u ran p)
job_paced D n h g job calls faults (runner_missed w name r got e) p = p
job_paced D n h g job calls faults (runner_rested w name r x got e q) p = p
job_paced D n h g job calls faults (runner_finished w name r s x o i got e q d) p = did_paced D n h g (finish_change w name x o) s refl d p

jobs_paced : (D : Document) (n : ℕ) (h g : Story) (jobs : List Given) (calls faults : ℕ) → JobsRan D h jobs calls faults g → IsPaced D n h → IsPaced D n g
jobs_paced D n h g jobs calls faults no_more p = p
jobs_paced D n h g jobs calls faults (one_more {i = i} {job = job} {others = others} {calls = first} {faults = fails} {more = more} {fail = fail} ran rest) p =
    jobs_paced D n i g others more fail rest (job_paced D n h i job first fails ran p)

-- ---- the run

not_after : {B : Type 0} (D : Document) (h k : Story) (x : Event Content) → Stood h k x → entries_in h ≤ entries_in k → B
not_after D h k x s l =
    let a : entries_in h ≡ length (k.events ++ x ∷ []) + length s.extends.rest = ap length s.extends.goes_on ∙ length-append (k.events ++ x ∷ []) s.extends.rest in
    let b : length (k.events ++ x ∷ []) ≡ entries_in k + 1 = length-append k.events (x ∷ []) in
    absurd (omega (arith, a, b, l))

pub runs_keep_pace : RunsKeepPace
runs_keep_pace = record {
  begin = λ D h k x t s q l. not_after D h k x s l;
  jobs = λ D h g jobs calls faults n ran p. jobs_paced D n h g jobs calls faults ran p;
  tick = λ D h calls t n valid l ran e p.
      paced_tick D n h t (still_round_is_idle D h l (was_still D h valid l calls ran)) (subst (IsNext D h) e (next_tick_is_next D h l)) p;
}
