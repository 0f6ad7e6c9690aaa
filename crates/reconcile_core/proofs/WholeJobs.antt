-- Why the steps of a job are a whole job, which nobody disturbs where no entries of others come and nothing is read with a
-- lag; and why it is given up.
use Rattle.std.proofs.Common.{◌≡◌, ◌≢◌, ◌≤◌, ℕ, ◌+◌, List, [], ◌∷◌, refl, sym, ◌∙◌, ap, subst, None, Result, Ok, Err, arith}
use Rattle.io_edge.specs.Cause.{Rose}
use Rattle.tree_types.specs.declared.entry.Key.{Key}
use Rattle.tree_types.specs.declared.entry.Key.TheVariants.{Workflow, Pod, Locks, Caches}
use Rattle.history.specs.History.{Event}
use Rattle.history.specs.Versions.{back_of, lag_after}
use Rattle.history.proofs.Extends.{extends_itself, extends_later}
use Rattle.store_client.specs.Calls.{CountsOthers, StaysLawful}
use Rattle.law.specs.Documents.{Text, Document}
use Rattle.law.specs.Contents.{Content, Story}
use Rattle.law.specs.Due.{record_fact}
use Rattle.next_step.specs.Views.{Views, nothing}
use Rattle.next_step.specs.Next.{get, act, done, worker_next}
use Rattle.next_step.specs.Changes.{change_of, ViewsOf}
use Rattle.next_step.specs.Replies.{Reply, found, accepted, no_object, exists, conflict, fault, Job, Ending, goes_on, ended, after}
use Rattle.next_step.specs.Calls.{Got, Did, Undisturbed, calls_of, stays}
use Rattle.next_step.specs.Backward.{GotBack}
use Rattle.next_step.specs.Hands.{Given, for_flow, for_pod, Hand, with_job, CallNote}
use Rattle.next_step.specs.Plays.{Stepped, has_none, gets, changes, is_full, is_done, gets_pod, finishes, ends}
use Rattle.next_step.specs.Rounds.{WorkerEnds, by_done, by_full, by_get, by_change, worker_ran, faults_of}
use Rattle.next_laws.specs.Viewing.{ViewsStay}
use Rattle.reply_laws.specs.Replies.{LeavesClient}
use Rattle.run_laws.specs.Whole.{Told, told_by, told_of_end, Ran}
use Rattle.worker_job.specs.Jobs.{OneJob}
use Rattle.reconcile_core.specs.declared.answers.Ended.{Ended as HowEnded}
use Rattle.reconcile_core.specs.declared.answers.StepDone.{StepDone}
use Rattle.reconcile_core.specs.declared.answers.StepDone.TheVariants.{Idle, Called, Ended}
use Rattle.reconcile_core.specs.declared.answers.ReconcileFault.{ReconcileFault}
use Rattle.reconcile_core.specs.declared.answers.ReconcileFault.TheVariants as faults
use Rattle.reconcile_core.specs.Answers.{of_refusal, of_call}
use Rattle.reconcile_core.specs.Steps.{Tells, in_job, after_step, JobStepMade}
use Rattle.reconcile_core.specs.Reconciled.{told_of, Steps, begun, with_step, returned, JobMade, MovedOn, WouldBeTooLarge, FaultCame}
use Rattle.reconcile_core.specs.Inside.{Going}
use Rattle.reconcile_core.proofs.Stepping.{refusal_not_called}
use Rattle.reconcile_core.proofs.Alone.{same_at, others_rise, got_now, then_reads, then_acts}

-- ---- a step of a worker's job

-- the job is of one workflow
own : (w x : Text) (others rest : List Given) → for_flow w ∷ others ≡ for_flow x ∷ rest → x ≡ w
own w x others rest e = cc

none_is_own : {B : Type 0} (w : Text) (others : List Given) → for_flow w ∷ others ≡ [] → B
none_is_own w others e = absurd cc

pod_is_not_own : {B : Type 0} (w x name : Text) (others rest : List Given) → for_flow w ∷ others ≡ for_pod x name ∷ rest → B
pod_is_not_own w x name others rest e = absurd cc

-- ---- a call after which the job goes on

record GoesOn (j : Job) : Type 0 where
  pub views : Views
  pub is : j ≡ goes_on views

called_on : (j : Job) (r : Reply) → Ok Called ≡ of_call j r → GoesOn j
called_on (goes_on x) r e = record { views = x; is = refl }
called_on (ended a) r e = refusal_not_called r (sym e)

no_lag_back : (k : Key) (lag : ℕ) → lag ≡ 0 → back_of k lag ≡ 0
no_lag_back (Workflow w) lag e = e
no_lag_back (Pod w name) lag e = e
no_lag_back Locks lag e = e
no_lag_back Caches lag e = refl

no_lag_after : (k : Key) (lag : ℕ) → lag ≡ 0 → lag_after k lag ≡ 0
no_lag_after (Workflow w) lag e = refl
no_lag_after (Pod w name) lag e = refl
no_lag_after Locks lag e = refl
no_lag_after Caches lag e = e

record Moved (D : Document) (w : Text) (start now : Story) (u : Views) (lag : ℕ) : Type 0 where
  pub none : lag ≡ 0
  pub ran : Undisturbed D w start nothing now u

-- the hand of a job that goes on has its views and its lag
went_on : (D : Document) (w : Text) (start now : Story) (j : Job) (all others : List Given) (lag lag_now : ℕ) (u : Views) (own_jobs : List Given) → with_job j all others lag ≡ record { jobs = own_jobs; views = u; pod = None; lag = lag_now } → lag ≡ 0 → (g : GoesOn j) → Undisturbed D w start nothing now g.views → Moved D w start now u lag_now
went_on D w start now j all others lag lag_now u own_jobs e z g ran =
    let f : with_job (goes_on g.views) all others lag ≡ record { jobs = own_jobs; views = u; pod = None; lag = lag_now } = ap (λ y. with_job y all others lag) (sym g.is) ∙ e in
    record {
      none = sym (ap (λ (a : Hand). a.lag) f) ∙ z;
      ran = subst (λ y. Undisturbed D w start nothing now y) (ap (λ (a : Hand). a.views) f) ran;
    }

module _ (D : Document) (w : Text) (h : Story) (i : ℕ) (v : Views) (lag : ℕ) where
  moved : (start : Story) (notes : List CallNote) (g : Story) (b : Hand) (st : Stepped D h i (in_job w [] v lag) notes g b) (u : Views) (lag_now : ℕ) → Tells st (Ok Called) → b ≡ in_job w [] u lag_now → lag ≡ 0 → Undisturbed D w start nothing h v → Moved D w start g u lag_now
  moved start notes g b (has_none e) u lag_now t is z ran = none_is_own w [] e
  moved start notes g b (gets x others k r e n got) u lag_now t is z ran =
      let on = called_on (after v (get k) r) r t in
      let next : worker_next D w v ≡ get k = subst (λ y. worker_next D y v ≡ get k) (own w x [] others e) n in
      let now : Got h k r = got_now h k r (subst (λ y. GotBack h y k r) (no_lag_back k lag z) got) in
      went_on D w start h (after v (get k) r) (for_flow w ∷ []) others (lag_after k lag) lag_now u (for_flow w ∷ []) is (no_lag_after k lag z) on
      (then_reads D w start h nothing v ran k r on.views next now on.is)
  moved start notes g b (changes x others m s facts r l e n viewed adds did) u lag_now t is z ran =
      let on = called_on (after v (act m) r) r t in
      let next : worker_next D w v ≡ act m = subst (λ y. worker_next D y v ≡ act m) (own w x [] others e) n in
      let made : Did h (change_of w v s facts m) r g = subst (λ y. Did h (change_of y v s facts m) r g) (own w x [] others e) did in
      went_on D w start g (after v (act m) r) (for_flow w ∷ []) others lag lag_now u (for_flow w ∷ []) is z on
      (then_acts D w start h nothing v ran m s facts r on.views g next viewed adds made on.is)
  moved start notes g b (is_full x others f s e n viewed large) u lag_now t is z ran = absurd cc
  moved start notes g b (is_done x others e n) u lag_now t is z ran = absurd cc
  moved start notes g b (gets_pod x name others r e n got) u lag_now t is z ran = pod_is_not_own w x name [] others e
  moved start notes g b (finishes x name others y o r l e p n did) u lag_now t is z ran = pod_is_not_own w x name [] others e
  moved start notes g b (ends x name others y e p n) u lag_now t is z ran = pod_is_not_own w x name [] others e

-- ---- the call that ends the job

record EndedBy (j : Job) (r : Reply) (answer : Result StepDone ReconcileFault) : Type 0 where
  pub ending : Ending
  pub is : j ≡ ended ending
  pub told : answer ≡ of_refusal r

last_call : (j : Job) (r : Reply) (answer : Result StepDone ReconcileFault) → answer ≡ of_call j r → (answer ≡ Ok Called → ⊥) → EndedBy j r answer
last_call (goes_on x) r answer e n = absurd (n e)
last_call (ended a) r answer e n = record { ending = a; is = refl; told = e }

told_reply : (r : Reply) → told_of (returned (of_refusal r)) ≡ told_by r
told_reply (found x) = refl
told_reply (accepted x) = refl
told_reply no_object = refl
told_reply exists = refl
told_reply (conflict a b) = refl
told_reply fault = refl

record EndsSo (D : Document) (w : Text) (h : Story) (v : Views) (told : Told) (g : Story) : Type 0 where
  pub calls : ℕ
  pub faults : ℕ
  pub end : WorkerEnds D w h v calls faults g
  pub is_told : told ≡ told_of_end end

module _ (D : Document) (w : Text) (h : Story) (i : ℕ) (v : Views) (lag : ℕ) where
  ends_so : (notes : List CallNote) (g : Story) (b : Hand) (st : Stepped D h i (in_job w [] v lag) notes g b) (answer : Result StepDone ReconcileFault) → Tells st answer → (answer ≡ Ok Called → ⊥) → lag ≡ 0 → EndsSo D w h v (told_of (returned answer)) g
  ends_so notes g b (has_none e) answer t n z = none_is_own w [] e
  ends_so notes g b (gets x others k r e q got) answer t n z =
      let l = last_call (after v (get k) r) r answer t n in
      let next : worker_next D w v ≡ get k = subst (λ y. worker_next D y v ≡ get k) (own w x [] others e) q in
      let now : Got h k r = got_now h k r (subst (λ y. GotBack h y k r) (no_lag_back k lag z) got) in
      record { calls = 1; faults = faults_of r; end = by_get k r l.ending next now l.is; is_told = ap (λ y. told_of (returned y)) l.told ∙ told_reply r }
  ends_so notes g b (changes x others m s facts r l e q viewed adds did) answer t n z =
      let l = last_call (after v (act m) r) r answer t n in
      let next : worker_next D w v ≡ act m = subst (λ y. worker_next D y v ≡ act m) (own w x [] others e) q in
      let made : Did h (change_of w v s facts m) r g = subst (λ y. Did h (change_of y v s facts m) r g) (own w x [] others e) did in
      record { calls = 1; faults = faults_of r; end = by_change m s facts r g l.ending next viewed adds made l.is; is_told = ap (λ y. told_of (returned y)) l.told ∙ told_reply r }
  ends_so notes g b (is_full x others f s e q viewed large) answer t n z =
      let next : worker_next D w v ≡ act (record_fact f) = subst (λ y. worker_next D y v ≡ act (record_fact f)) (own w x [] others e) q in
      record { calls = 0; faults = 0; end = by_full f s next viewed large; is_told = ap (λ y. told_of (returned y)) t }
  ends_so notes g b (is_done x others e q) answer t n z =
      let next : worker_next D w v ≡ done = subst (λ y. worker_next D y v ≡ done) (own w x [] others e) q in
      record { calls = 0; faults = 0; end = by_done next; is_told = ap (λ y. told_of (returned y)) t }
  ends_so notes g b (gets_pod x name others r e q got) answer t n z = pod_is_not_own w x name [] others e
  ends_so notes g b (finishes x name others y o r l e p q did) answer t n z = pod_is_not_own w x name [] others e
  ends_so notes g b (ends x name others y e p q) answer t n z = pod_is_not_own w x name [] others e

ran_so : (D : Document) (w : Text) (start at now : Story) (v : Views) (ran : Undisturbed D w start nothing at v) (last : Told) (end : EndsSo D w at v last now) (told : Told) → told ≡ last → Ran D start (for_flow w) told now
ran_so D w start at now v ran last end told e = record {
  calls = calls_of ran + end.calls;
  faults = end.faults;
  ran = worker_ran w at now v end.calls end.faults ran end.end;
  is_told = e ∙ end.is_told;
}

-- ---- why it is given up

conflict_reply : (j : Job) (r : Reply) (a b : ℕ) → Err (faults.Conflict a b) ≡ of_call j r → r ≡ conflict a b
conflict_reply (goes_on x) r a b t = absurd cc
conflict_reply (ended e) (found x) a b t = absurd cc
conflict_reply (ended e) (accepted x) a b t = absurd cc
conflict_reply (ended e) no_object a b t = absurd cc
conflict_reply (ended e) exists a b t = absurd cc
conflict_reply (ended e) (conflict c d) a b t = cc
conflict_reply (ended e) fault a b t = absurd cc

not_too_large : {B : Type 0} (j : Job) (r : Reply) → Err faults.TooLarge ≡ of_call j r → B
not_too_large (goes_on x) r t = absurd cc
not_too_large (ended e) (found x) t = absurd cc
not_too_large (ended e) (accepted x) t = absurd cc
not_too_large (ended e) no_object t = absurd cc
not_too_large (ended e) exists t = absurd cc
not_too_large (ended e) (conflict c d) t = absurd cc
not_too_large (ended e) fault t = absurd cc

not_idle : {B : Type 0} (j : Job) (r : Reply) → Ok Idle ≡ of_call j r → B
not_idle (goes_on x) r t = absurd cc
not_idle (ended e) (found x) t = absurd cc
not_idle (ended e) (accepted x) t = absurd cc
not_idle (ended e) no_object t = absurd cc
not_idle (ended e) exists t = absurd cc
not_idle (ended e) (conflict c d) t = absurd cc
not_idle (ended e) fault t = absurd cc

module _ (D : Document) (w : Text) (h : Story) (i : ℕ) (v : Views) (lag : ℕ) where
  moved_by : (notes : List CallNote) (g : Story) (b : Hand) (st : Stepped D h i (in_job w [] v lag) notes g b) (expected there : ℕ) → Tells st (Err (faults.Conflict expected there)) → ViewsOf h w v → MovedOn D w expected there g
  moved_by notes g b (has_none e) n m t views = none_is_own w [] e
  moved_by notes g b (gets x others k r e q got) n m t views = absurd (subst (GotBack h (back_of k lag) k) (conflict_reply (after v (get k) r) r n m t) got)
  moved_by notes g b (changes x others a s facts r l e q viewed adds did) n m t views =
      let next : worker_next D w v ≡ act a = subst (λ y. worker_next D y v ≡ act a) (own w x [] others e) q in
      let made : Did h (change_of w v s facts a) r g = subst (λ y. Did h (change_of y v s facts a) r g) (own w x [] others e) did in
      let refused : Did h (change_of w v s facts a) (conflict n m) g = subst (λ y. Did h (change_of w v s facts a) y g) (conflict_reply (after v (act a) r) r n m t) made in
      record {
        views = v;
        viewed = subst (λ y. ViewsOf y w v) (sym refused.4) views;
        matter = a;
        flow = s;
        shown = viewed;
        next = next;
        facts = facts;
        adds = adds;
        refused = subst (λ y. Did y (change_of w v s facts a) (conflict n m) g) (sym refused.4) refused;
      }
  moved_by notes g b (is_full x others f s e q viewed large) n m t views = absurd cc
  moved_by notes g b (is_done x others e q) n m t views = absurd cc
  moved_by notes g b (gets_pod x name others r e q got) n m t views = pod_is_not_own w x name [] others e
  moved_by notes g b (finishes x name others y o r l e p q did) n m t views = pod_is_not_own w x name [] others e
  moved_by notes g b (ends x name others y e p q) n m t views = pod_is_not_own w x name [] others e

  large_by : (notes : List CallNote) (g : Story) (b : Hand) (st : Stepped D h i (in_job w [] v lag) notes g b) → Tells st (Err faults.TooLarge) → ViewsOf h w v → WouldBeTooLarge D w g
  large_by notes g b (has_none e) t views = none_is_own w [] e
  large_by notes g b (gets x others k r e q got) t views = not_too_large (after v (get k) r) r t
  large_by notes g b (changes x others a s facts r l e q viewed adds did) t views = not_too_large (after v (act a) r) r t
  large_by notes g b (is_full x others f s e q viewed large) t views =
      let next : worker_next D w v ≡ act (record_fact f) = subst (λ y. worker_next D y v ≡ act (record_fact f)) (own w x [] others e) q in
      record { views = v; viewed = views; flow = s; shown = viewed; fact = f; next = next; large = large }
  large_by notes g b (is_done x others e q) t views = absurd cc
  large_by notes g b (gets_pod x name others r e q got) t views = pod_is_not_own w x name [] others e
  large_by notes g b (finishes x name others y o r l e p q did) t views = pod_is_not_own w x name [] others e
  large_by notes g b (ends x name others y e p q) t views = pod_is_not_own w x name [] others e

  idle_by : {B : Type 0} (notes : List CallNote) (g : Story) (b : Hand) (st : Stepped D h i (in_job w [] v lag) notes g b) → Tells st (Ok Idle) → B
  idle_by notes g b (has_none e) t = none_is_own w [] e
  idle_by notes g b (gets x others k r e q got) t = not_idle (after v (get k) r) r t
  idle_by notes g b (changes x others a s facts r l e q viewed adds did) t = not_idle (after v (act a) r) r t
  idle_by notes g b (is_full x others f s e q viewed large) t = absurd cc
  idle_by notes g b (is_done x others e q) t = absurd cc
  idle_by notes g b (gets_pod x name others r e q got) t = pod_is_not_own w x name [] others e
  idle_by notes g b (finishes x name others y o r l e p q did) t = pod_is_not_own w x name [] others e
  idle_by notes g b (ends x name others y e p q) t = pod_is_not_own w x name [] others e

ok_is_not_err : {T E : Type 0} {t : T} {e : E} → Ok t ≡ Err e → ⊥
ok_is_not_err q = absurd cc

returned_err : (a : Result StepDone ReconcileFault) (e : ReconcileFault) → Err e ≡ returned a → a ≡ Err e
returned_err (Ok d) e q = absurd cc
returned_err (Err x) e q = ap Err cc

-- a job has always a step
pub never_idle : {B : Type 0} (D : Document) (w : Text) (seen : Story) (v u : Views) (lag before : ℕ) (now : Story) (lag_now others_now : ℕ) (answer : Result StepDone ReconcileFault) → answer ≡ Ok Idle → (answer ≢ Err faults.Memory → JobStepMade D w seen v lag before answer now u lag_now others_now) → B
never_idle D w seen v u lag before now lag_now others_now answer e made =
    let s = made (λ m. ok_is_not_err (sym e ∙ m)) 0 [] in
    idle_by D w s.at 0 v lag s.notes now (after_step answer w [] u lag_now) s.stepped (subst (Tells s.stepped) e s.answer)

-- ---- the steps of a job

module _ (D : Document) (w : Text) (start : Story) (lag others : ℕ) where
  rises : (now : Story) (v : Views) (left came : ℕ) → Steps D w start lag others now v left came → others ≤ came
  rises now v left came begun = omega arith
  rises now v left came (with_step {seen = x} {v = y} {left = a} {came = c} st made) =
      let s = made 0 [] in
      let low = rises x y a c st in
      let up = others_rise s.at x c came s.later s.others in
      omega (arith, low, up)

  undisturbed : (now : Story) (v : Views) (left came : ℕ) → Steps D w start lag others now v left came → lag ≡ 0 → came ≡ others → Moved D w start now v left
  undisturbed now v left came begun z e = record { none = z; ran = stays }
  undisturbed now v left came (with_step {seen = x} {v = y} {left = a} {came = c} st made) z e =
      let s = made 0 [] in
      let low = rises x y a c st in
      let up = others_rise s.at x c came s.later s.others in
      let then : c ≡ others = omega (arith, low, up, e) in
      let same : came ≡ c = e ∙ sym then in
      let before = undisturbed x y a c st z then in
      let here : s.at ≡ x = same_at s.at x c s.later (subst (λ n. CountsOthers x s.at c n) same s.others) in
      moved D w s.at 0 y a start s.notes now (in_job w [] v left) s.stepped v left s.answer refl before.none
      (subst (λ n. Undisturbed D w start nothing n y) (sym here) before.ran)

  module _ (r : Result Unit ReconcileFault) (now : Story) (lag_now others_now : ℕ) (j : JobMade D w start lag others r now lag_now others_now) where
    pub ran_alone : lag ≡ 0 → others_now ≡ others → Ran D start (for_flow w) (told_of r) now
    ran_alone z e =
        let s = j.made 0 [] in
        let low = rises j.seen j.views j.left j.came j.steps in
        let up = others_rise s.at j.seen j.came others_now s.later s.others in
        let then : j.came ≡ others = omega (arith, low, up, e) in
        let same : others_now ≡ j.came = e ∙ sym then in
        let before = undisturbed j.seen j.views j.left j.came j.steps z then in
        let here : s.at ≡ j.seen = same_at s.at j.seen j.came s.later (subst (λ n. CountsOthers j.seen s.at j.came n) same s.others) in
        let ran : Undisturbed D w start nothing s.at j.views = subst (λ n. Undisturbed D w start nothing n j.views) (sym here) before.ran in
        let end = ends_so D w s.at 0 j.views j.left s.notes now (after_step j.last w [] j.views_now lag_now) s.stepped j.last s.answer j.ends before.none in
        ran_so D w start s.at now j.views ran (told_of (returned j.last)) end (told_of r) (ap told_of j.is_returned)

    pub moved_on : ViewsStay → (expected there : ℕ) → r ≡ Err (faults.Conflict expected there) → MovedOn D w expected there now
    moved_on stay n m e =
        let s = j.made 0 [] in
        let is = returned_err j.last (faults.Conflict n m) (sym e ∙ j.is_returned) in
        moved_by D w s.at 0 j.views j.left s.notes now (after_step j.last w [] j.views_now lag_now) s.stepped n m (subst (Tells s.stepped) is s.answer) (stay.later j.seen s.at w j.views s.later j.viewed)

    pub too_large : ViewsStay → r ≡ Err faults.TooLarge → WouldBeTooLarge D w now
    too_large stay e =
        let s = j.made 0 [] in
        let is = returned_err j.last faults.TooLarge (sym e ∙ j.is_returned) in
        large_by D w s.at 0 j.views j.left s.notes now (after_step j.last w [] j.views_now lag_now) s.stepped (subst (Tells s.stepped) is s.answer) (stay.later j.seen s.at w j.views s.later j.viewed)

-- ---- what is left of the client

rose_later : (a b c : ℕ) → a ≤ b → Rose b c → Rose a c
rose_later a b c x y = grind arith

module _ {S L P : Type 0} (begins : L → List (Key × Content) → Type 0) (justified : L → Story → Event Content → Type 0) (seen : S → Story) (law : S → L) (place : S → P) (failures : S → ℕ) where
  pub leaves_itself : (a : S) → LeavesClient begins justified seen law place failures a a
  leaves_itself a = record { later = extends_itself (seen a); lawful = λ l. l; same_law = refl; same_place = refl; rising = omega arith }

  pub leaves_then : (a b c : S) → LeavesClient begins justified seen law place failures a b → LeavesClient begins justified seen law place failures b c → LeavesClient begins justified seen law place failures a c
  leaves_then a b c x y = record {
    later = extends_later (seen c) (seen b) (seen a) y.later x.later;
    lawful = λ l. subst (λ d. StaysLawful begins justified d (seen b) (seen c)) x.same_law y.lawful (x.lawful l);
    same_law = y.same_law ∙ x.same_law;
    same_place = y.same_place ∙ x.same_place;
    rising = omega (arith, x.rising, y.rising);
  }

  pub fault_came : (rose : S → S → Type 0) (a b c : S) → LeavesClient begins justified seen law place failures a b → rose b c → Rose (failures b) (failures c) → FaultCame begins justified seen law place failures rose a c
  fault_came rose a b c x y z = record { at = b; leaves = x; came = y; risen = rose_later (failures a) (failures b) (failures c) x.rising z }

-- ---- the steps that a loop makes

conflict_not_memory : {T : Type 0} (r : Result T ReconcileFault) (a b : ℕ) → r ≡ Err (faults.Conflict a b) → r ≡ Err faults.Memory → ⊥
conflict_not_memory r a b e m = absurd cc

large_not_memory : {T : Type 0} (r : Result T ReconcileFault) → r ≡ Err faults.TooLarge → r ≡ Err faults.Memory → ⊥
large_not_memory r e m = absurd cc

called_not_memory : (r : Result StepDone ReconcileFault) → r ≡ Ok Called → r ≡ Err faults.Memory → ⊥
called_not_memory r e m = absurd cc

pub not_called_ended : {e : HowEnded} (r : Result StepDone ReconcileFault) → r ≡ Ok (Ended e) → r ≡ Ok Called → ⊥
not_called_ended r q c = absurd cc

pub err_not_called : (r : Result StepDone ReconcileFault) (e : ReconcileFault) → r ≡ Err e → r ≡ Ok Called → ⊥
err_not_called r e q c = absurd cc

module _ {S L P : Type 0} (begins : L → List (Key × Content) → Type 0) (justified : L → Story → Event Content → Type 0) (seen : S → Story) (law : S → L) (place : S → P) (failures lag others : S → ℕ) (D : Document) (w : Text) (first : S) where
  abbrev Goes : OneJob → S → Type 0
  Goes j now = Going begins justified seen law place failures lag others D w first j now

  pub going_first : ViewsStay → (x : Text) (j : OneJob) → x ≡ w → j ≡ record { workflow = x; views = nothing } → Goes j first
  going_first stay x j e is =
      subst (λ y. Goes y first) (sym (is ∙ ap (λ (y : Text). record { workflow = y; views = nothing }) e)) first_goes
    where
      first_goes : Goes record { workflow = w; views = nothing } first
      first_goes = record {
        same = refl;
        viewed = stay.begin (seen first) w;
        leaves = leaves_itself begins justified seen law place failures first;
        steps = begun;
      }

  module _ (j : OneJob) (mid : S) (go : Goes j mid) (r : Result StepDone ReconcileFault) (k : OneJob) (now : S) (left : LeavesClient begins justified seen law place failures mid now) (step_made : r ≢ Err faults.Memory → JobStepMade D j.workflow (seen mid) j.views (lag mid) (others mid) r (seen now) k.views (lag now) (others now)) where
    all_left : LeavesClient begins justified seen law place failures first now
    all_left = leaves_then begins justified seen law place failures first mid now go.leaves left

    pub going_on : k.workflow ≡ j.workflow → (r ≡ Ok Called → ViewsOf (seen now) j.workflow k.views) → r ≡ Ok Called → Goes k now
    going_on same viewed told =
        let one : JobStepMade D w (seen mid) j.views (lag mid) (others mid) (Ok Called) (seen now) k.views (lag now) (others now) =
        subst (λ y. JobStepMade D y (seen mid) j.views (lag mid) (others mid) (Ok Called) (seen now) k.views (lag now) (others now)) go.same
        (subst (λ y. JobStepMade D j.workflow (seen mid) j.views (lag mid) (others mid) y (seen now) k.views (lag now) (others now)) told (step_made (called_not_memory r told))) in
        record {
          same = same ∙ go.same;
          viewed = subst (λ y. ViewsOf (seen now) y k.views) (sym same) (viewed told);
          leaves = all_left;
          steps = with_step go.steps one;
        }

    module _ (answer : Result Unit ReconcileFault) (is : answer ≡ returned r) (ends : r ≡ Ok Called → ⊥) where
      pub whole_made : answer ≢ Err faults.Memory → JobMade D w (seen first) (lag first) (others first) answer (seen now) (lag now) (others now)
      whole_made m = record {
        seen = seen mid;
        views = j.views;
        left = lag mid;
        came = others mid;
        steps = go.steps;
        viewed = subst (λ y. ViewsOf (seen mid) y j.views) go.same go.viewed;
        last = r;
        ends = ends;
        views_now = k.views;
        made = subst (λ y. JobStepMade D y (seen mid) j.views (lag mid) (others mid) r (seen now) k.views (lag now) (others now)) go.same (step_made (λ q. m (is ∙ ap returned q)));
        is_returned = is;
      }

      pub record Told_whole (rose : S → S → Type 0) : Type 0 where
        pub leaves : LeavesClient begins justified seen law place failures first now
        pub made : answer ≢ Err faults.Memory → JobMade D w (seen first) (lag first) (others first) answer (seen now) (lag now) (others now)
        pub alone : answer ≢ Err faults.Memory → lag first ≡ 0 → others now ≡ others first → Ran D (seen first) (for_flow w) (told_of answer) (seen now)
        pub conflict : (expected there : ℕ) → answer ≡ Err (faults.Conflict expected there) → MovedOn D w expected there (seen now)
        pub large : answer ≡ Err faults.TooLarge → WouldBeTooLarge D w (seen now)
        pub fault : answer ≡ Err faults.Fault → FaultCame begins justified seen law place failures rose first now

      pub told_whole : (rose : S → S → Type 0) → ViewsStay → (r ≡ Err faults.Fault → rose mid now × Rose (failures mid) (failures now)) → Told_whole rose
      told_whole rose stay risen = record {
        leaves = all_left;
        made = whole_made;
        alone = λ m. ran_alone D w (seen first) (lag first) (others first) answer (seen now) (lag now) (others now) (whole_made m);
        conflict = λ a b q. moved_on D w (seen first) (lag first) (others first) answer (seen now) (lag now) (others now) (whole_made (conflict_not_memory answer a b q)) stay a b q;
        large = λ q. too_large D w (seen first) (lag first) (others first) answer (seen now) (lag now) (others now) (whole_made (large_not_memory answer q)) stay q;
        fault = λ q.
            let f = risen (returned_err r faults.Fault (sym q ∙ is)) in
            fault_came begins justified seen law place failures rose first mid now go.leaves f.0 f.1;
      }
