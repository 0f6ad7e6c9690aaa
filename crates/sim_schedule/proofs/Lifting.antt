-- A step of a worker that has one job is a step of a hand with other jobs behind that one.
use Rattle.std.proofs.Common.{◌≡◌, ℕ, ◌+◌, ◌<◌, ◌≤◌, List, [], ◌∷◌, ◌++◌, map, Bool, true, false, refl, sym, ◌∙◌, ap, subst, Option, Some, None, Result, Ok, Err, arith}
use Rattle.history.specs.Versions.{lag_after}
use Rattle.law.specs.Documents.{Text, Document}
use Rattle.law.specs.Contents.{PodObject, Story}
use Rattle.next_step.specs.Views.{Seen, Views}
use Rattle.next_step.specs.Next.{get, act}
use Rattle.next_step.specs.Changes.{change_of}
use Rattle.next_step.specs.Replies.{Reply, found, accepted, no_object, exists, conflict, fault, Job, goes_on, ended, after}
use Rattle.next_step.specs.Hands.{Given, for_flow, Hand, fresh_hand, with_job, CallNote, answer_of}
use Rattle.next_step.specs.Plays.{Stepped, has_none, gets, changes, is_full, is_done, gets_pod, finishes, ends, get_note, change_note}
use Rattle.reconcile_core.specs.declared.answers.Ended.TheVariants.{Done}
use Rattle.reconcile_core.specs.declared.answers.StepDone.{StepDone}
use Rattle.reconcile_core.specs.declared.answers.StepDone.TheVariants.{Called, Ended}
use Rattle.reconcile_core.specs.declared.answers.ReconcileFault.{ReconcileFault}
use Rattle.reconcile_core.specs.declared.answers.ReconcileFault.TheVariants as faults
use Rattle.reconcile_core.specs.Answers.{of_refusal, of_call}
use Rattle.reconcile_core.specs.Steps.{Tells, StepMade}
use Rattle.reconcile_core.specs.Workers.{Working, hand_of}
use Rattle.reconcile_core.proofs.Alone.{same_at}
use Rattle.sim_schedule.specs.Simulating.{failed, failures}
use Rattle.sim_schedule.specs.Inside.Hands.{HasOne, hand_with, is_called}
use Rattle.sim_schedule.specs.Inside.Steps.{HandMoved, HandMoves}

pub first_same : {A : Type 0} (x y : A) (xs ys : List A) → x ∷ xs ≡ y ∷ ys → x ≡ y
first_same x y xs ys e = cc

pub rest_same : {A : Type 0} (x y : A) (xs ys : List A) → x ∷ xs ≡ y ∷ ys → xs ≡ ys
rest_same x y xs ys e = cc

pub not_none : {A : Type 0} (x : A) (xs : List A) → x ∷ xs ≡ [] → ⊥
not_none x xs e = absurd cc

-- the hand in its job with others behind it, or before those
abbrev pub left : List Given → Bool → Hand → Hand
left rest true b = hand_with b rest
left rest false b = fresh_hand rest b.lag

-- what a call answered, by whether it failed
pub few_by : (r : Reply) (before after : ℕ) → before ≤ after → (r ≡ fault → before < after) → (failed (answer_of r) + 0) + before ≤ after
few_by (found x) before after up rose = omega (arith, up)
few_by (accepted x) before after up rose = omega (arith, up)
few_by no_object before after up rose = omega (arith, up)
few_by exists before after up rose = omega (arith, up)
few_by (conflict expected there) before after up rose = omega (arith, up)
few_by fault before after up rose = let more : before < after = rose refl in omega (arith, more)

-- ---- a worker

refused_so : (r : Reply) → is_called (of_refusal r) ≡ false
refused_so (found x) = refl
refused_so (accepted x) = refl
refused_so no_object = refl
refused_so exists = refl
refused_so (conflict expected there) = refl
refused_so fault = refl

module _ (x : Given) (rest : List Given) where
  job_left : (j : Job) (reply : Reply) (lag : ℕ) → with_job j (x ∷ rest) rest lag ≡ left rest (is_called (of_call j reply)) (with_job j (x ∷ []) [] lag)
  job_left (goes_on u) reply lag = refl
  job_left (ended e) reply lag = ap (λ b. left rest b (fresh_hand [] lag)) (sym (refused_so reply))

  job_kept : (j : Job) (reply : Reply) (others : List Given) (lag : ℕ) → is_called (of_call j reply) ≡ true → (with_job j (x ∷ []) others lag).jobs ≡ x ∷ []
  job_kept (goes_on u) reply others lag on = refl
  job_kept (ended e) reply others lag on = let off = refused_so reply in absurd cc

  -- what a call leaves
  call_left : (j : Job) (reply : Reply) (others : List Given) (lag : ℕ) (r : Result StepDone ReconcileFault) → others ≡ [] → r ≡ of_call j reply → with_job j (x ∷ rest) rest lag ≡ left rest (is_called r) (with_job j (x ∷ []) others lag)
  call_left j reply others lag r none told =
      job_left j reply lag ∙ ap (λ os. left rest (is_called (of_call j reply)) (with_job j (x ∷ []) os lag)) (sym none)
      ∙ ap (λ k. left rest (is_called k) (with_job j (x ∷ []) others lag)) (sym told)

  module _ (D : Document) (h : Story) (i : ℕ) (v : Views) (p : Option (Seen PodObject)) (l : ℕ) where
    abbrev one : Hand
    one = record { jobs = x ∷ []; views = v; pod = p; lag = l }

    abbrev all : Hand
    all = record { jobs = x ∷ rest; views = v; pod = p; lag = l }

    lifted : (notes : List CallNote) (g : Story) (b : Hand) (s : Stepped D h i one notes g b) (r : Result StepDone ReconcileFault) → Tells s r → Stepped D h i all notes g (left rest (is_called r) b)
    lifted notes g b (has_none e) r told = absurd (not_none x [] e)
    lifted notes g b (gets w others k reply e next got) r told =
        let is = first_same x (for_flow w) [] others e in
        let none = sym (rest_same x (for_flow w) [] others e) in
        subst (Stepped D h i all (get_note i k reply) h)
        (call_left (after v (get k) reply) reply others (lag_after k l) r none told)
        (gets w rest k reply (ap (λ y. y ∷ rest) is) next got)
    lifted notes g b (changes w others m s facts reply k e next viewed adds did) r told =
        let is = first_same x (for_flow w) [] others e in
        let none = sym (rest_same x (for_flow w) [] others e) in
        subst (Stepped D h i all (change_note i (change_of w v s facts m) reply) k)
        (call_left (after v (act m) reply) reply others l r none told)
        (changes w rest m s facts reply k (ap (λ y. y ∷ rest) is) next viewed adds did)
    lifted notes g b (is_full w others f s e next viewed large) r told =
        subst (λ k. Stepped D h i all [] h (left rest (is_called k) b)) (sym told)
        (is_full w rest f s (ap (λ y. y ∷ rest) (first_same x (for_flow w) [] others e)) next viewed large)
    lifted notes g b (is_done w others e next) r told =
        subst (λ k. Stepped D h i all [] h (left rest (is_called k) b)) (sym told)
        (is_done w rest (ap (λ y. y ∷ rest) (first_same x (for_flow w) [] others e)) next)
    lifted notes g b (gets_pod w name others reply e n got) r told = absurd told
    lifted notes g b (finishes w name others y o reply k e q n did) r told = absurd told
    lifted notes g b (ends w name others y e q n) r told = absurd told

    kept : (notes : List CallNote) (g : Story) (b : Hand) (s : Stepped D h i one notes g b) (r : Result StepDone ReconcileFault) → Tells s r → is_called r ≡ true → b.jobs ≡ x ∷ []
    kept notes g b (has_none e) r told on = absurd (not_none x [] e)
    kept notes g b (gets w others k reply e next got) r told on =
        job_kept (after v (get k) reply) reply others (lag_after k l) (sym (ap is_called told) ∙ on)
    kept notes g b (changes w others m s facts reply k e next viewed adds did) r told on =
        job_kept (after v (act m) reply) reply others l (sym (ap is_called told) ∙ on)
    kept notes g b (is_full w others f s e next viewed large) r told on = let t = ap is_called told in absurd cc
    kept notes g b (is_done w others e next) r told on = let t = ap is_called told in absurd cc
    kept notes g b (gets_pod w name others reply e n got) r told on = absurd told
    kept notes g b (finishes w name others y o reply k e q n did) r told on = absurd told
    kept notes g b (ends w name others y e q n) r told on = absurd told

    module _ (before after_faults : ℕ) (up : before ≤ after_faults) where
      few : (notes : List CallNote) (g : Story) (b : Hand) (s : Stepped D h i one notes g b) (r : Result StepDone ReconcileFault) → Tells s r → (r ≡ Err faults.Fault → before < after_faults) → failures notes + before ≤ after_faults
      few notes g b (has_none e) r told rose = omega (arith, up)
      few notes g b (gets w others k reply e next got) r told rose =
          few_by reply before after_faults up (λ is. rose (told ∙ ap (λ y. of_call (after v (get k) y) y) is))
      few notes g b (changes w others m s facts reply k e next viewed adds did) r told rose =
          few_by reply before after_faults up (λ is. rose (told ∙ ap (λ y. of_call (after v (act m) y) y) is))
      few notes g b (is_full w others f s e next viewed large) r told rose = omega (arith, up)
      few notes g b (is_done w others e next) r told rose = omega (arith, up)
      few notes g b (gets_pod w name others reply e n got) r told rose = absurd told
      few notes g b (finishes w name others y o reply k e q n did) r told rose = absurd told
      few notes g b (ends w name others y e q n) r told rose = absurd told

-- ---- through a client that nobody disturbs

abbrev worker_hand : List Text → Views → ℕ → Hand
worker_hand jobs v lag = record { jobs = map for_flow jobs; views = v; pod = None; lag = lag }

one_of : (js : List Text) (w : Text) → map for_flow js ≡ for_flow w ∷ [] → (y : Text) × (js ≡ y ∷ [])
one_of [] w e = absurd (not_none (for_flow w) [] (sym e))
one_of (y ∷ []) w e = (y, refl)
one_of (y ∷ z ∷ js) w e = absurd (not_none (for_flow z) (map for_flow js) (rest_same (for_flow y) (for_flow w) (for_flow z ∷ map for_flow js) [] e))

module _ (D : Document) (h : Story) (v : Views) (lag : ℕ) (r : Result StepDone ReconcileFault) (g : Story) (u : Working) (lag_now : ℕ) where
  abbrev Made : ℕ → List Text → Type 0
  Made i js = StepMade D i h (worker_hand js v lag) 0 r g (hand_of lag_now u) 0

  one_moved : (before now : ℕ) → before ≤ now → (r ≡ Err faults.Fault → before < now) → (rest : List Given) (i : ℕ) (w : Text) → Made i (w ∷ []) → HandMoved D h (hand_with (worker_hand (w ∷ []) v lag) rest) before g (left rest (is_called r) (hand_of lag_now u)) now i
  one_moved before now up rose rest i w made =
      let b = hand_of lag_now u in
      let all : Hand = record { jobs = for_flow w ∷ rest; views = v; pod = None; lag = lag } in
      record {
        notes = made.notes;
        stepped = subst (λ k. Stepped D k i all made.notes g (left rest (is_called r) b)) (same_at made.at h 0 made.later made.others)
            (lifted (for_flow w) rest D made.at i v None lag made.notes g b made.stepped r made.answer);
        few = few (for_flow w) rest D made.at i v None lag before now up made.notes g b made.stepped r made.answer rose;
      }

  one_kept : (i : ℕ) (w : Text) → Made i (w ∷ []) → is_called r ≡ true → HasOne u
  one_kept i w made on =
      let o = one_of u.jobs w (kept (for_flow w) [] D made.at i v None lag made.notes g (hand_of lag_now u) made.stepped r made.answer on) in
      record { job = o.0; only = o.1 }

  -- the step of the one job of a worker
  pub worker_moved : (jobs : List Text) (job : Text) → jobs ≡ job ∷ [] → ((i : ℕ) → Made i jobs) → (before now : ℕ) → before ≤ now → (r ≡ Err faults.Fault → before < now) → (rest : List Given) → HandMoves D h (hand_with (worker_hand jobs v lag) rest) before g (left rest (is_called r) (hand_of lag_now u)) now
  worker_moved jobs job only made before now up rose rest i =
      subst (λ js. HandMoved D h (hand_with (worker_hand js v lag) rest) before g (left rest (is_called r) (hand_of lag_now u)) now i) (sym only)
      (one_moved before now up rose rest i job (subst (Made i) only (made i)))

  pub worker_kept : (jobs : List Text) (job : Text) → jobs ≡ job ∷ [] → ((i : ℕ) → Made i jobs) → is_called r ≡ true → HasOne u
  worker_kept jobs job only made on = one_kept 0 job (subst (Made 0) only (made 0)) on
