-- A step of a runner that has one job is a step of a hand with other jobs behind that one.
use Rattle.std.proofs.Common.{◌≡◌, ℕ, ◌+◌, ◌<◌, ◌≤◌, List, [], ◌∷◌, ◌++◌, map, Bool, true, false, refl, sym, ◌∙◌, ap, subst, Option, Some, None, Result, Ok, Err, arith}
use Rattle.law.specs.Documents.{Document}
use Rattle.law.specs.Contents.{PodObject, Story, pod_in}
use Rattle.next_step.specs.Views.{Seen, Views, nothing}
use Rattle.next_step.specs.Replies.{Reply, found, accepted, no_object, exists, conflict, fault}
use Rattle.next_step.specs.Runner.{RunNext, read, finish, already_finished, no_outcome, not_due, runner_next, finish_change}
use Rattle.next_step.specs.Hands.{Given, for_pod, Hand, fresh_hand, with_pod, with_reply, CallNote}
use Rattle.next_step.specs.Plays.{Stepped, has_none, gets, changes, is_full, is_done, gets_pod, finishes, ends, get_note, change_note}
use Rattle.pod_runner.specs.declared.answers.RunDone.{RunDone}
use Rattle.pod_runner.specs.declared.answers.RunFault.{RunFault}
use Rattle.pod_runner.specs.declared.answers.RunFault.TheVariants as faults
use Rattle.pod_runner.specs.declared.runner.PodJob.{PodJob}
use Rattle.pod_runner.specs.Running.{Running, given, hand_of}
use Rattle.pod_runner.specs.Steps.{of_refusal, of_pod, of_read, of_write, of_end, Tells, StepMade}
use Rattle.reconcile_core.proofs.Alone.{same_at}
use Rattle.sim_schedule.specs.Simulating.{failures}
use Rattle.sim_schedule.specs.Inside.Hands.{HasOnePod, hand_with, is_running}
use Rattle.sim_schedule.specs.Inside.Steps.{HandMoved, HandMoves}
use Rattle.sim_schedule.proofs.Lifting.{first_same, rest_same, not_none, left, few_by}

refused_so : (r : Reply) → is_running (of_refusal r) ≡ false
refused_so (found x) = refl
refused_so (accepted x) = refl
refused_so no_object = refl
refused_so exists = refl
refused_so (conflict expected there) = refl
refused_so fault = refl

written_so : (r : Reply) → is_running (of_write r) ≡ false
written_so (found x) = refl
written_so (accepted x) = refl
written_so no_object = refl
written_so exists = refl
written_so (conflict expected there) = refl
written_so fault = refl

ended_so : (n : RunNext) → is_running (of_end n) ≡ false
ended_so read = refl
ended_so (finish o) = refl
ended_so already_finished = refl
ended_so no_outcome = refl
ended_so (not_due tick) = refl

module _ (x : Given) (rest : List Given) where
  pod_left : (n tick : ℕ) (o : Option PodObject) → with_pod n tick o (x ∷ rest) rest 0 ≡ left rest (is_running (of_pod o)) (with_pod n tick o (x ∷ []) [] 0)
  pod_left n tick (Some pod) = refl
  pod_left n tick None = refl

  reply_left : (r : Reply) → with_reply r (x ∷ rest) rest 0 ≡ left rest (is_running (of_read r)) (with_reply r (x ∷ []) [] 0)
  reply_left (found y) = pod_left y.number y.tick (pod_in (Some y.content))
  reply_left (accepted y) = refl
  reply_left no_object = refl
  reply_left exists = refl
  reply_left (conflict expected there) = refl
  reply_left fault = refl

  pod_kept : (n tick : ℕ) (o : Option PodObject) (others : List Given) → is_running (of_pod o) ≡ true → (with_pod n tick o (x ∷ []) others 0).jobs ≡ x ∷ []
  pod_kept n tick (Some pod) others on = refl
  pod_kept n tick None others on = absurd cc

  reply_kept : (r : Reply) (others : List Given) → is_running (of_read r) ≡ true → (with_reply r (x ∷ []) others 0).jobs ≡ x ∷ []
  reply_kept (found y) others on = pod_kept y.number y.tick (pod_in (Some y.content)) others on
  reply_kept (accepted y) others on = absurd cc
  reply_kept no_object others on = absurd cc
  reply_kept exists others on = absurd cc
  reply_kept (conflict expected there) others on = absurd cc
  reply_kept fault others on = absurd cc

  module _ (D : Document) (h : Story) (i : ℕ) (v : Views) (p : Option (Seen PodObject)) (l : ℕ) where
    abbrev one : Hand
    one = record { jobs = x ∷ []; views = v; pod = p; lag = l }

    abbrev all : Hand
    all = record { jobs = x ∷ rest; views = v; pod = p; lag = l }

    lifted : (notes : List CallNote) (g : Story) (b : Hand) (s : Stepped D h i one notes g b) (r : Result RunDone RunFault) → Tells s r → Stepped D h i all notes g (left rest (is_running r) b)
    lifted notes g b (has_none e) r told = absurd (not_none x [] e)
    lifted notes g b (gets_pod w name others reply e none_read got) r told =
        let is = first_same x (for_pod w name) [] others e in
        let none = sym (rest_same x (for_pod w name) [] others e) in
        subst (Stepped D h i all notes h)
        (reply_left reply ∙ ap (λ os. left rest (is_running (of_read reply)) (with_reply reply (x ∷ []) os 0)) (sym none)
        ∙ ap (λ k. left rest (is_running k) (with_reply reply (x ∷ []) others 0)) (sym told))
        (gets_pod w name rest reply (ap (λ y. y ∷ rest) is) none_read got)
    lifted notes g b (finishes w name others y o reply k e q next did) r told =
        let is = first_same x (for_pod w name) [] others e in
        subst (λ c. Stepped D h i all notes k (left rest c b)) (sym (written_so reply) ∙ sym (ap is_running told))
        (finishes w name rest y o reply k (ap (λ z. z ∷ rest) is) q next did)
    lifted notes g b (ends w name others y e q next) r told =
        let is = first_same x (for_pod w name) [] others e in
        subst (λ c. Stepped D h i all [] h (left rest c b)) (sym (ended_so (runner_next D w name (Some y))) ∙ sym (ap is_running told))
        (ends w name rest y (ap (λ z. z ∷ rest) is) q next)
    lifted notes g b (gets w others k reply e next got) r told = absurd told
    lifted notes g b (changes w others m s facts reply k e next viewed adds did) r told = absurd told
    lifted notes g b (is_full w others f s e next viewed large) r told = absurd told
    lifted notes g b (is_done w others e next) r told = absurd told

    kept : (notes : List CallNote) (g : Story) (b : Hand) (s : Stepped D h i one notes g b) (r : Result RunDone RunFault) → Tells s r → is_running r ≡ true → b.jobs ≡ x ∷ []
    kept notes g b (has_none e) r told on = absurd (not_none x [] e)
    kept notes g b (gets_pod w name others reply e none_read got) r told on = reply_kept reply others (sym (ap is_running told) ∙ on)
    kept notes g b (finishes w name others y o reply k e q next did) r told on =
        let t = sym (ap is_running told) ∙ on in let off = written_so reply in absurd cc
    kept notes g b (ends w name others y e q next) r told on =
        let t = sym (ap is_running told) ∙ on in let off = ended_so (runner_next D w name (Some y)) in absurd cc
    kept notes g b (gets w others k reply e next got) r told on = absurd told
    kept notes g b (changes w others m s facts reply k e next viewed adds did) r told on = absurd told
    kept notes g b (is_full w others f s e next viewed large) r told on = absurd told
    kept notes g b (is_done w others e next) r told on = absurd told

    module _ (before now : ℕ) (up : before ≤ now) where
      few : (notes : List CallNote) (g : Story) (b : Hand) (s : Stepped D h i one notes g b) (r : Result RunDone RunFault) → Tells s r → (r ≡ Err faults.Fault → before < now) → failures notes + before ≤ now
      few notes g b (has_none e) r told rose = omega (arith, up)
      few notes g b (gets_pod w name others reply e none_read got) r told rose = few_by reply before now up (λ is. rose (told ∙ ap of_read is))
      few notes g b (finishes w name others y o reply k e q next did) r told rose = few_by reply before now up (λ is. rose (told ∙ ap of_write is))
      few notes g b (ends w name others y e q next) r told rose = omega (arith, up)
      few notes g b (gets w others k reply e next got) r told rose = absurd told
      few notes g b (changes w others m s facts reply k e next viewed adds did) r told rose = absurd told
      few notes g b (is_full w others f s e next viewed large) r told rose = absurd told
      few notes g b (is_done w others e next) r told rose = absurd told

-- ---- through a client that nobody disturbs

abbrev runner_hand : List PodJob → Option (Seen PodObject) → ℕ → Hand
runner_hand jobs pod lag = record { jobs = map given jobs; views = nothing; pod = pod; lag = lag }

one_of : (js : List PodJob) (job : PodJob) → map given js ≡ given job ∷ [] → (y : PodJob) × (js ≡ y ∷ [])
one_of [] job e = absurd (not_none (given job) [] (sym e))
one_of (y ∷ []) job e = (y, refl)
one_of (y ∷ z ∷ js) job e = absurd (not_none (given z) (map given js) (rest_same (given y) (given job) (given z ∷ map given js) [] e))

module _ (D : Document) (h : Story) (pod : Option (Seen PodObject)) (lag : ℕ) (r : Result RunDone RunFault) (g : Story) (u : Running) (lag_now : ℕ) where
  abbrev Made : ℕ → List PodJob → Type 0
  Made i js = StepMade D i h (runner_hand js pod lag) 0 r g (hand_of lag_now u) 0

  one_moved : (before now : ℕ) → before ≤ now → (r ≡ Err faults.Fault → before < now) → (rest : List Given) (i : ℕ) (job : PodJob) → Made i (job ∷ []) → HandMoved D h (hand_with (runner_hand (job ∷ []) pod lag) rest) before g (left rest (is_running r) (hand_of lag_now u)) now i
  one_moved before now up rose rest i job made =
      let b = hand_of lag_now u in
      let all : Hand = record { jobs = given job ∷ rest; views = nothing; pod = pod; lag = lag } in
      record {
        notes = made.notes;
        stepped = subst (λ k. Stepped D k i all made.notes g (left rest (is_running r) b)) (same_at made.at h 0 made.later made.others)
            (lifted (given job) rest D made.at i nothing pod lag made.notes g b made.stepped r made.answer);
        few = few (given job) rest D made.at i nothing pod lag before now up made.notes g b made.stepped r made.answer rose;
      }

  one_kept : (i : ℕ) (job : PodJob) → Made i (job ∷ []) → is_running r ≡ true → HasOnePod u
  one_kept i job made on =
      let o = one_of u.jobs job (kept (given job) [] D made.at i nothing pod lag made.notes g (hand_of lag_now u) made.stepped r made.answer on) in
      record { job = o.0; only = o.1 }

  -- the step of the one job of a runner
  pub runner_moved : (jobs : List PodJob) (job : PodJob) → jobs ≡ job ∷ [] → ((i : ℕ) → Made i jobs) → (before now : ℕ) → before ≤ now → (r ≡ Err faults.Fault → before < now) → (rest : List Given) → HandMoves D h (hand_with (runner_hand jobs pod lag) rest) before g (left rest (is_running r) (hand_of lag_now u)) now
  runner_moved jobs job only made before now up rose rest i =
      subst (λ js. HandMoved D h (hand_with (runner_hand js pod lag) rest) before g (left rest (is_running r) (hand_of lag_now u)) now i) (sym only)
      (one_moved before now up rose rest i job (subst (Made i) only (made i)))

  pub runner_kept : (jobs : List PodJob) (job : PodJob) → jobs ≡ job ∷ [] → ((i : ℕ) → Made i jobs) → is_running r ≡ true → HasOnePod u
  runner_kept jobs job only made on = one_kept 0 job (subst (Made 0) only (made 0)) on
