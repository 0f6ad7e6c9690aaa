-- Why a step of a runner is the step of its hand, and what the hand has seen.
use Rattle.std.proofs.Common.{◌≡◌, ◌≢◌, ℕ, ◌<◌, ◌≤◌, Bool, true, false, true≢false, List, [], ◌∷◌, map, drop, length, Bor, arith, refl, sym, ◌∙◌, ap, subst, Option, Some, None, Result, Ok, Err}
use Rattle.std.specs.Prelude.{slice_index_or}
use Rattle.std.specs.Slice.{IsItemAt}
use Rattle.tree_types.specs.declared.entry.Key.TheVariants as of_key
use Rattle.history.specs.History.{IsVersionOf}
use Rattle.history.proofs.Extends.{extends_itself}
use Rattle.object_store.specs.declared.snapshot.Snapshot.{Snapshot}
use Rattle.object_store.specs.Answers.{IsOf}
use Rattle.law.specs.Documents.{Document}
use Rattle.law.specs.Contents.{PodObject, Content, OfPod, apply, Story, pod_in}
use Rattle.lawful.proofs.Facts.{some_same, none_some}
use Rattle.next_step.specs.Views.{Seen, nothing}
use Rattle.next_step.specs.Replies.{Reply, seen}
use Rattle.next_step.specs.Hands.{fresh_hand}
use Rattle.next_step.specs.Plays.{has_none}
use Rattle.next_laws.specs.Playing.{HasSeen, HandHasSeen}
use Rattle.pod_runner.specs.declared.answers.RunDone.{RunDone}
use Rattle.pod_runner.specs.declared.answers.RunDone.TheVariants.{Idle, Called, Finished, Absent, NoOutcome, NotDue, AlreadyFinished}
use Rattle.pod_runner.specs.declared.answers.RunFault.{RunFault}
use Rattle.pod_runner.specs.declared.answers.RunFault.TheVariants as faults
use Rattle.pod_runner.specs.declared.runner.PodJob.{PodJob}
use Rattle.pod_runner.specs.Running.{Running, running, given, hand_of}
use Rattle.pod_runner.specs.Inside.{pod_by, pod_seen, pod_found, OfJob, IsOfFirst, is_called}
use Rattle.pod_runner.specs.Steps.{StepMade, in_job, after_step, JobStepMade, HasPod, IsOfJob, PodRead, ReadMade}
use Rattle.pod_runner.proofs.Ending.{shown}

-- ---- the oldest job

first_in : (jobs : List PodJob) (job : PodJob) → 0 < length jobs → ((d : PodJob) → job ≡ slice_index_or jobs 0 d) → jobs ≡ job ∷ drop 1 jobs
first_in [] job some h = absurd (omega (arith, some))
first_in (x ∷ jobs) job some h = ap (λ (y : PodJob). y ∷ jobs) (sym (h x))

-- it stands first
pub first_is : (jobs : List PodJob) (r : Option (Bor PodJob)) (x : Bor PodJob) → IsItemAt jobs 0 r → r ≡ Some x → jobs ≡ x.now ∷ drop 1 jobs
first_is jobs r x item e =
    let h = subst (λ (o : Option (Bor PodJob)). IsItemAt jobs 0 o) e item in
    first_in jobs x.now h.3.0 h.3.1

no_jobs : (jobs : List PodJob) → length jobs ≤ 0 → jobs ≡ []
no_jobs [] h = refl
no_jobs (x ∷ jobs) h = absurd (omega (arith, h))

-- without one nothing is done
pub idle : (D : Document) (i : ℕ) (h : Story) (lag others : ℕ) (jobs : List PodJob) (pod : Option (Seen PodObject)) (r : Option (Bor PodJob)) → IsItemAt jobs 0 r → r ≡ None → StepMade D i h (hand_of lag (running jobs pod)) others (Ok Idle) h (hand_of lag (running jobs pod)) others
idle D i h lag others jobs pod r item e =
    let none = subst (λ (o : Option (Bor PodJob)). IsItemAt jobs 0 o) e item in
    record {
      at = h;
      later = extends_itself h;
      others = refl;
      notes = [];
      stepped = has_none (ap (map given) (no_jobs jobs none.3));
      answer = refl;
    }

-- a hand that begins its next job has seen nothing in it
pub next_has_seen : (before_it : Story) (jobs : List PodJob) (lag : ℕ) → HandHasSeen before_it (hand_of lag (running jobs None))
next_has_seen before_it [] lag = (refl, refl)
next_has_seen before_it (job ∷ jobs) lag = (refl, λ x e. none_some x e)

module _ (jobs : List PodJob) (job : PodJob) (first : jobs ≡ job ∷ drop 1 jobs) where
  pub of_first : (pod : Option (Snapshot Content)) → IsOfFirst jobs pod → OfJob job pod
  of_first pod is = subst (λ js. IsOfFirst js pod) first is

  pub is_of_first : (pod : Option (Snapshot Content)) → OfJob job pod → IsOfFirst jobs pod
  is_of_first pod is = subst (λ js. IsOfFirst js pod) (sym first) is

  pub has_pod : (before_it : Story) (lag : ℕ) (pod : Option (Seen PodObject)) → HandHasSeen before_it (hand_of lag (running jobs pod)) → HasPod before_it job pod
  has_pod before_it lag pod h = (subst (λ js. HandHasSeen before_it (hand_of lag (running js pod))) first h).1

  pub has_seen : (before_it : Story) (lag : ℕ) (pod : Option (Seen PodObject)) → HasPod before_it job pod → HandHasSeen before_it (hand_of lag (running jobs pod))
  has_seen before_it lag pod h = subst (λ js. HandHasSeen before_it (hand_of lag (running js pod))) (sym first) (refl, h)

  module _ (D : Document) (before_it : Story) (pod : Option (Seen PodObject)) (lag before : ℕ) (r : Result RunDone RunFault) (now : Story) (pod_now : Option (Seen PodObject)) (lag_now after : ℕ) (made : JobStepMade D job before_it pod lag before r now pod_now lag_now after) where
    pub goes_on : r ≡ Ok Called → (i : ℕ) → StepMade D i before_it (hand_of lag (running jobs pod)) before r now (hand_of lag_now (running jobs pod_now)) after
    goes_on is i =
        let h = subst (λ (q : Result RunDone RunFault). StepMade D i before_it (in_job job (map given (drop 1 jobs)) pod lag) before r now (after_step q job (map given (drop 1 jobs)) pod_now lag_now) after) is (made i (map given (drop 1 jobs))) in
        subst (λ js. StepMade D i before_it (hand_of lag (running js pod)) before r now (hand_of lag_now (running js pod_now)) after) (sym first) h

    ends_so : (q : Result RunDone RunFault) → q ≢ Ok Called → after_step q job (map given (drop 1 jobs)) pod_now lag_now ≡ fresh_hand (map given (drop 1 jobs)) lag_now
    ends_so (Ok Called) free = absurd (free refl)
    ends_so (Ok Idle) free = refl
    ends_so (Ok Finished) free = refl
    ends_so (Ok Absent) free = refl
    ends_so (Ok NoOutcome) free = refl
    ends_so (Ok (NotDue due)) free = refl
    ends_so (Ok AlreadyFinished) free = refl
    ends_so (Err e) free = refl

    pub begins_next : r ≢ Ok Called → (i : ℕ) → StepMade D i before_it (hand_of lag (running jobs pod)) before r now (hand_of lag_now (running (drop 1 jobs) None)) after
    begins_next free i =
        let h = subst (λ b. StepMade D i before_it (in_job job (map given (drop 1 jobs)) pod lag) before r now b after) (ends_so r free) (made i (map given (drop 1 jobs))) in
        subst (λ js. StepMade D i before_it (hand_of lag (running js pod)) before r now (hand_of lag_now (running (drop 1 jobs) None)) after) (sym first) h

called_not_memory : (r : Result RunDone RunFault) → r ≡ Ok Called → r ≢ Err faults.Memory
called_not_memory r is e = cc

-- ---- a step of the runner, by what it was and is seen as

module _ (jobs : List PodJob) (job : PodJob) (first : jobs ≡ job ∷ drop 1 jobs) (D : Document) (known : Story) (pod : Option (Seen PodObject)) (view : Running) (is : running jobs pod ≡ view) (lag before : ℕ) (r : Result RunDone RunFault) (now : Story) (pod_now : Option (Seen PodObject)) (lag_now after : ℕ) (made : r ≢ Err faults.Memory → JobStepMade D job known pod lag before r now pod_now lag_now after) where
  pub called_made : r ≡ Ok Called → (i : ℕ) → StepMade D i known (hand_of lag view) before r now (hand_of lag_now (running jobs pod_now)) after
  called_made called i =
      subst (λ (v : Running). StepMade D i known (hand_of lag v) before r now (hand_of lag_now (running jobs pod_now)) after) is
      (goes_on jobs job first D known pod lag before r now pod_now lag_now after (made (called_not_memory r called)) called i)

  pub next_made : r ≢ Ok Called → r ≢ Err faults.Memory → (new : Running) → new ≡ running (drop 1 jobs) None → (i : ℕ) → StepMade D i known (hand_of lag view) before r now (hand_of lag_now new) after
  next_made other free new begun i =
      subst (λ (v : Running). StepMade D i known (hand_of lag view) before r now (hand_of lag_now v) after) (sym begun)
      (subst (λ (v : Running). StepMade D i known (hand_of lag v) before r now (hand_of lag_now (running (drop 1 jobs) None)) after) is
      (begins_next jobs job first D known pod lag before r now pod_now lag_now after (made free) other i))

-- and what its hand has seen then
pub next_seen : (now : Story) (lag : ℕ) (jobs : List PodJob) (new : Running) → new ≡ running (drop 1 jobs) None → HandHasSeen now (hand_of lag new)
next_seen now lag jobs new begun = subst (λ (v : Running). HandHasSeen now (hand_of lag v)) (sym begun) (next_has_seen now (drop 1 jobs) lag)

pub viewed_has_pod : (jobs : List PodJob) (job : PodJob) → jobs ≡ job ∷ drop 1 jobs → (known : Story) (lag : ℕ) (pod : Option (Seen PodObject)) (view : Running) → running jobs pod ≡ view → HandHasSeen known (hand_of lag view) → HasPod known job pod
viewed_has_pod jobs job first known lag pod view is h = has_pod jobs job first known lag pod (subst (λ (v : Running). HandHasSeen known (hand_of lag v)) (sym is) h)

pub viewed_idle : (D : Document) (i : ℕ) (h : Story) (lag others : ℕ) (jobs : List PodJob) (pod : Option (Seen PodObject)) (view : Running) → running jobs pod ≡ view → (r : Option (Bor PodJob)) → IsItemAt jobs 0 r → r ≡ None → StepMade D i h (hand_of lag view) others (Ok Idle) h (hand_of lag view) others
viewed_idle D i h lag others jobs pod view is r item e = subst (λ (v : Running). StepMade D i h (hand_of lag v) others (Ok Idle) h (hand_of lag v) others) is (idle D i h lag others jobs pod r item e)

-- a job that does not go on is over
pub not_called : (r : Result RunDone RunFault) → is_called r ≡ false → r ≢ Ok Called
not_called r over e = true≢false (sym (ap is_called e) ∙ over)

pub is_ok_called : (r : Result RunDone RunFault) → is_called r ≡ true → r ≡ Ok Called
is_ok_called (Ok Called) e = refl
is_ok_called (Ok Idle) e = absurd (true≢false (sym e))
is_ok_called (Ok Finished) e = absurd (true≢false (sym e))
is_ok_called (Ok Absent) e = absurd (true≢false (sym e))
is_ok_called (Ok NoOutcome) e = absurd (true≢false (sym e))
is_ok_called (Ok (NotDue t)) e = absurd (true≢false (sym e))
is_ok_called (Ok AlreadyFinished) e = absurd (true≢false (sym e))
is_ok_called (Err f) e = absurd (true≢false (sym e))
