-- Why a step of a job is the step of a hand.
use Rattle.std.proofs.Common.{◌≡◌, ◌≢◌, ℕ, List, [], ◌∷◌, refl, sym, ◌∙◌, ap, ap₂, subst, Option, Some, None, Result, Ok, Err}
use Rattle.tree_types.specs.declared.entry.Key.TheVariants as of_key
use Rattle.history.proofs.Extends.{extends_itself}
use Rattle.object_store.specs.declared.snapshot.Snapshot.{Snapshot}
use Rattle.law.specs.Documents.{Document}
use Rattle.law.specs.Contents.{PodObject, Content, OfPod, Story, pod_in}
use Rattle.next_step.specs.Views.{Seen}
use Rattle.next_step.specs.Replies.{Reply, found, accepted, no_object, exists, conflict, fault, seen}
use Rattle.next_step.specs.Runner.{RunNext, read, finish, already_finished, no_outcome, not_due, runner_next, finish_change}
use Rattle.next_step.specs.Hands.{Given, Hand, fresh_hand, with_pod, with_reply}
use Rattle.next_step.specs.Plays.{EndsJob, get_note, change_note, gets_pod, finishes, ends}
use Rattle.reply_laws.specs.Replies.{seen_in}
use Rattle.pod_runner.specs.declared.answers.RunDone.{RunDone}
use Rattle.pod_runner.specs.declared.answers.RunDone.TheVariants.{Called}
use Rattle.pod_runner.specs.declared.answers.RunFault.{RunFault}
use Rattle.pod_runner.specs.declared.runner.PodJob.{PodJob}
use Rattle.pod_runner.specs.Running.{given}
use Rattle.pod_runner.specs.Inside.{pod_by, pod_seen, pod_found}
use Rattle.pod_runner.specs.Steps.{of_pod, of_read, of_write, of_end, StepMade, in_job, after_step, JobStepMade, of_found, PodRead, ReadMade, EndMade, wrote, rested}

-- ---- the hand after a read

-- nothing was read
rests : (reply : Reply) (all others : List Given) (lag : ℕ) → of_read reply ≢ Ok Called → with_reply reply all others lag ≡ fresh_hand others lag
rests (found x) all others lag free = by (pod_in (Some x.content)) free
  where
    by : (o : Option PodObject) → of_pod o ≢ Ok Called → with_pod x.number x.tick o all others lag ≡ fresh_hand others lag
    by None free = refl
    by (Some pod) free = absurd (free refl)
rests (accepted x) all others lag free = refl
rests no_object all others lag free = refl
rests exists all others lag free = refl
rests (conflict a b) all others lag free = refl
rests fault all others lag free = refl

-- the pod was read
goes_on : (job : PodJob) (others : List Given) (s : Snapshot Content) (pod : PodObject) → s.content ≡ OfPod pod → with_reply (found (seen_in s)) (given job ∷ others) others 0 ≡ in_job job others (pod_seen (Some s)) 0
goes_on job others s pod e =
    let is : pod_in (Some s.content) ≡ Some pod = ap (λ c. pod_in (Some c)) e in
    ap (λ o. with_pod s.version s.tick o (given job ∷ others) others 0) is
    ∙ ap (λ o. in_job job others (pod_by s o) 0) (sym is)

module _ (D : Document) (job : PodJob) (seen : Story) (lag before : ℕ) (now : Story) (lag_now after : ℕ) where
  -- a step that reads, at whatever hand it leaves
  reads_at : (f : Result (Option (Snapshot Content)) RunFault) → (m : ReadMade job seen lag before f now lag_now after) → (i : ℕ) (others : List Given) (b : Hand) → with_reply m.reply (given job ∷ others) others 0 ≡ b → StepMade D i seen (in_job job others None lag) before (of_found f) now b after
  reads_at f m i others b e = subst (λ h. StepMade D i seen (in_job job others None lag) before (of_found f) now h after) e record {
    at = now;
    later = m.later;
    others = m.others;
    notes = get_note i (of_key.Pod job.workflow job.node) m.reply;
    stepped = gets_pod job.workflow job.node others m.reply refl refl m.back;
    answer = m.told;
  }

  reads_pod : (s : Snapshot Content) → ReadMade job seen lag before (Ok (Some s)) now lag_now after → JobStepMade D job seen None lag before (Ok Called) now (pod_seen (Some s)) lag_now after
  reads_pod s m i others =
      reads_at (Ok (Some s)) m i others (in_job job others (pod_seen (Some s)) lag_now)
      (ap (λ q. with_reply q (given job ∷ others) others 0) m.pod.is
      ∙ goes_on job others s m.pod.of.pod m.pod.of.content
      ∙ ap (in_job job others (pod_seen (Some s))) (sym m.used_up))

  rests_at : (f : Result (Option (Snapshot Content)) RunFault) → ReadMade job seen lag before f now lag_now after → of_found f ≢ Ok Called → (i : ℕ) (others : List Given) → StepMade D i seen (in_job job others None lag) before (of_found f) now (fresh_hand others lag_now) after
  rests_at f m free i others =
      reads_at f m i others (fresh_hand others lag_now)
      (rests m.reply (given job ∷ others) others 0 (λ e. free (m.told ∙ e)) ∙ ap (fresh_hand others) (sym m.used_up))

  pub step_reads : (f : Result (Option (Snapshot Content)) RunFault) → ReadMade job seen lag before f now lag_now after → JobStepMade D job seen None lag before (of_found f) now (pod_seen (pod_found f)) lag_now after
  step_reads (Ok (Some s)) m i others = reads_pod s m i others
  step_reads (Ok None) m i others = rests_at (Ok None) m (λ q. cc) i others
  step_reads (Err e) m i others = rests_at (Err e) m (λ q. cc) i others

  -- ---- the hand after an end

  wrote_rests : (reply : Reply) (others : List Given) (pod : Option (Seen PodObject)) → after_step (of_write reply) job others pod lag_now ≡ fresh_hand others lag_now
  wrote_rests (accepted x) others pod = refl
  wrote_rests (found x) others pod = refl
  wrote_rests no_object others pod = refl
  wrote_rests exists others pod = refl
  wrote_rests (conflict a b) others pod = refl
  wrote_rests fault others pod = refl

  end_rests : (k : RunNext) (others : List Given) (pod : Option (Seen PodObject)) → after_step (of_end k) job others pod lag_now ≡ fresh_hand others lag_now
  end_rests read others pod = refl
  end_rests (finish o) others pod = refl
  end_rests already_finished others pod = refl
  end_rests no_outcome others pod = refl
  end_rests (not_due tick) others pod = refl

  pub step_ends : (pod pod_now : Option (Seen PodObject)) (r : Result RunDone RunFault) → lag_now ≡ lag → EndMade D job pod seen before r now after → JobStepMade D job seen pod lag before r now pod_now lag_now after
  step_ends pod pod_now r same (wrote x o reply viewed next did told) i others =
      let rest : fresh_hand others lag ≡ after_step r job others pod_now lag_now =
      ap (fresh_hand others) (sym same) ∙ sym (wrote_rests reply others pod_now) ∙ ap (λ (q : Result RunDone RunFault). after_step q job others pod_now lag_now) (sym told) in
      subst (λ h. StepMade D i seen (in_job job others pod lag) before r now h after) rest record {
        at = did.at;
        later = did.later;
        others = did.others;
        notes = change_note i (finish_change job.workflow job.node x o) reply;
        stepped = finishes job.workflow job.node others x o reply now refl viewed next did.did;
        answer = told;
      }
  step_ends pod pod_now r same (rested x viewed done told stays same_others) i others =
      let k = runner_next D job.workflow job.node (Some x) in
      let rest : fresh_hand others lag ≡ after_step r job others pod_now lag_now =
      ap (fresh_hand others) (sym same) ∙ sym (end_rests k others pod_now) ∙ ap (λ (q : Result RunDone RunFault). after_step q job others pod_now lag_now) (sym told) in
      let made : StepMade D i seen (in_job job others pod lag) before r seen (fresh_hand others lag) before = record {
        at = seen;
        later = extends_itself seen;
        others = refl;
        notes = [];
        stepped = ends job.workflow job.node others x refl viewed done;
        answer = told;
      } in
      subst (λ h. StepMade D i seen (in_job job others pod lag) before r now h after) rest
      (subst (λ n. StepMade D i seen (in_job job others pod lag) before r now (fresh_hand others lag) n) (sym same_others)
      (subst (λ (g : Story). StepMade D i seen (in_job job others pod lag) before r g (fresh_hand others lag) before) (sym stays) made))
