-- Why the pod that is kept is the job's, and a step of a job is the step of a hand.
use Rattle.std.proofs.Common.{◌≡◌, ◌≢◌, ℕ, refl, sym, ◌∙◌, ap, subst, Option, Some, None, Result, Ok, Err}
use Rattle.tree_types.specs.declared.entry.Key.TheVariants as of_key
use Rattle.history.specs.History.{IsVersionOf}
use Rattle.object_store.specs.declared.snapshot.Snapshot.{Snapshot}
use Rattle.object_store.specs.Answers.{IsOf}
use Rattle.law.specs.Documents.{Document}
use Rattle.law.specs.Contents.{PodObject, Content, OfPod, apply, Story, pod_in}
use Rattle.lawful.proofs.Facts.{some_same, none_some}
use Rattle.next_step.specs.Views.{Seen}
use Rattle.next_step.specs.Replies.{Reply, seen}
use Rattle.pod_runner.specs.declared.answers.RunDone.{RunDone}
use Rattle.pod_runner.specs.declared.answers.RunDone.TheVariants.{Called}
use Rattle.pod_runner.specs.declared.answers.RunFault.{RunFault}
use Rattle.pod_runner.specs.declared.answers.RunFault.TheVariants as faults
use Rattle.pod_runner.specs.declared.runner.PodJob.{PodJob}
use Rattle.pod_runner.specs.Inside.{pod_by, pod_seen, pod_found, OfJob}
use Rattle.pod_runner.specs.Steps.{JobStepMade, HasPod, IsOfJob, of_found, PodRead, ReadMade, EndMade}
use Rattle.pod_runner.proofs.Ending.{shown}
use Rattle.pod_runner.proofs.Stepping.{step_reads, step_ends}

-- ---- the pod that was read before

is_of : (job : PodJob) (s : Snapshot Content) → IsOfJob s job → (known : Story) → HasPod known job (pod_seen (Some s)) → IsOf apply s known
is_of job s of known has =
    let viewed : pod_seen (Some s) ≡ Some (seen s.version of.pod s.tick) = ap (λ c. pod_by s (pod_in (Some c))) of.content in
    subst (λ k. IsVersionOf apply known k s.version s.content s.tick) (sym of.key)
    (subst (λ c. IsVersionOf apply known (of_key.Pod job.workflow job.node) s.version c s.tick) (sym of.content) (has (seen s.version of.pod s.tick) viewed))

module _ (job : PodJob) (known : Story) (lag before : ℕ) (now : Story) (lag_now after : ℕ) where
  pub found_of : (f : Result (Option (Snapshot Content)) RunFault) → (f ≢ Err faults.Memory → ReadMade job known lag before f now lag_now after) → OfJob job (pod_found f)
  found_of (Ok (Some s)) made = (made (λ e. cc)).pod.of
  found_of (Ok None) made = tt
  found_of (Err e) made = tt

  stands : (s : Snapshot Content) (reply : Reply) → PodRead job now reply s → HasPod now job (pod_seen (Some s))
  stands s reply r x e =
      let is : pod_in (Some s.content) ≡ Some r.of.pod = ap (λ c. pod_in (Some c)) r.of.content in
      let same : seen s.version r.of.pod s.tick ≡ x = some_same (seen s.version r.of.pod s.tick) x (sym (ap (pod_by s) is) ∙ e) in
      subst (λ (y : Seen PodObject). IsVersionOf apply now (of_key.Pod job.workflow job.node) y.number (OfPod y.content) y.tick) same
      (shown job s r.of now r.shown r.of.pod is)

  pub found_stands : (f : Result (Option (Snapshot Content)) RunFault) → (f ≢ Err faults.Memory → ReadMade job known lag before f now lag_now after) → HasPod now job (pod_seen (pod_found f))
  found_stands (Ok (Some s)) made x e = let m : ReadMade job known lag before (Ok (Some s)) now lag_now after = made (λ q. cc) in stands s m.reply m.pod x e
  found_stands (Ok None) made x e = none_some x e
  found_stands (Err q) made x e = none_some x e

  -- ---- a read

  module _ (D : Document) (p q : Option (Snapshot Content)) (f : Result (Option (Snapshot Content)) RunFault) (r : Result RunDone RunFault) (none : p ≡ None) (told : r ≡ of_found f) (kept : q ≡ pod_found f) (made : f ≢ Err faults.Memory → ReadMade job known lag before f now lag_now after) where
    pub read_step : r ≢ Err faults.Memory → JobStepMade D job known (pod_seen p) lag before r now (pod_seen q) lag_now after
    read_step free =
        let m = made (λ e. free (told ∙ ap of_found e)) in
        subst (λ (o : Option (Snapshot Content)). JobStepMade D job known (pod_seen o) lag before r now (pod_seen q) lag_now after) (sym none)
        (subst (λ (o : Option (Snapshot Content)). JobStepMade D job known None lag before r now (pod_seen o) lag_now after) (sym kept)
        (subst (λ (x : Result RunDone RunFault). JobStepMade D job known None lag before x now (pod_seen (pod_found f)) lag_now after) (sym told)
        (step_reads D job known lag before now lag_now after f m)))

    pub read_of : OfJob job q
    read_of = subst (OfJob job) (sym kept) (found_of f made)

    pub read_stands : HasPod now job (pod_seen q)
    read_stands = subst (λ (o : Option (Snapshot Content)). HasPod now job (pod_seen o)) (sym kept) (found_stands f made)

-- a Fault is told of one alone
pub found_fault : (f : Result (Option (Snapshot Content)) RunFault) → of_found f ≡ Err faults.Fault → f ≡ Err faults.Fault
found_fault (Ok (Some s)) e = absurd cc
found_fault (Ok None) e = absurd cc
found_fault (Err q) e = ap Err (err_same q faults.Fault e)
  where
    err_same : (x y : RunFault) → (let r : Result RunDone RunFault = Err x in r) ≡ Err y → x ≡ y
    err_same x y e = cc

-- ---- an end

module _ (job : PodJob) (p : Option (Snapshot Content)) (s : Snapshot Content) (is : p ≡ Some s) (of : OfJob job p) where
  pub kept_of : IsOfJob s job
  kept_of = subst (OfJob job) is of

  pub kept_stands : (known : Story) → HasPod known job (pod_seen p) → IsOf apply s known
  kept_stands known has = is_of job s kept_of known (subst (λ (o : Option (Snapshot Content)). HasPod known job (pod_seen o)) is has)

pub end_step : (D : Document) (job : PodJob) (p q : Option (Snapshot Content)) (s : Snapshot Content) → p ≡ Some s → (known : Story) (lag before : ℕ) (r : Result RunDone RunFault) (now : Story) (lag_now after : ℕ) → lag_now ≡ lag → EndMade D job (pod_seen (Some s)) known before r now after → JobStepMade D job known (pod_seen p) lag before r now (pod_seen q) lag_now after
end_step D job p q s is known lag before r now lag_now after same made =
    step_ends D job known lag before now lag_now after (pod_seen p) (pod_seen q) r same
    (subst (λ (o : Option (Snapshot Content)). EndMade D job (pod_seen o) known before r now after) (sym is) made)
