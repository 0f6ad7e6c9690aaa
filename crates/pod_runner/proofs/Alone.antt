-- Why a job that nobody disturbs ran: each of its calls is answered at the history that the one before left.
use Rattle.std.proofs.Common.{◌≡◌, ◌≢◌, ℕ, ◌+◌, ◌≤◌, List, [], ◌∷◌, ◌++◌, length, length-append, append-nil, refl, sym, ◌∙◌, ap, ap₂, subst, Option, Some, None, Result, Ok, Err, arith}
use Rattle.tree_types.specs.declared.entry.Key.{Key}
use Rattle.tree_types.specs.declared.entry.Key.TheVariants as of_key
use Rattle.history.specs.History.{Version, Extends, clock_of, version_at}
use Rattle.object_store.specs.declared.snapshot.Snapshot.{Snapshot}
use Rattle.store_client.specs.Calls.{CountsOthers}
use Rattle.law.specs.Documents.{Text, Document}
use Rattle.law.specs.Contents.{PodObject, Content, OfPod, apply, Story, pod_in}
use Rattle.lawful.proofs.Facts.{some_same, none_some}
use Rattle.next_step.specs.Views.{Seen}
use Rattle.next_step.specs.Changes.{ShownAt}
use Rattle.next_step.specs.Replies.{Reply, found, accepted, no_object, exists, conflict, fault, seen}
use Rattle.next_step.specs.Runner.{RunNext, read, finish, already_finished, no_outcome, not_due, runner_next, finish_change}
use Rattle.next_step.specs.Calls.{Got, Did}
use Rattle.next_step.specs.Backward.{seen_at, GotBack}
use Rattle.next_step.specs.Hands.{for_pod}
use Rattle.next_step.specs.Rounds.{pod_of_reply, faults_of, runner_missed, runner_rested, runner_finished}
use Rattle.reply_laws.specs.Replies.{seen_in}
use Rattle.run_laws.specs.Whole.{Told, went, told_by, Ran}
use Rattle.pod_runner.specs.declared.answers.RunDone.{RunDone}
use Rattle.pod_runner.specs.declared.answers.RunDone.TheVariants.{Called}
use Rattle.pod_runner.specs.declared.answers.RunFault.{RunFault}
use Rattle.pod_runner.specs.declared.answers.RunFault.TheVariants as faults
use Rattle.pod_runner.specs.declared.runner.PodJob.{PodJob}
use Rattle.pod_runner.specs.WholeJobs.{told_of}
use Rattle.pod_runner.specs.Inside.{pod_by, pod_seen}
use Rattle.pod_runner.specs.Steps.{of_pod, of_read, of_write, of_end, of_found, PodRead, ReadMade, EndMade, wrote, rested}

-- ---- the history at which a call is answered

no_rest : {A : Type 0} (xs : List A) → length xs ≡ 0 → xs ≡ []
no_rest [] e = refl
no_rest (x ∷ xs) e = absurd (omega (arith, e))

-- without entries of others it is what was seen
same_at : (at seen : Story) (n : ℕ) → Extends at seen → CountsOthers seen at n n → at ≡ seen
same_at at seen n b c =
    let l : length at.events ≡ length seen.events + length b.rest = ap length b.goes_on ∙ length-append seen.events b.rest in
    let none : b.rest ≡ [] = no_rest b.rest (omega (arith, l, c)) in
    ap₂ (λ start events. record { start = start; events = events }) b.same_start (b.goes_on ∙ ap (λ es. seen.events ++ es) none ∙ append-nil seen.events)

-- the entries of others are never fewer
others_rise : (at seen : Story) (before now : ℕ) → Extends at seen → CountsOthers seen at before now → before ≤ now
others_rise at seen before now b c =
    let l : length at.events ≡ length seen.events + length b.rest = ap length b.goes_on ∙ length-append seen.events b.rest in
    omega (arith, l, c)

-- what is read without a lag stands
got_now : (h : Story) (k : Key) (r : Reply) → GotBack h 0 k r → Got h k r
got_now h k (found x) g = by (version_at apply h k) refl g
  where
    by : (o : Option (Version Content)) → version_at apply h k ≡ o → seen_at (clock_of h) o ≡ Some x → ShownAt h k x.number x.content x.tick
    by None q e = none_some x e
    by (Some v) q e = subst (λ (y : Seen Content). ShownAt h k y.number y.content y.tick) (some_same (seen v.number v.content (clock_of h)) x e) record { stood = q; clock = refl }
got_now h k no_object g = g
got_now h k fault g = tt
got_now h k (accepted x) g = absurd g
got_now h k exists g = absurd g
got_now h k (conflict a b) g = absurd g

-- ---- what is told

read_told : (r : Reply) → told_of (of_read r) ≡ told_by r
read_told (found x) = by (pod_in (Some x.content))
  where
    by : (o : Option PodObject) → told_of (of_pod o) ≡ went
    by None = refl
    by (Some pod) = refl
read_told (accepted x) = refl
read_told no_object = refl
read_told exists = refl
read_told (conflict a b) = refl
read_told fault = refl

write_told : (r : Reply) → told_of (of_write r) ≡ told_by r
write_told (found x) = refl
write_told (accepted x) = refl
write_told no_object = refl
write_told exists = refl
write_told (conflict a b) = refl
write_told fault = refl

end_told : (k : RunNext) → told_of (of_end k) ≡ went
end_told read = refl
end_told (finish o) = refl
end_told already_finished = refl
end_told no_outcome = refl
end_told (not_due tick) = refl

-- ---- the pod of a reply

abbrev as_seen : ℕ → ℕ → Option PodObject → Option (Seen PodObject)
as_seen number tick o = elim o [ None ↦ None | Some pod ↦ Some (seen number pod tick) ]

pod_missed : (r : Reply) → of_read r ≢ Ok Called → pod_of_reply r ≡ None
pod_missed (found x) free = by (pod_in (Some x.content)) free
  where
    by : (o : Option PodObject) → of_pod o ≢ Ok Called → as_seen x.number x.tick o ≡ None
    by None free = refl
    by (Some pod) free = absurd (free refl)
pod_missed (accepted x) free = refl
pod_missed no_object free = refl
pod_missed exists free = refl
pod_missed (conflict a b) free = refl
pod_missed fault free = refl

pub pod_read : (s : Snapshot Content) → pod_of_reply (found (seen_in s)) ≡ pod_seen (Some s)
pod_read s = by (pod_in (Some s.content))
  where
    by : (o : Option PodObject) → as_seen s.version s.tick o ≡ pod_by s o
    by None = refl
    by (Some pod) = refl

-- ---- a whole job

module _ (D : Document) (job : PodJob) (seen : Story) (lag before : ℕ) (mid : Story) (lag_mid middle : ℕ) (no_lag : lag ≡ 0) where
  got : (f : Result (Option (Snapshot Content)) RunFault) → (m : ReadMade job seen lag before f mid lag_mid middle) → mid ≡ seen → Got seen (of_key.Pod job.workflow job.node) m.reply
  got f m same =
      subst (λ (h : Story). Got h (of_key.Pod job.workflow job.node) m.reply) same
      (got_now mid (of_key.Pod job.workflow job.node) m.reply (subst (λ l. GotBack mid l (of_key.Pod job.workflow job.node) m.reply) no_lag m.back))

  -- nothing was read
  pub alone_missed : (f : Result (Option (Snapshot Content)) RunFault) → ReadMade job seen lag before f mid lag_mid middle → of_found f ≢ Ok Called → middle ≡ before → Ran D seen (for_pod job.workflow job.node) (told_of (of_found f)) mid
  alone_missed f m free still =
      let same = same_at mid seen before m.later (subst (λ n. CountsOthers seen mid before n) still m.others) in
      subst (λ (g : Story). Ran D seen (for_pod job.workflow job.node) (told_of (of_found f)) g) (sym same) record {
        calls = 1;
        faults = faults_of m.reply;
        ran = runner_missed job.workflow job.node m.reply (got f m same) (pod_missed m.reply (λ e. free (m.told ∙ e)));
        is_told = ap told_of m.told ∙ read_told m.reply;
      }

  -- the pod was read
  pub alone_ended : (s : Snapshot Content) → ReadMade job seen lag before (Ok (Some s)) mid lag_mid middle → (r : Result RunDone RunFault) (now : Story) (after : ℕ) → EndMade D job (pod_seen (Some s)) mid middle r now after → after ≡ before → Ran D seen (for_pod job.workflow job.node) (told_of r) now
  alone_ended s m r now after (wrote x o reply viewed next did told) still =
      let first = others_rise mid seen before middle m.later m.others in
      let second = others_rise did.at mid middle after did.later did.others in
      let same_middle : middle ≡ before = omega (arith, first, second, still) in
      let same_after : after ≡ middle = still ∙ sym same_middle in
      let same = same_at mid seen before m.later (subst (λ n. CountsOthers seen mid before n) same_middle m.others) in
      let at = same_at did.at mid middle did.later (subst (λ n. CountsOthers mid did.at middle n) same_after did.others) in
      record {
        calls = 2;
        faults = faults_of reply;
        ran = runner_finished job.workflow job.node m.reply reply x o now (got (Ok (Some s)) m same) (ap pod_of_reply m.pod.is ∙ pod_read s ∙ viewed) next (subst (λ (h : Story). Did h (finish_change job.workflow job.node x o) reply now) (at ∙ same) did.did);
        is_told = ap told_of told ∙ write_told reply;
      }
  alone_ended s m r now after (rested x viewed done told stays same_others) still =
      let same = same_at mid seen before m.later (subst (λ n. CountsOthers seen mid before n) (sym same_others ∙ still) m.others) in
      subst (λ (g : Story). Ran D seen (for_pod job.workflow job.node) (told_of r) g) (sym (stays ∙ same)) record {
        calls = 1;
        faults = 0;
        ran = runner_rested job.workflow job.node m.reply x (got (Ok (Some s)) m same) (ap pod_of_reply m.pod.is ∙ pod_read s ∙ viewed) done;
        is_told = ap told_of told ∙ end_told (runner_next D job.workflow job.node (Some x));
      }

-- ---- the job of these names, by what was read

read_not_memory : (f : Result (Option (Snapshot Content)) RunFault) (x : Option (Snapshot Content)) → f ≡ Ok x → f ≢ Err faults.Memory
read_not_memory f x is e = cc

pub same_fault : (f : Result (Option (Snapshot Content)) RunFault) (x y : RunFault) → f ≡ Err x → f ≡ Err y → x ≡ y
same_fault f x y a b = cc

module _ (D : Document) (w n : Text) (job : PodJob) (same_w : job.workflow ≡ w) (same_n : job.node ≡ n) (known : Story) (lag before : ℕ) (mid : Story) (lag_mid middle : ℕ) (no_lag : lag ≡ 0) (f : Result (Option (Snapshot Content)) RunFault) (made : f ≢ Err faults.Memory → ReadMade job known lag before f mid lag_mid middle) where
  named : (told : Told) (g : Story) → Ran D known (for_pod job.workflow job.node) told g → Ran D known (for_pod w n) told g
  named told g ran = subst (λ x. Ran D known (for_pod x n) told g) same_w (subst (λ y. Ran D known (for_pod job.workflow y) told g) same_n ran)

  made_so : (x : Result (Option (Snapshot Content)) RunFault) → f ≡ x → f ≢ Err faults.Memory → ReadMade job known lag before x mid lag_mid middle
  made_so x is free = subst (λ (y : Result (Option (Snapshot Content)) RunFault). ReadMade job known lag before y mid lag_mid middle) is (made free)

  pub ran_missed : f ≡ Ok None → middle ≡ before → Ran D known (for_pod w n) went mid
  ran_missed is still = named went mid (alone_missed D job known lag before mid lag_mid middle no_lag (Ok None) (made_so (Ok None) is (read_not_memory f None is)) (λ q. cc) still)

  pub ran_failed : (e : RunFault) → f ≡ Err e → (let r : Result RunDone RunFault = Err e in r) ≢ Err faults.Memory → middle ≡ before → Ran D known (for_pod w n) (told_of (Err e)) mid
  ran_failed e is told still = named (told_of (Err e)) mid (alone_missed D job known lag before mid lag_mid middle no_lag (Err e) (made_so (Err e) is (λ q. told (ap Err (same_fault f e faults.Memory is q)))) (λ q. cc) still)

  pub ran_ended : (s : Snapshot Content) → f ≡ Ok (Some s) → (r : Result RunDone RunFault) (now : Story) (after : ℕ) → EndMade D job (pod_seen (Some s)) mid middle r now after → after ≡ before → Ran D known (for_pod w n) (told_of r) now
  ran_ended s is r now after end still = named (told_of r) now (alone_ended D job known lag before mid lag_mid middle no_lag s (made_so (Ok (Some s)) is (read_not_memory f (Some s) is)) r now after end still)
