-- Why a step of a job is the step of a hand, by what its call was answered.
use Rattle.std.proofs.Common.{◌≡◌, ℕ, List, ◌∷◌, refl, sym, ◌∙◌, ap, subst, Some, Result, Ok, Err}
use Rattle.std.specs.Prelude.{IsErrAnd, []}
use Rattle.tree_types.specs.declared.fact.Fact.{Fact}
use Rattle.tree_types.specs.declared.entry.Key.{Key}
use Rattle.tree_types.specs.declared.entry.Key.TheVariants.{Workflow, Pod, Locks, Caches}
use Rattle.history.specs.History.{Extends}
use Rattle.history.specs.Versions.{back_of, lag_after}
use Rattle.history.proofs.Extends.{extends_itself}
use Rattle.store_client.specs.Calls.{CountsOthers}
use Rattle.meaning.specs.Answers.{Facts}
use Rattle.law.specs.Documents.{Text, Document}
use Rattle.law.specs.Contents.{Story}
use Rattle.law.specs.Due.{Matter, record_fact, IsTooLarge}
use Rattle.next_step.specs.Views.{Seen, Views}
use Rattle.law.specs.Contents.{Flow}
use Rattle.next_step.specs.Next.{get, act, done, worker_next}
use Rattle.next_step.specs.Changes.{change_of, AddsFor}
use Rattle.next_step.specs.Replies.{Reply, found, accepted, no_object, exists, conflict, fault, Job, goes_on, ended, after}
use Rattle.next_step.specs.Backward.{GotBack}
use Rattle.next_step.specs.Hands.{Given, for_flow, fresh_hand, with_job}
use Rattle.next_step.specs.Plays.{gets, changes, is_full, is_done, get_note, change_note}
use Rattle.next_laws.proofs.Gets.{OwnKey, own_key}
use Rattle.reply_laws.specs.Replies.{DidBehind}
use Rattle.worker_job.specs.Jobs.{IsRead}
use Rattle.reconcile_core.specs.declared.answers.Ended.TheVariants.{Done}
use Rattle.reconcile_core.specs.declared.answers.StepDone.{StepDone}
use Rattle.reconcile_core.specs.declared.answers.StepDone.TheVariants.{Called, Ended}
use Rattle.reconcile_core.specs.declared.answers.ReconcileFault.{ReconcileFault}
use Rattle.reconcile_core.specs.declared.answers.ReconcileFault.TheVariants as faults
use Rattle.tree_state.specs.declared.refused.TreeRefused.{TreeRefused}
use Rattle.tree_state.specs.declared.refused.TreeRefused.TheVariants as of_tree
use Rattle.reconcile_core.specs.Plans.{Plans}
use Rattle.reconcile_core.specs.Answers.{fault_of, of_refusal, of_call}
use Rattle.reconcile_core.specs.Hearing.{GoesOnWith}
use Rattle.reconcile_core.specs.Steps.{StepMade, in_job, after_step, JobStepMade}

-- what is read is of the job's own
own_is_read : (w : Text) (k : Key) → OwnKey w k → IsRead w k
own_is_read w (Workflow x) e = e
own_is_read w (Pod x name) e = e
own_is_read w Locks e = tt
own_is_read w Caches e = tt

pub is_read : (D : Document) (w : Text) (v : Views) (k j : Key) → worker_next D w v ≡ get k → j ≡ k → IsRead w j
is_read D w v k j next e = subst (IsRead w) (sym e) (own_is_read w k (own_key D w v k next))

-- ---- the hand after a call

not_called : (r : Reply) (w : Text) (others : List Given) (u : Views) (lag : ℕ) → after_step (of_refusal r) w others u lag ≡ fresh_hand others lag
not_called (found x) w others u lag = refl
not_called (accepted x) w others u lag = refl
not_called no_object w others u lag = refl
not_called exists w others u lag = refl
not_called (conflict a b) w others u lag = refl
not_called fault w others u lag = refl

same_hand : (j : Job) (r : Reply) (w : Text) (others : List Given) (u : Views) (lag : ℕ) → GoesOnWith j u → with_job j (for_flow w ∷ others) others lag ≡ after_step (of_call j r) w others u lag
same_hand (goes_on x) r w others u lag e = ap (λ y. in_job w others y lag) e
same_hand (ended e) r w others u lag g = sym (not_called r w others u lag)

module _ (D : Document) (w : Text) (seen : Story) (v : Views) (lag before : ℕ) where
  pub read_made : (k : Key) (r : Reply) (now : Story) (u : Views) (lag_now after_others : ℕ) (answer : Result StepDone ReconcileFault) → worker_next D w v ≡ get k → Extends now seen → CountsOthers seen now before after_others → GotBack now (back_of k lag) k r → lag_now ≡ lag_after k lag → GoesOnWith (after v (get k) r) u → answer ≡ of_call (after v (get k) r) r → JobStepMade D w seen v lag before answer now u lag_now after_others
  read_made k r now u lag_now after_others answer next later others back same goes told = λ i jobs.
      subst (λ a. StepMade D i seen (in_job w jobs v lag) before a now (after_step a w jobs u lag_now) after_others) (sym told)
      (subst (λ l. StepMade D i seen (in_job w jobs v lag) before (of_call (after v (get k) r) r) now (after_step (of_call (after v (get k) r) r) w jobs u l) after_others) (sym same)
      (subst (λ b. StepMade D i seen (in_job w jobs v lag) before (of_call (after v (get k) r) r) now b after_others) (same_hand (after v (get k) r) r w jobs u (lag_after k lag) goes)
      record { at = now; later = later; others = others; notes = get_note i k r; stepped = gets w jobs k r refl next back; answer = refl }))

  pub change_made : (m : Matter) (s : Seen Flow) (facts : Facts) (r : Reply) (now : Story) (u : Views) (lag_now after_others : ℕ) (answer : Result StepDone ReconcileFault) → worker_next D w v ≡ act m → v.flow ≡ Some s → AddsFor s facts m → DidBehind seen (change_of w v s facts m) r now before after_others → lag_now ≡ lag → GoesOnWith (after v (act m) r) u → answer ≡ of_call (after v (act m) r) r → JobStepMade D w seen v lag before answer now u lag_now after_others
  change_made m s facts r now u lag_now after_others answer next viewed adds did same goes told = λ i jobs.
      subst (λ a. StepMade D i seen (in_job w jobs v lag) before a now (after_step a w jobs u lag_now) after_others) (sym told)
      (subst (λ l. StepMade D i seen (in_job w jobs v lag) before (of_call (after v (act m) r) r) now (after_step (of_call (after v (act m) r) r) w jobs u l) after_others) (sym same)
      (subst (λ b. StepMade D i seen (in_job w jobs v lag) before (of_call (after v (act m) r) r) now b after_others) (same_hand (after v (act m) r) r w jobs u lag goes)
      record { at = did.at; later = did.later; others = did.others; notes = change_note i (change_of w v s facts m) r; stepped = changes w jobs m s facts r now refl next viewed adds did.did; answer = refl }))

  pub full_made : (x : Fact) (s : Seen Flow) (u : Views) → worker_next D w v ≡ act (record_fact x) → v.flow ≡ Some s → IsTooLarge s.content x → JobStepMade D w seen v lag before (Err faults.TooLarge) seen u lag before
  full_made x s u next viewed large = λ i jobs. record { at = seen; later = extends_itself seen; others = refl; notes = []; stepped = is_full w jobs x s refl next viewed large; answer = refl }

  pub done_made : (u : Views) → worker_next D w v ≡ done → JobStepMade D w seen v lag before (Ok (Ended Done)) seen u lag before
  done_made u next = λ i jobs. record { at = seen; later = extends_itself seen; others = refl; notes = []; stepped = is_done w jobs refl next; answer = refl }

-- ---- what is told

pub ok_not_err : {B : Type 0} {d : StepDone} {e : ReconcileFault} → Ok d ≡ Err e → B
ok_not_err q = absurd cc

pub err_is : {T E : Type 0} (r : Result T E) (e : E) → IsErrAnd r (λ x. x ≡ e) → r ≡ Err e
err_is (Err x) e h = ap Err h
err_is (Ok t) e h = absurd h

pub refusal_not_called : {B : Type 0} (r : Reply) → of_refusal r ≡ Ok Called → B
refusal_not_called (found x) q = absurd cc
refusal_not_called (accepted x) q = absurd cc
refusal_not_called no_object q = absurd cc
refusal_not_called exists q = absurd cc
refusal_not_called (conflict a b) q = absurd cc
refusal_not_called fault q = absurd cc

-- a job of which a call is told goes on
pub goes_on_with : (j : Job) (r : Reply) (u : Views) → GoesOnWith j u → of_call j r ≡ Ok Called → j ≡ goes_on u
goes_on_with (goes_on x) r u g q = ap goes_on g
goes_on_with (ended e) r u g q = refusal_not_called r q

-- a fact that makes too large a tree is not written
module _ (D : Document) (w : Text) (seen : Story) (v : Views) (lag before : ℕ) where
  pub refused_made : (m : Matter) (u : Views) (refused : TreeRefused) (answer : Result StepDone ReconcileFault) → worker_next D w v ≡ act m → Plans w v m (Err refused) → answer ≡ Err (fault_of refused) → (answer ≡ Err faults.Memory → ⊥) → JobStepMade D w seen v lag before answer seen u lag before
  refused_made m u of_tree.TooLarge answer next full told free =
      subst (λ a. JobStepMade D w seen v lag before a seen u lag before) (sym told) (full_made D w seen v lag before full.fact full.flow u (next ∙ ap act full.is) full.viewed full.large)
  refused_made m u of_tree.Memory answer next full told free = absurd (free told)
