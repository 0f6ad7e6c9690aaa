-- Why a worker's step is the step of a hand: the step of its oldest job, behind which the next begins.
use Rattle.std.proofs.Common.{◌≡◌, ℕ, List, [], ◌∷◌, map, refl, sym, ◌∙◌, ap, subst, Option, Some, None, Result, Ok, Err}
use Rattle.history.proofs.Extends.{extends_itself}
use Rattle.law.specs.Documents.{Text, Document}
use Rattle.law.specs.Contents.{Story}
use Rattle.next_step.specs.Views.{Views}
use Rattle.next_step.specs.Changes.{ViewsOf}
use Rattle.next_step.specs.Hands.{for_flow}
use Rattle.next_step.specs.Plays.{has_none}
use Rattle.next_laws.specs.Viewing.{ViewsStay}
use Rattle.next_laws.specs.Playing.{HandHasSeen}
use Rattle.worker_job.specs.Jobs.{OneJob}
use Rattle.reconcile_core.specs.declared.answers.StepDone.{StepDone}
use Rattle.reconcile_core.specs.declared.answers.StepDone.TheVariants.{Idle, Called, Ended}
use Rattle.reconcile_core.specs.declared.answers.ReconcileFault.{ReconcileFault}
use Rattle.reconcile_core.specs.Steps.{StepMade, in_job, after_step, JobStepMade}
use Rattle.reconcile_core.specs.Workers.{Working, working, with_next, hand_of}
use Rattle.reconcile_core.specs.Inside.{working_in, IsBusyFirst, after_answer}

-- ---- a worker with a job

pub busy : (o : Option OneJob) (waiting : List Text) (j : OneJob) (k : Working) → o ≡ Some j → working_in o waiting ≡ k → k ≡ working (j.workflow ∷ waiting) j.views
busy o waiting j k e is = sym is ∙ ap (λ x. working_in x waiting) e

pub views_of_job : (seen : Story) (lag : ℕ) (k : Working) (w : Text) (ws : List Text) (v : Views) → k ≡ working (w ∷ ws) v → HandHasSeen seen (hand_of lag k) → ViewsOf seen w v
views_of_job seen lag k w ws v e h = (subst (λ x. HandHasSeen seen (hand_of lag x)) e h).0

same_hand : (r : Result StepDone ReconcileFault) (w : Text) (ws : List Text) (u : Views) (lag : ℕ) → after_step r w (map for_flow ws) u lag ≡ hand_of lag (after_answer r (working (w ∷ ws) u))
same_hand (Ok Called) w ws u lag = refl
same_hand (Ok Idle) w ws u lag = refl
same_hand (Ok (Ended e)) w ws u lag = refl
same_hand (Err e) w ws u lag = refl

module _ (D : Document) (seen : Story) (lag before : ℕ) where
  pub worker_made : (w x : Text) (ws : List Text) (v u : Views) (k next : Working) (r : Result StepDone ReconcileFault) (now : Story) (lag_now others_now : ℕ) → k ≡ working (w ∷ ws) v → next ≡ after_answer r (working (x ∷ ws) u) → x ≡ w → JobStepMade D w seen v lag before r now u lag_now others_now → (i : ℕ) → StepMade D i seen (hand_of lag k) before r now (hand_of lag_now next) others_now
  worker_made w x ws v u k next r now lag_now others_now is then same made i =
      subst (λ y. StepMade D i seen (hand_of lag y) before r now (hand_of lag_now next) others_now) (sym is)
      (subst (λ y. StepMade D i seen (in_job w (map for_flow ws) v lag) before r now (hand_of lag_now y) others_now) (sym then)
      (subst (λ y. StepMade D i seen (in_job w (map for_flow ws) v lag) before r now (hand_of lag_now (after_answer r (working (y ∷ ws) u))) others_now) (sym same)
      (subst (λ b. StepMade D i seen (in_job w (map for_flow ws) v lag) before r now b others_now) (same_hand r w ws u lag_now) (made i (map for_flow ws)))))

  -- without a job it does nothing
  pub idle_made : (k next : Working) → next ≡ k → k.jobs ≡ [] → (i : ℕ) → StepMade D i seen (hand_of lag k) before (Ok Idle) seen (hand_of lag next) before
  idle_made k next same none i =
      subst (λ y. StepMade D i seen (hand_of lag k) before (Ok Idle) seen (hand_of lag y) before) (sym same)
      record { at = seen; later = extends_itself seen; others = refl; notes = []; stepped = has_none (ap (map for_flow) none); answer = refl }

pub idle : (o : Option OneJob) (waiting : List Text) (k : Working) → o ≡ None → IsBusyFirst o waiting → working_in o waiting ≡ k → k.jobs ≡ []
idle o waiting k e first is =
    let none : waiting ≡ [] = subst (λ x. IsBusyFirst x waiting) e first in
    ap (λ (x : Working). x.jobs) (sym is ∙ ap (λ x. working_in x waiting) e) ∙ none

-- ---- what it has seen then

-- the next job begins with nothing
next_seen : ViewsStay → (now : Story) (lag : ℕ) (w : Text) (ws : List Text) (u : Views) → HandHasSeen now (hand_of lag (with_next (working (w ∷ ws) u)))
next_seen stay now lag w [] u = (refl, refl)
next_seen stay now lag w (x ∷ xs) u = (stay.begin now x, refl)

pub worker_seen : ViewsStay → (now : Story) (lag : ℕ) (w x : Text) (ws : List Text) (u : Views) (r : Result StepDone ReconcileFault) (next : Working) → next ≡ after_answer r (working (x ∷ ws) u) → x ≡ w → (r ≡ Ok Called → ViewsOf now w u) → HandHasSeen now (hand_of lag next)
worker_seen stay now lag w x ws u r next then same viewed =
    subst (λ y. HandHasSeen now (hand_of lag y)) (sym (then ∙ ap (λ y. after_answer r (working (y ∷ ws) u)) same)) (by r viewed)
  where
    by : (a : Result StepDone ReconcileFault) → (a ≡ Ok Called → ViewsOf now w u) → HandHasSeen now (hand_of lag (after_answer a (working (w ∷ ws) u)))
    by (Ok Called) v = (v refl, refl)
    by (Ok Idle) v = next_seen stay now lag w ws u
    by (Ok (Ended e)) v = next_seen stay now lag w ws u
    by (Err e) v = next_seen stay now lag w ws u
