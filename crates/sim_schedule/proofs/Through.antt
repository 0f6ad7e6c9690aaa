-- A step through the client of a store that nobody else calls.
use Rattle.std.proofs.Common.{◌≡◌, ℕ, ◌<◌, ◌≤◌, List, Bool, sym, ap, subst, Result, Err}
use Rattle.object_store.specs.Stored.{Stored}
use Rattle.law.specs.Documents.{Document}
use Rattle.law.specs.Contents.{Content}
use Rattle.next_step.specs.Hands.{Given, Hand}
use Rattle.pod_runner.specs.Running as running
use Rattle.pod_runner.specs.Running.{Running}
use Rattle.pod_runner.specs.Steps as runs
use Rattle.pod_runner.specs.declared.answers.RunDone.{RunDone}
use Rattle.pod_runner.specs.declared.answers.RunFault.{RunFault}
use Rattle.pod_runner.specs.declared.answers.RunFault.TheVariants as run_faults
use Rattle.reconcile_core.specs.Steps.{StepMade}
use Rattle.reconcile_core.specs.Workers.{Working, hand_of}
use Rattle.reconcile_core.specs.declared.answers.StepDone.{StepDone}
use Rattle.reconcile_core.specs.declared.answers.ReconcileFault.{ReconcileFault}
use Rattle.reconcile_core.specs.declared.answers.ReconcileFault.TheVariants as faults
use Rattle.sim_schedule.specs.Inside.Hands.{HasOne, HasOnePod, hand_with, is_called, is_running}
use Rattle.sim_schedule.specs.Inside.Steps.{HandMoves}
use Rattle.sim_schedule.proofs.Lifting.{left, worker_moved}
use Rattle.sim_schedule.proofs.Running.{runner_moved}

-- From this store to that one. The client had the store as it was and the hand's lag, and tells the lag that it has now.
module _ {O : Type 0} (count : O → ℕ) (D : Document) (s c t : Stored Content O) (same : c ≡ s) (lag client_lag : ℕ) (lagged : client_lag ≡ lag) (lag_now told_lag : ℕ) (tells : told_lag ≡ lag_now) (up : count c.outage ≤ count t.outage) where
  abbrev Moves : (ℕ → Hand) → Hand → List Given → Type 0
  Moves a b rest = HandMoves D s.history (hand_with (a lag) rest) (count s.outage) t.history b (count t.outage)

  as_told : (a b : ℕ → Hand) (on : Bool) (rest : List Given) → HandMoves D c.history (hand_with (a client_lag) rest) (count c.outage) t.history (left rest on (b lag_now)) (count t.outage) → Moves a (left rest on (b told_lag)) rest
  as_told a b on rest moved =
      subst (λ n. Moves a (left rest on (b n)) rest) (sym tells)
      (subst (λ (x : Stored Content O). HandMoves D x.history (hand_with (a lag) rest) (count x.outage) t.history (left rest on (b lag_now)) (count t.outage)) same
      (subst (λ n. HandMoves D c.history (hand_with (a n) rest) (count c.outage) t.history (left rest on (b lag_now)) (count t.outage)) lagged moved))

  pub worker_left : (k u : Working) (r : Result StepDone ReconcileFault) → HasOne k → ((i : ℕ) → StepMade D i c.history (hand_of client_lag k) 0 r t.history (hand_of lag_now u) 0) → (r ≡ Err faults.Fault → count c.outage < count t.outage) → (on : Bool) → is_called r ≡ on → (rest : List Given) → HandMoves D s.history (hand_with (hand_of lag k) rest) (count s.outage) t.history (left rest on (hand_of told_lag u)) (count t.outage)
  worker_left k u r one made rose on is rest =
      as_told (λ n. hand_of n k) (λ n. hand_of n u) on rest
      (subst (λ b. HandMoves D c.history (hand_with (hand_of client_lag k) rest) (count c.outage) t.history (left rest b (hand_of lag_now u)) (count t.outage)) is
      (worker_moved D c.history k.views client_lag r t.history u lag_now k.jobs one.job one.only made (count c.outage) (count t.outage) up rose rest))

  pub runner_left : (k u : Running) (r : Result RunDone RunFault) → HasOnePod k → ((i : ℕ) → runs.StepMade D i c.history (running.hand_of client_lag k) 0 r t.history (running.hand_of lag_now u) 0) → (r ≡ Err run_faults.Fault → count c.outage < count t.outage) → (on : Bool) → is_running r ≡ on → (rest : List Given) → HandMoves D s.history (hand_with (running.hand_of lag k) rest) (count s.outage) t.history (left rest on (running.hand_of told_lag u)) (count t.outage)
  runner_left k u r one made rose on is rest =
      as_told (λ n. running.hand_of n k) (λ n. running.hand_of n u) on rest
      (subst (λ b. HandMoves D c.history (hand_with (running.hand_of client_lag k) rest) (count c.outage) t.history (left rest b (running.hand_of lag_now u)) (count t.outage)) is
      (runner_moved D c.history k.pod client_lag r t.history u lag_now k.jobs one.job one.only made (count c.outage) (count t.outage) up rose rest))
