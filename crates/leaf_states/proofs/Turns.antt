-- One attempt after the other.
use Rattle.std.proofs.Common.{◌≡◌, ℕ, zero, suc, ◌+◌, List, Bool, true, false, Option, Some, None, refl, ap, sym, subst, arith}
use Rattle.std.specs.Prelude.{IsTrue, ◌&&◌, nat_le, unwrap_or}
use Rattle.tree_types.specs.declared.phase.Phase.{Phase}
use Rattle.tree_types.specs.declared.phase.Phase.TheVariants.{Pending, Running, Succeeded, Skipped, Failed, Error, Omitted}
use Rattle.tree_types.specs.declared.node.Kind.{Kind}
use Rattle.tree_types.specs.declared.node.Kind.TheVariants as kind
use Rattle.tree_types.specs.declared.node.Note.{Note}
use Rattle.tree_types.specs.declared.outcome.Outcome.{Outcome}
use Rattle.tree_types.specs.declared.outcome.Outputs.{Outputs}
use Rattle.tree_types.specs.Phases.{fulfilled, is_end}
use Rattle.wf_manifest.specs.declared.templates.OutputDecl.{OutputDecl}
use Rattle.wf_manifest.specs.declared.templates.Backoff.{Backoff}
use Rattle.wf_manifest.specs.declared.templates.Retry.{Retry}
use Rattle.meaning.specs.declared.lines.Place.{Place}
use Rattle.meaning.specs.Answers.{Answers}
use Rattle.meaning.specs.Lines.{Made}
use Rattle.meaning.specs.Outputs.{Ending, succeeded_node, ended_node}
use Rattle.meaning.specs.Pods.{is_transient, retries, time_left, further, Attempts, ends_with, followed_at, before_attempts, first_begin, attempt, ended_pod, pod_by, pod_made, follows, may_start, started_by, retried_by, attempt_by, attempts_from}
use Rattle.retry_policy.specs.declared.attempts.Tried.{Tried}
use Rattle.retry_policy.specs.Attempts.{tried_again, starts_at, next_if}
use Rattle.leaf_states.specs.declared.retries.Follow.{Follow}
use Rattle.leaf_states.specs.declared.retries.Follow.TheVariants.{Nothing, Waits, Starts}
use Rattle.leaf_states.specs.Inside.Attempts.{tried, follow_by, follow_of, followed, begin_of}

-- ---- a pod that has ended is over

succeeded_over : (place : Place) (k : Kind) (n : Note) (u : Outputs) (lack : Option (List ℕ)) → fulfilled (succeeded_node place k n u lack).phase ≡ true
succeeded_over place k n u None = refl
succeeded_over place k n u (Some name) = refl

ended_over : (place : Place) (k : Kind) (phase : Phase) (n : Note) (u : Outputs) (e : Ending) → IsTrue (is_end phase) → fulfilled (ended_node place k phase n u e).phase ≡ true
ended_over place k Succeeded n u e h = succeeded_over place k n e.outputs e.lack
ended_over place k Failed n u e h = refl
ended_over place k Error n u e h = refl
ended_over place k Pending n u e h = absurd (cc h)
ended_over place k Running n u e h = absurd (cc h)
ended_over place k Skipped n u e h = absurd (cc h)
ended_over place k Omitted n u e h = absurd (cc h)

pod_over : (place : Place) (ds : List OutputDecl) (o : Note × Outcome) → (ended_pod place ds o).own.finished ≡ true
pod_over place ds o = ended_over place kind.Pod o.1.phase o.0 _ _ o.1.ended

module _ (A : Answers) (place : Place) (ds : List OutputDecl) (r : Retry) where
  -- ---- one attempt, and what follows it

  -- attempt k is followed by another, after which one less may follow
  pub record Goes (n k : ℕ) (m : Made) (a : Attempts) (first : Option Tried) : Type 0 where
    pub left : ℕ
    pub one_less : n ≡ suc left
    pub same : a ≡ before_attempts m (attempts_from A place ds r left (suc k) (begin_of first))

  -- the attempts from attempt k on, by what follows it
  abbrev pub IsTurn : ℕ → ℕ → Made → Attempts → Follow → Type 0
  IsTurn n k m a (Nothing over) = a ≡ ends_with m over
  IsTurn n k m a (Waits j tick) = (a ≡ followed_at m tick) × (j ≡ suc k)
  IsTurn n k m a (Starts first) = Goes n k m a first

  -- the attempts behind attempt k, which n may follow further
  abbrev rest : ℕ → ℕ → ℕ → Attempts
  rest n k begin = attempts_from A place ds r n (suc k) (Some begin)

  goes_on : (n k : ℕ) (m : Made) (e : Tried) (b : ℕ) → e.begin ≡ b → Goes (suc n) k m (before_attempts m (rest n k b)) (Some e)
  goes_on n k m e b same = record {
    left = n;
    one_less = refl;
    same = ap (λ (t : ℕ). before_attempts m (rest n k t)) (sym same);
  }

  -- with a backoff the timer decides
  waits_or_goes : (n k : ℕ) (o : Note × Outcome) (e : Tried) (b : ℕ) → e.begin ≡ b → (w : Backoff) (due : Bool) →
      IsTurn (suc n) k (ended_pod (attempt place k) ds o)
      (started_by A place ds (record r { backoff = Some w }) k o b (rest n k) due)
      (follow_by e (starts_at (Some w) o.1.finish (suc k) due))
  waits_or_goes n k o e b same w true = goes_on n k (ended_pod (attempt place k) ds o) e b same
  waits_or_goes n k o e b same w false = (refl, refl)

  starts : (n k : ℕ) (o : Note × Outcome) (e : Tried) (b : ℕ) → e.begin ≡ b → (w : Option Backoff) →
      IsTurn (suc n) k (ended_pod (attempt place k) ds o)
      (started_by A place ds (record r { backoff = w }) k o b (rest n k) (may_start A place w (suc k)))
      (follow_by e (starts_at w o.1.finish (suc k) (A.due (attempt place (suc k)).sels)))
  starts n k o e b same None = goes_on n k (ended_pod (attempt place k) ds o) e b same
  starts n k o e b same (Some w) = waits_or_goes n k o e b same w (A.due (attempt place (suc k)).sels)

  tries_again : (n k : ℕ) (o : Note × Outcome) (e last : Tried) (b : ℕ) → e.begin ≡ b → last.finish ≡ o.1.finish → (again : Bool) →
      IsTurn (suc n) k (ended_pod (attempt place k) ds o)
      (retried_by A place ds r k o b (rest n k) again)
      (follow_by e (next_if again r last (suc k) (A.due (attempt place (suc k)).sels)))
  tries_again n k o e last b same finish false = refl
  tries_again n k o e last b same finish true =
      subst (λ (t : ℕ). IsTurn (suc n) k (ended_pod (attempt place k) ds o) (started_by A place ds r k o b (rest n k) (may_start A place r.backoff (suc k))) (follow_by e (starts_at r.backoff t (suc k) (A.due (attempt place (suc k)).sels)))) (sym finish) (starts n k o e b same r.backoff)

  -- ---- whether another one follows

  abbrev here : ℕ → Option (Note × Outcome) → Made
  here k x = pod_by (attempt place k) ds x

  abbrev last_of : ℕ → Note × Outcome → Tried
  last_of k o = tried (ended_pod (attempt place k) ds o).own.node.phase o.1

  first_began : (first : Option Tried) (last : Tried) (o : Outcome) → last.begin ≡ o.begin → (unwrap_or first last).begin ≡ first_begin (begin_of first) o
  first_began None last o same = same
  first_began (Some t) last o same = refl

  no_more : (k : ℕ) → further r ≡ k → nat_le (suc k) (further r) ≡ false
  no_more k e = grind arith

  one_more : (n k : ℕ) → k + suc n ≡ further r → nat_le (suc k) (further r) ≡ true
  one_more n k e = grind arith

  -- the attempts from attempt k on, where it ended so
  abbrev from_here : ℕ → ℕ → Option Tried → Option (Note × Outcome) → Attempts
  from_here zero k first x = ends_with (here k x) (here k x).own.finished
  from_here (suc n) k first x = attempt_by A place ds r k (begin_of first) (rest n k) x

  turn_by : (n k : ℕ) (first : Option Tried) (x : Option (Note × Outcome)) → k + n ≡ further r →
      IsTurn n k (here k x) (from_here n k first x) (follow_of A place r (suc k) first (here k x).own.node.phase x)
  turn_by zero k first None e = refl
  turn_by (suc n) k first None e = refl
  turn_by zero k first (Some o) e =
      let last = last_of k o in
      let f = unwrap_or first last in
      let m = ended_pod (attempt place k) ds o in
      let P : Bool → Type 0 = λ within. IsTurn zero k m (ends_with m m.own.finished) (follow_by f (next_if (within && tried_again r f last) r last (suc k) (A.due (attempt place (suc k)).sels))) in
      let over : P false = ap (λ (b : Bool). ends_with m b) (pod_over (attempt place k) ds o) in
      subst P (sym (no_more k (omega (arith, e)))) over
  turn_by (suc n) k first (Some o) e =
      let last = last_of k o in
      let f = unwrap_or first last in
      let m = ended_pod (attempt place k) ds o in
      let b = first_begin (begin_of first) o.1 in
      let same : f.begin ≡ b = first_began first last o.1 refl in
      let again = follows place ds r o k b in
      let agrees : tried_again r f last ≡ again = ap (λ (t : ℕ). retries r.policy m.own.node.phase (is_transient o.1) && time_left r.backoff t o.1.finish) same in
      let P : Bool → Bool → Type 0 = λ within tries. IsTurn (suc n) k m (retried_by A place ds r k o b (rest n k) again) (follow_by f (next_if (within && tries) r last (suc k) (A.due (attempt place (suc k)).sels))) in
      let turn : P true again = tries_again n k o f last b same refl again in
      let turned : P true (tried_again r f last) = subst (P true) (sym agrees) turn in
      subst (λ (w : Bool). P w (tried_again r f last)) (sym (one_more n k e)) turned

  by_outcome : (n k : ℕ) (first : Option Tried) → from_here n k first (A.outcome (attempt place k)) ≡ attempts_from A place ds r n k (begin_of first)
  by_outcome zero k first = refl
  by_outcome (suc n) k first = refl

  pub turn : (n k j : ℕ) (first : Option Tried) → j ≡ suc k → k + n ≡ further r →
      IsTurn n k (pod_made A (attempt place k) ds) (attempts_from A place ds r n k (begin_of first)) (followed A place ds r k j first)
  turn n k j first next e =
      let here = pod_made A (attempt place k) ds in
      let at : IsTurn n k here (attempts_from A place ds r n k (begin_of first)) (followed A place ds r k (suc k) first) =
      subst (λ (a : Attempts). IsTurn n k here a (followed A place ds r k (suc k) first)) (by_outcome n k first) (turn_by n k first (A.outcome (attempt place k)) e) in
      subst (λ (i : ℕ). IsTurn n k here (attempts_from A place ds r n k (begin_of first)) (followed A place ds r k i first)) (sym next) at
