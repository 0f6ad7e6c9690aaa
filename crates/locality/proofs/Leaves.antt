-- Pods, attempts and suspended nodes, where the same is answered.
use Rattle.std.proofs.Common.{◌≡◌, ℕ, zero, suc, [], ◌∷◌, List, Bool, true, false, ◌||◌, Option, Some, None, Ok, Err, take, refl, sym, ap, ◌∙◌, arith}
use Rattle.tree_types.specs.declared.path.Sel.TheVariants.{Attempt}
use Rattle.tree_types.specs.declared.node.Note.{Note}
use Rattle.tree_types.specs.declared.outcome.Outcome.{Outcome}
use Rattle.tag_text.specs.declared.part.Part.{Part}
use Rattle.wf_manifest.specs.declared.templates.OutputDecl.{OutputDecl}
use Rattle.wf_manifest.specs.declared.templates.Backoff.{Backoff}
use Rattle.wf_manifest.specs.declared.templates.Retry.{Retry}
use Rattle.scopes.specs.Substitution.{Found, Scope}
use Rattle.meaning.specs.declared.lines.Place.{Place}
use Rattle.meaning.specs.Answers.{Answers}
use Rattle.meaning.specs.Lines.{Made}
use Rattle.meaning.specs.Pods.{pod_by, Attempts, ends_with, before_attempts, first_begin, further, attempt, may_start, ended_attempt, started_by, retried_by, follows, attempt_by, attempts_from, retry_by, retry_made}
use Rattle.meaning.specs.Suspends.{seconds_of, suspend_by, suspended, suspend_made}
use Rattle.locality.specs.Answered.{SameBelow}
use Rattle.locality.specs.Local.{SameChildren, PodsAreLocal, SuspendedAreLocal, AttemptsAreLocal, FirstAttemptsAreLocal}
use Rattle.locality.proofs.Paths.{begins_itself}
use Rattle.locality.proofs.Answered.{same_further}

-- ---- one node

pub pods_are_local : PodsAreLocal
pods_are_local A B place ds same = ap (pod_by place ds) (same.outcome place (begins_itself place.sels))

-- a suspended node, by what is answered at its own path
pub suspended_by_own : (A B : Answers) (place : Place) (scope : Scope) (ds : List OutputDecl) (duration : Option (List Part)) → A.armed place.sels ≡ B.armed place.sels → A.due place.sels ≡ B.due place.sels → A.resumed place.sels ≡ B.resumed place.sels
    → suspend_made A place scope ds duration ≡ suspend_made B place scope ds duration
suspended_by_own A B place scope ds duration armed due resumed = go (seconds_of scope duration)
  where
    go : (f : Found (Option ℕ)) → suspended A place ds f ≡ suspended B place ds f
    go (Err fault) = refl
    go (Ok seconds) = λ i. suspend_by place ds seconds (armed i) (due i || resumed i)

pub suspended_are_local : SuspendedAreLocal
suspended_are_local A B place scope ds duration same =
    let here = begins_itself place.sels in
    suspended_by_own A B place scope ds duration (same.armed place.sels here) (same.due place.sels here) (same.resumed place.sels here)

-- ---- attempts

module _ (A B : Answers) (place : Place) (ds : List OutputDecl) (r : Retry) where
  outcome_same : (k : ℕ) → SameBelow A B (attempt place k).sels → A.outcome (attempt place k) ≡ B.outcome (attempt place k)
  outcome_same k same = same.outcome (attempt place k) (begins_itself (attempt place k).sels)

  may_same : (b : Option Backoff) (k : ℕ) → SameBelow A B (attempt place k).sels → may_start A place b k ≡ may_start B place b k
  may_same None k same = refl
  may_same (Some b) k same = same.due (attempt place k).sels (begins_itself (attempt place k).sels)

  module _ (k : ℕ) (next : SameBelow A B (attempt place (suc k)).sels) (rest more : ℕ → Attempts) (after : (begin : ℕ) → rest begin ≡ more begin) where
    started_same : (o : Note × Outcome) (begin : ℕ) (starts : Bool) → started_by A place ds r k o begin rest starts ≡ started_by B place ds r k o begin more starts
    started_same o begin false = refl
    started_same o begin true = ap (before_attempts (ended_attempt place ds k o)) (after begin)

    retried_same : (o : Note × Outcome) (begin : ℕ) (again : Bool) → retried_by A place ds r k o begin rest again ≡ retried_by B place ds r k o begin more again
    retried_same o begin false = refl
    retried_same o begin true =
        ap (started_by A place ds r k o begin rest) (may_same r.backoff (suc k) next) ∙ started_same o begin (may_start B place r.backoff (suc k))

    attempt_same : (first : Option ℕ) (o : Option (Note × Outcome)) → attempt_by A place ds r k first rest o ≡ attempt_by B place ds r k first more o
    attempt_same first None = refl
    attempt_same first (Some o) =
        let begin : ℕ = first_begin first o.1 in retried_same o begin (follows place ds r o k begin)

  attempts_same : (n k : ℕ) (first : Option ℕ) → SameChildren A B place Attempt k (suc n) → attempts_from A place ds r n k first ≡ attempts_from B place ds r n k first
  attempts_same zero k first same =
      ap (λ (m : Made). ends_with m m.own.finished) (pods_are_local A B (attempt place k) ds (same k (omega arith) (omega arith)))
  attempts_same (suc n) k first same =
      let rest : ℕ → Attempts = λ begin. attempts_from A place ds r n (suc k) (Some begin) in
      let more : ℕ → Attempts = λ begin. attempts_from B place ds r n (suc k) (Some begin) in
      ap (attempt_by A place ds r k first rest) (outcome_same k (same k (omega arith) (omega arith)))
      ∙ attempt_same k (same (suc k) (omega arith) (omega arith)) rest more (λ begin. attempts_same n (suc k) (Some begin) (λ j l u. same j (omega arith) (omega arith))) first (B.outcome (attempt place k))

  -- ---- the first attempts

  abbrev firsts : ℕ → Attempts → List Made
  firsts tried a = take tried a.all

  -- the first one alone is the same, whether another follows or waits
  one_first : (C : Answers) (k : ℕ) (o : Note × Outcome) (begin : ℕ) (rest : ℕ → Attempts) (starts : Bool) → firsts 1 (started_by C place ds r k o begin rest starts) ≡ ended_attempt place ds k o ∷ []
  one_first C k o begin rest false = refl
  one_first C k o begin rest true = refl

  started_firsts : (k tried : ℕ) (o : Note × Outcome) (begin : ℕ) (rest more : ℕ → Attempts) → firsts tried (rest begin) ≡ firsts tried (more begin) → (starts : Bool)
      → firsts (suc tried) (started_by A place ds r k o begin rest starts) ≡ firsts (suc tried) (started_by B place ds r k o begin more starts)
  started_firsts k tried o begin rest more after false = refl
  started_firsts k tried o begin rest more after true = ap (λ (ms : List Made). ended_attempt place ds k o ∷ ms) after

  may_firsts : (k tried : ℕ) (o : Note × Outcome) (begin : ℕ) (rest more : ℕ → Attempts) → firsts tried (rest begin) ≡ firsts tried (more begin) → SameChildren A B place Attempt (suc k) tried
      → firsts (suc tried) (started_by A place ds r k o begin rest (may_start A place r.backoff (suc k))) ≡ firsts (suc tried) (started_by B place ds r k o begin more (may_start B place r.backoff (suc k)))
  may_firsts k zero o begin rest more after next =
      one_first A k o begin rest (may_start A place r.backoff (suc k)) ∙ sym (one_first B k o begin more (may_start B place r.backoff (suc k)))
  may_firsts k (suc tried) o begin rest more after next =
      ap (λ (b : Bool). firsts (suc (suc tried)) (started_by A place ds r k o begin rest b)) (may_same r.backoff (suc k) (next (suc k) (omega arith) (omega arith)))
      ∙ started_firsts k (suc tried) o begin rest more after (may_start B place r.backoff (suc k))

  retried_firsts : (k tried : ℕ) (o : Note × Outcome) (begin : ℕ) (rest more : ℕ → Attempts) → firsts tried (rest begin) ≡ firsts tried (more begin) → SameChildren A B place Attempt (suc k) tried → (again : Bool)
      → firsts (suc tried) (retried_by A place ds r k o begin rest again) ≡ firsts (suc tried) (retried_by B place ds r k o begin more again)
  retried_firsts k tried o begin rest more after next false = refl
  retried_firsts k tried o begin rest more after next true = may_firsts k tried o begin rest more after next

  attempt_firsts : (k tried : ℕ) (first : Option ℕ) (rest more : ℕ → Attempts) → ((begin : ℕ) → firsts tried (rest begin) ≡ firsts tried (more begin)) → SameChildren A B place Attempt (suc k) tried → (o : Option (Note × Outcome))
      → firsts (suc tried) (attempt_by A place ds r k first rest o) ≡ firsts (suc tried) (attempt_by B place ds r k first more o)
  attempt_firsts k tried first rest more after next None = refl
  attempt_firsts k tried first rest more after next (Some o) =
      let begin : ℕ = first_begin first o.1 in
      retried_firsts k tried o begin rest more (after begin) next (follows place ds r o k begin)

  firsts_same : (n k : ℕ) (first : Option ℕ) (tried : ℕ) → SameChildren A B place Attempt k tried → firsts tried (attempts_from A place ds r n k first) ≡ firsts tried (attempts_from B place ds r n k first)
  firsts_same n k first zero same = refl
  firsts_same zero k first (suc tried) same =
      ap (λ (m : Made). firsts (suc tried) (ends_with m m.own.finished)) (pods_are_local A B (attempt place k) ds (same k (omega arith) (omega arith)))
  firsts_same (suc n) k first (suc tried) same =
      let rest : ℕ → Attempts = λ begin. attempts_from A place ds r n (suc k) (Some begin) in
      let more : ℕ → Attempts = λ begin. attempts_from B place ds r n (suc k) (Some begin) in
      let next : SameChildren A B place Attempt (suc k) tried = λ j l u. same j (omega arith) (omega arith) in
      ap (λ (o : Option (Note × Outcome)). firsts (suc tried) (attempt_by A place ds r k first rest o)) (outcome_same k (same k (omega arith) (omega arith)))
      ∙ attempt_firsts k tried first rest more (λ begin. firsts_same n (suc k) (Some begin) tried next) next (B.outcome (attempt place k))

pub attempts_are_local : AttemptsAreLocal
attempts_are_local A B place ds r n k first same = attempts_same A B place ds r n k first same

pub first_attempts_are_local : FirstAttemptsAreLocal
first_attempts_are_local A B place ds r n k first tried same = firsts_same A B place ds r n k first tried same

-- all attempts of a retry
pub retry_same : (A B : Answers) (place : Place) (ds : List OutputDecl) (r : Retry) → SameBelow A B place.sels → retry_made A place ds r ≡ retry_made B place ds r
retry_same A B place ds r same =
    ap (retry_by place) (attempts_same A B place ds r (further r) 0 None (λ j l u. same_further A B place.sels (Attempt j ∷ []) same))
