-- What follows the attempts of a retry that have ended (field reference, `RetryStrategy` and `Backoff`).
use Rattle.std.specs.Prelude.{ℕ, List, [], ◌∷◌, length, Bool, true, false, ◌&&◌, nat_le, get_or, Option, Some, None}
use Rattle.wf_manifest.specs.declared.templates.Backoff.{Backoff}
use Rattle.wf_manifest.specs.declared.templates.Retry.{Retry}
use Rattle.meaning.specs.Pods.{retries, time_left, further, due_tick}
use Rattle.retry_policy.specs.declared.attempts.Tried.{Tried}
use Rattle.retry_policy.specs.declared.attempts.AttemptStep.{AttemptStep}
use Rattle.retry_policy.specs.declared.attempts.AttemptStep.TheVariants.{Over, At, Now}

-- the policy tries the last attempt again, and less than `maxDuration` lies behind the first one's begin
abbrev pub tried_again : Retry → Tried → Tried → Bool
tried_again r first last = retries r.policy last.phase last.transient && time_left r.backoff first.begin last.finish

-- attempt k begins at once, but under a `backoff` only once its timer was due
abbrev pub starts_at : Option Backoff → ℕ → ℕ → Bool → AttemptStep
starts_at None finish k due = Now k
starts_at (Some b) finish k true = Now k
starts_at (Some b) finish k false = At k (due_tick (Some b) finish k)

abbrev pub next_if : Bool → Retry → Tried → ℕ → Bool → AttemptStep
next_if false r last k due = Over
next_if true r last k due = starts_at r.backoff last.finish k due

-- behind k attempts attempt k follows, where the limit lets it
abbrev pub next_by : Retry → Tried → Tried → ℕ → Bool → AttemptStep
next_by r first last k due = next_if (nat_le k (further r) && tried_again r first last) r last k due

-- what follows the attempts that have ended
abbrev pub next : Retry → List Tried → Bool → AttemptStep
next r [] due = Now 0
next r (t ∷ ts) due = next_by r t (get_or (t ∷ ts) (length ts) t) (length (t ∷ ts)) due
