-- The grammars of what a retry and a ConfigMap say (field reference, `RetryStrategy` and `Backoff`). The form of numbers and their
-- limits are this project's own.
use Rattle.std.specs.Prelude.{ℕ, nat_lt, nat_le, Bool, ◌&&◌, ◌||◌, if◌then◌else◌, List, length, Option, Some, None, bytes_eq, codes}
use Rattle.std.specs.Result.{result_ok}
use Rattle.std.specs.List.{list_all}
use Rattle.std.specs.Char.{is_ascii_digit}
use Rattle.std.specs.Str.Parse.{digits_value}
use Rattle.base_types.specs.Limits.{most_retries, most_factor, most_holders}
use Rattle.time_text.specs.Durations.{duration_of}
use Rattle.wf_manifest.specs.declared.templates.Policy.{Policy}
use Rattle.wf_manifest.specs.declared.templates.Policy.TheVariants as policy
use Rattle.template_reader.specs.Limits.{most_digits, least_factor}

-- 1 to 4 digits
abbrev pub is_short_number : List ℕ → Bool
is_short_number t = nat_lt 0 (length t) && nat_le (length t) most_digits && list_all is_ascii_digit t

abbrev pub within : ℕ → ℕ → ℕ → Option ℕ
within low high n = if nat_lt n low || nat_lt high n then None else Some n

-- they say a number from low to high
abbrev pub number_within : ℕ → ℕ → List ℕ → Option ℕ
number_within low high t = if is_short_number t then within low high (digits_value 10 t) else None

abbrev pub retry_limit : List ℕ → Option ℕ
retry_limit = number_within 0 most_retries

-- the holders that a ConfigMap allows a semaphore (field reference, `SemaphoreRef`)
abbrev pub lock_limit : List ℕ → Option ℕ
lock_limit = number_within 0 most_holders

abbrev pub backoff_factor : List ℕ → Option ℕ
backoff_factor = number_within least_factor most_factor

-- a span of time in seconds
abbrev pub seconds : List ℕ → Option ℕ
seconds t = result_ok (duration_of t)

abbrev pub policy_named : List ℕ → Option Policy
policy_named t =
    if bytes_eq t (codes "OnFailure") then Some policy.OnFailure
    else (if bytes_eq t (codes "OnError") then Some policy.OnError
    else (if bytes_eq t (codes "Always") then Some policy.Always
    else (if bytes_eq t (codes "OnTransientError") then Some policy.OnTransientError else None)))
