-- Worked examples of retries: which ends are tried again, for how long, and how often.
use Rattle.std.proofs.Common.{◌≡◌, refl}
use Rattle.std.specs.Fmt.{digits}
use Rattle.std.specs.Prelude.{ℕ, List, [], ◌∷◌, true, Option, Some, None, length, codes}
use Rattle.std.specs.List.{list_all}
use Rattle.tree_types.specs.declared.path.Sel.TheVariants.{Main, Attempt}
use Rattle.tree_types.specs.declared.outcome.Outcome.{Outcome}
use Rattle.tree_types.specs.declared.node.Node.{Node}
use Rattle.tree_types.specs.declared.fact.Fact.{Fact}
use Rattle.tree_types.specs.declared.fact.Fact.TheVariants.{Started, Due}
use Rattle.tree_types.specs.declared.want.Want.TheVariants as want
use Rattle.tree_types.specs.Phases.{is_failed}
use Rattle.wf_manifest.specs.declared.templates.Policy.{Policy}
use Rattle.wf_manifest.specs.declared.templates.Policy.TheVariants.{OnFailure, OnError, Always, OnTransientError}
use Rattle.wf_manifest.specs.declared.templates.Retry.{Retry}
use Rattle.wf_manifest.specs.declared.templates.Template.{Template}
use Rattle.wf_manifest.specs.declared.templates.Body.TheVariants as body
use Rattle.wf_manifest.specs.declared.manifest.Manifest.{Manifest}
use Rattle.meaning.specs.Answers.{path}
use Rattle.meaning.specs.Trees.{wants}
use Rattle.meaning.specs.Plain.{plain}
use Rattle.meaning.proofs.Samples.{template, workflow_of, declared, succeeded, failed, errored, settled, printed}

abbrev retried : Retry → Template
retried r = record (template (codes "main") body.Pod) { retry = Some r }

abbrev with_retry : Retry → Manifest
with_retry r = workflow_of (codes "r") (retried r ∷ [])

-- one more attempt, at once
abbrev once_more : Policy → Manifest
once_more policy = with_retry (record { limit = Some 1; policy = policy; backoff = None })

abbrev ended : ℕ → Outcome → Fact
ended k o = settled (Attempt k ∷ []) o

abbrev transient : Outcome
transient = record errored { transient = true }

-- ---- what each policy tries again

-- the lines of one attempt that failed, and of a second one that runs
abbrev a_second_one : List ℕ → List (List ℕ)
a_second_one first = codes "workflow r Running" ∷ codes "  Running Retry r" ∷ first ∷ codes "    Running Pod r(1)" ∷ []

-- OnFailure does not try an Error again
pub on_failure_after_an_error : printed (once_more OnFailure) (Started ∷ ended 0 errored ∷ [])
    ≡ codes "workflow r Error" ∷ codes "  Error Retry r" ∷ codes "    Error Pod r(0)" ∷ []
unfolding digits
on_failure_after_an_error = refl

-- OnError does
pub on_error_after_an_error : printed (once_more OnError) (Started ∷ ended 0 errored ∷ [])
    ≡ a_second_one (codes "    Error Pod r(0)")
unfolding digits
on_error_after_an_error = refl

-- Always tries both again: a failure
pub always_after_a_failure : printed (once_more Always) (Started ∷ ended 0 failed ∷ [])
    ≡ a_second_one (codes "    Failed Pod r(0)")
unfolding digits
always_after_a_failure = refl

-- and an Error
pub always_after_an_error : printed (once_more Always) (Started ∷ ended 0 errored ∷ [])
    ≡ a_second_one (codes "    Error Pod r(0)")
unfolding digits
always_after_an_error = refl

-- OnTransientError tries an Error again that is marked transient
pub on_transient_error_after_a_transient_one : printed (once_more OnTransientError) (Started ∷ ended 0 transient ∷ [])
    ≡ a_second_one (codes "    Error Pod r(0)")
unfolding digits
on_transient_error_after_a_transient_one = refl

-- and no other Error
pub on_transient_error_after_another_one : printed (once_more OnTransientError) (Started ∷ ended 0 errored ∷ [])
    ≡ codes "workflow r Error" ∷ codes "  Error Retry r" ∷ codes "    Error Pod r(0)" ∷ []
unfolding digits
on_transient_error_after_another_one = refl

-- a failure is no error, be it marked or not
pub on_transient_error_after_a_failure : printed (once_more OnTransientError)
    (Started ∷ ended 0 (record failed { transient = true }) ∷ [])
    ≡ codes "workflow r Failed" ∷ codes "  Failed Retry r" ∷ codes "    Failed Pod r(0)" ∷ []
unfolding digits
on_transient_error_after_a_failure = refl

-- ---- an attempt that is Error for want of an output

-- the pod declares q, which has no default
abbrev lacking : Policy → Manifest
lacking policy =
    workflow_of (codes "r")
    (record (retried (record { limit = Some 1; policy = policy; backoff = None })) {
      outputs = declared (codes "q") None ∷ [];
    } ∷ [])

-- it is tried again as an Error is
pub a_missing_output_is_tried_again : printed (lacking OnError) (Started ∷ ended 0 succeeded ∷ [])
    ≡ a_second_one (codes "    Error Pod r(0) -- missing output q")
unfolding digits
a_missing_output_is_tried_again = refl

-- but it is never transient, whatever its outcome says; the Retry node itself has no note
pub a_missing_output_is_not_transient : printed (lacking OnTransientError)
    (Started ∷ ended 0 (record succeeded { transient = true }) ∷ [])
    ≡ codes "workflow r Error" ∷ codes "  Error Retry r" ∷ codes "    Error Pod r(0) -- missing output q" ∷ []
unfolding digits
a_missing_output_is_not_transient = refl

-- ---- `maxDuration`

-- waits of 5, 10, 20 .. seconds, for at most 10 seconds after the first attempt began
abbrev for_10_seconds : Manifest
for_10_seconds =
    with_retry (record {
      limit = Some 5;
      policy = OnFailure;
      backoff = Some (record { duration = 5; factor = 2; max_duration = Some 10 });
    })

abbrev attempt_failed : ℕ → ℕ → ℕ → Fact
attempt_failed k begin finish = ended k (record failed { begin = begin; finish = finish })

abbrev due : ℕ → Fact
due k = Due (path (Main ∷ Attempt k ∷ []))

-- the second one finishes 9 seconds after the first began, which is less than 10: the third is due at 109 + 10
pub still_in_time : wants for_10_seconds (Started ∷ attempt_failed 0 100 101 ∷ due 1 ∷ attempt_failed 1 106 109 ∷ [])
    ≡ want.Timer (path (Main ∷ Attempt 2 ∷ [])) 119 ∷ []
unfolding digits
still_in_time = refl

-- 10 seconds after it, the duration is reached: none follows, though the limit would permit it
pub out_of_time : printed for_10_seconds (Started ∷ attempt_failed 0 100 101 ∷ due 1 ∷ attempt_failed 1 106 110 ∷ [])
    ≡ codes "workflow r Failed"
    ∷ codes "  Failed Retry r"
    ∷ codes "    Failed Pod r(0)"
    ∷ codes "    Failed Pod r(1)"
    ∷ []
unfolding digits
out_of_time = refl

-- so no timer is asked for then
pub nothing_is_asked_for_then : wants for_10_seconds
    (Started ∷ attempt_failed 0 100 101 ∷ due 1 ∷ attempt_failed 1 106 110 ∷ []) ≡ []
unfolding digits
nothing_is_asked_for_then = refl

-- ---- waits

-- 300 days, then ten times as much: a wait is cut at 365 days
pub a_wait_is_cut : wants
    (with_retry (record {
      limit = Some 5;
      policy = OnFailure;
      backoff = Some (record { duration = 25920000; factor = 10; max_duration = None });
    }))
    (Started ∷ attempt_failed 0 0 0 ∷ due 1 ∷ attempt_failed 1 7 7 ∷ [])
    ≡ want.Timer (path (Main ∷ Attempt 2 ∷ [])) 31536007 ∷ []
unfolding digits
a_wait_is_cut = refl

-- with a `backoff`, the next attempt does not start before its timer was due, though it waits for 0 seconds
pub a_wait_of_0_seconds : wants
    (with_retry (record {
      limit = None;
      policy = OnFailure;
      backoff = Some (record { duration = 0; factor = 1; max_duration = None });
    }))
    (Started ∷ attempt_failed 0 0 3 ∷ [])
    ≡ want.Timer (path (Main ∷ Attempt 1 ∷ [])) 3 ∷ []
unfolding digits
a_wait_of_0_seconds = refl

-- ---- how often

-- all pods fail: the Retry node and its attempts
abbrev all_fail : Option ℕ → List Node
all_fail limit = plain (with_retry (record { limit = limit; policy = OnFailure; backoff = None })) (λ name. Some failed)

-- limit 2: three attempts
pub limit_2 : length (all_fail (Some 2)) ≡ 4
unfolding digits
limit_2 = refl

-- without a limit: 100 attempts
pub no_limit : length (all_fail None) ≡ 101
unfolding digits
no_limit = refl

-- the hundredth is the last: the Retry node does not run on
pub none_runs_on : list_all (λ (n : Node). is_failed n.phase) (all_fail None) ≡ true
unfolding digits
none_runs_on = refl

-- a limit may be above 100
pub limit_150 : length (all_fail (Some 150)) ≡ 152
unfolding digits
limit_150 = refl
