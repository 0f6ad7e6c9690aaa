-- Worked examples of retries, suspended nodes, exit handlers and exit hooks.
use Rattle.std.proofs.Common.{◌≡◌, refl}
use Rattle.std.specs.Fmt.{digits}
use Rattle.std.specs.Prelude.{ℕ, [], ◌∷◌, false, Some, None, codes}
use Rattle.tree_types.specs.declared.path.Sel.TheVariants.{Main, Exit, Group, Step, Attempt}
use Rattle.tree_types.specs.declared.fact.Fact.{Fact}
use Rattle.tree_types.specs.declared.fact.Fact.TheVariants.{Started, Settled, Due, Armed, Resumed}
use Rattle.tree_types.specs.declared.want.Want.TheVariants as want
use Rattle.tag_text.specs.Parts.{parts_of}
use Rattle.wf_manifest.specs.declared.calls.Call.{Call}
use Rattle.wf_manifest.specs.declared.templates.Policy.{Policy}
use Rattle.wf_manifest.specs.declared.templates.Policy.TheVariants.{OnFailure, OnError}
use Rattle.wf_manifest.specs.declared.templates.Body.TheVariants as body
use Rattle.wf_manifest.specs.declared.manifest.Manifest.{Manifest}
use Rattle.meaning.specs.Answers.{path}
use Rattle.meaning.specs.Trees.{wants}
use Rattle.meaning.proofs.Samples.{template, workflow_of, workflow, call, succeeded, failed, settled, printed}

-- ---- retries

abbrev retried : Policy → ℕ → Manifest
retried policy limit =
    workflow_of (codes "r")
    (record (template (codes "main") body.Pod) {
      retry = Some (record {
        limit = Some limit;
        policy = policy;
        backoff = Some (record { duration = 5; factor = 2; max_duration = None });
      });
    } ∷ [])

-- attempt k fails at a tick at which it also began
abbrev attempt_failed : ℕ → ℕ → Fact
attempt_failed k tick = settled (Attempt k ∷ []) (record failed { begin = tick; finish = tick })

abbrev due : ℕ → Fact
due k = Due (path (Main ∷ Attempt k ∷ []))

-- the third attempt waits for ten seconds from tick 5 on
pub a_next_attempt_waits : wants (retried OnFailure 2) (Started ∷ attempt_failed 0 0 ∷ due 1 ∷ attempt_failed 1 5 ∷ [])
    ≡ want.Timer (path (Main ∷ Attempt 2 ∷ [])) 15 ∷ []
unfolding digits
a_next_attempt_waits = refl

pub three_attempts : printed (retried OnFailure 2)
    (Started ∷ attempt_failed 0 0 ∷ due 1 ∷ attempt_failed 1 5 ∷ due 2 ∷ settled (Attempt 2 ∷ []) succeeded ∷ [])
    ≡ codes "workflow r Succeeded"
    ∷ codes "  Succeeded Retry r"
    ∷ codes "    Failed Pod r(0)"
    ∷ codes "    Failed Pod r(1)"
    ∷ codes "    Succeeded Pod r(2)"
    ∷ []
unfolding digits
three_attempts = refl

pub limit_0 : printed (retried OnFailure 0) (Started ∷ attempt_failed 0 0 ∷ [])
    ≡ codes "workflow r Failed" ∷ codes "  Failed Retry r" ∷ codes "    Failed Pod r(0)" ∷ []
unfolding digits
limit_0 = refl

pub another_policy : printed (retried OnError 2) (Started ∷ attempt_failed 0 0 ∷ [])
    ≡ codes "workflow r Failed" ∷ codes "  Failed Retry r" ∷ codes "    Failed Pod r(0)" ∷ []
unfolding digits
another_policy = refl

-- ---- suspended nodes

abbrev suspended : Manifest
suspended = workflow (codes "u") (body.Suspend (Some (parts_of (codes "20"))))

abbrev armed : Fact
armed = Armed (path (Main ∷ [])) 0

pub first_it_is_armed : wants suspended (Started ∷ []) ≡ want.Arming (path (Main ∷ [])) ∷ []
unfolding digits
first_it_is_armed = refl

pub then_it_waits : wants suspended (Started ∷ armed ∷ []) ≡ want.Timer (path (Main ∷ [])) 20 ∷ []
unfolding digits
then_it_waits = refl

pub resumed : printed suspended (Started ∷ armed ∷ Resumed (path (Main ∷ [])) ∷ [])
    ≡ codes "workflow u Succeeded" ∷ codes "  Succeeded Suspend u" ∷ []
unfolding digits
resumed = refl

pub due_at_20 : printed suspended (Started ∷ armed ∷ Due (path (Main ∷ [])) ∷ [])
    ≡ codes "workflow u Succeeded" ∷ codes "  Succeeded Suspend u" ∷ []
unfolding digits
due_at_20 = refl

-- ---- exit handlers and exit hooks

pub a_failed_exit_handler : printed (record (workflow (codes "x") body.Pod) { on_exit = Some (codes "c") })
    (Started ∷ settled [] succeeded ∷ Settled (path (Exit ∷ [])) failed ∷ [])
    ≡ codes "workflow x Failed" ∷ codes "  Succeeded Pod x" ∷ codes "  Failed Pod x.onExit" ∷ []
unfolding digits
a_failed_exit_handler = refl

abbrev hooked_a : Call
hooked_a = record (call (codes "a")) { exit = Some (record { template = codes "c"; arguments = []; short = false }) }

pub an_exit_hook : printed (workflow (codes "h") (body.Steps ((hooked_a ∷ []) ∷ [])))
    (Started ∷ settled (Group 0 ∷ Step 0 ∷ []) failed ∷ settled (Group 0 ∷ Step 0 ∷ Exit ∷ []) succeeded ∷ [])
    ≡ codes "workflow h Failed"
    ∷ codes "  Failed Steps h"
    ∷ codes "    Failed StepGroup h[0]"
    ∷ codes "      Failed Pod h[0].a"
    ∷ codes "        Succeeded Pod h[0].a.onExit"
    ∷ []
unfolding digits
an_exit_hook = refl
