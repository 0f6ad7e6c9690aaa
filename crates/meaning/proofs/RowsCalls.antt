-- Worked examples of conditions, locks, memoized templates and resubmissions.
use Rattle.std.proofs.Common.{◌≡◌, refl}
use Rattle.std.specs.Fmt.{digits}
use Rattle.std.specs.Prelude.{List, [], ◌∷◌, Some, None, codes}
use Rattle.tree_types.specs.declared.path.Sel.TheVariants.{Main, Group, Step}
use Rattle.tree_types.specs.declared.fact.Fact.{Fact}
use Rattle.tree_types.specs.declared.fact.Fact.TheVariants.{Started, Carried, Granted, Memo, Armed, Due}
use Rattle.tree_types.specs.declared.want.Want.TheVariants as want
use Rattle.tag_text.specs.Parts.{parts_of}
use Rattle.wf_manifest.specs.declared.templates.Body.TheVariants as body
use Rattle.wf_manifest.specs.declared.templates.Template.{Template}
use Rattle.wf_manifest.specs.declared.manifest.Manifest.{Manifest}
use Rattle.meaning.specs.Answers.{path, MemoAnswer}
use Rattle.meaning.specs.Lines.{no_outputs}
use Rattle.meaning.specs.Trees.{wants}
use Rattle.meaning.proofs.Samples.{template, workflow_of, workflow, call, call_when, mutex, succeeded, failed, settled, printed}

-- ---- conditions over a result

abbrev coin : Manifest
coin =
    workflow (codes "coin")
    (body.Steps
    ((call (codes "flip") ∷ [])
    ∷ (call_when (codes "heads") (codes "{{steps.flip.outputs.result}} == heads")
    ∷ call_when (codes "tails") (codes "{{steps.flip.outputs.result}} == tails") ∷ []) ∷ []))

pub heads : printed coin
    (Started ∷ settled (Group 0 ∷ Step 0 ∷ []) (record succeeded { result = Some (codes "heads") })
    ∷ settled (Group 1 ∷ Step 0 ∷ []) succeeded ∷ [])
    ≡ codes "workflow coin Succeeded"
    ∷ codes "  Succeeded Steps coin"
    ∷ codes "    Succeeded StepGroup coin[0]"
    ∷ codes "      Succeeded Pod coin[0].flip"
    ∷ codes "    Succeeded StepGroup coin[1]"
    ∷ codes "      Succeeded Pod coin[1].heads"
    ∷ codes "      Skipped Skipped coin[1].tails -- when is false"
    ∷ []
unfolding digits
heads = refl

-- ---- a workflow's lock, and that of its entry template

abbrev locked_container : Template
locked_container = record (template (codes "main") body.Pod) { lock = Some (mutex (codes "m")) }

abbrev locked : Manifest
locked = record (workflow_of (codes "y") (locked_container ∷ [])) { lock = Some (mutex (codes "m")) }

-- before it is started its root stands alone, without a note, though it has a lock
pub not_started : printed locked [] ≡ codes "workflow y Pending" ∷ codes "  Pending Pod y" ∷ []
unfolding digits
not_started = refl

-- once it is started it waits for its own lock
pub the_root_waits : printed locked (Started ∷ [])
    ≡ codes "workflow y Pending" ∷ codes "  Pending Pod y -- waiting for mutex/m" ∷ []
unfolding digits
the_root_waits = refl

-- which is asked for at the empty path
pub the_workflow_waits : wants locked (Started ∷ []) ≡ want.Lock (path []) (mutex (codes "m")) ∷ []
unfolding digits
the_workflow_waits = refl

pub the_pod_waits : wants locked (Started ∷ Granted (path []) ∷ [])
    ≡ want.Lock (path (Main ∷ [])) (mutex (codes "m")) ∷ []
unfolding digits
the_pod_waits = refl

pub waiting_for_its_own_lock : printed locked (Started ∷ Granted (path []) ∷ [])
    ≡ codes "workflow y Running" ∷ codes "  Pending Pod y -- waiting for mutex/m" ∷ []
unfolding digits
waiting_for_its_own_lock = refl

-- ---- a memoized template behind a suspended step

abbrev memoized : Template
memoized = record (template (codes "m") body.Pod) {
  memoize = Some (record { key = parts_of (codes "k"); max_age = Some 10; cache = codes "mc" });
}

abbrev remembering : Manifest
remembering =
    workflow_of (codes "b")
    (template (codes "main")
    (body.Steps
    ((record (call (codes "wait")) { template = codes "w" } ∷ [])
    ∷ (record (call (codes "use")) { template = codes "m" } ∷ []) ∷ []))
    ∷ template (codes "w") (body.Suspend (Some (parts_of (codes "10")))) ∷ memoized ∷ [])

abbrev waited : List Fact
waited = Started ∷ Armed (path (Main ∷ Group 0 ∷ Step 0 ∷ [])) 0 ∷ Due (path (Main ∷ Group 0 ∷ Step 0 ∷ [])) ∷ []

-- what the cache answered after the wait
abbrev answered : MemoAnswer → List Fact → List Fact
answered a rest =
    Started ∷ Armed (path (Main ∷ Group 0 ∷ Step 0 ∷ [])) 0 ∷ Due (path (Main ∷ Group 0 ∷ Step 0 ∷ []))
    ∷ Memo (path (Main ∷ Group 1 ∷ Step 0 ∷ [])) a ∷ rest

-- a node that missed and then failed is not saved
pub a_failure_is_not_saved : wants remembering (answered None (settled (Group 1 ∷ Step 0 ∷ []) failed ∷ [])) ≡ []
unfolding digits
a_failure_is_not_saved = refl

-- behind the wait its cache is asked
pub it_looks : wants remembering waited
    ≡ want.LookUp (path (Main ∷ Group 1 ∷ Step 0 ∷ [])) (codes "mc") (codes "k") (Some 10) ∷ []
unfolding digits
it_looks = refl

pub a_hit : printed remembering (answered (Some no_outputs) [])
    ≡ codes "workflow b Succeeded"
    ∷ codes "  Succeeded Steps b"
    ∷ codes "    Succeeded StepGroup b[0]"
    ∷ codes "      Succeeded Suspend b[0].wait"
    ∷ codes "    Succeeded StepGroup b[1]"
    ∷ codes "      Succeeded Pod b[1].use -- hit mc k"
    ∷ []
unfolding digits
a_hit = refl

pub a_miss : printed remembering (answered None (settled (Group 1 ∷ Step 0 ∷ []) succeeded ∷ []))
    ≡ codes "workflow b Succeeded"
    ∷ codes "  Succeeded Steps b"
    ∷ codes "    Succeeded StepGroup b[0]"
    ∷ codes "      Succeeded Suspend b[0].wait"
    ∷ codes "    Succeeded StepGroup b[1]"
    ∷ codes "      Succeeded Pod b[1].use"
    ∷ []
unfolding digits
a_miss = refl

pub a_miss_is_saved : wants remembering (answered None (settled (Group 1 ∷ Step 0 ∷ []) succeeded ∷ []))
    ≡ want.Save (path (Main ∷ Group 1 ∷ Step 0 ∷ [])) (codes "mc") (codes "k") no_outputs ∷ []
unfolding digits
a_miss_is_saved = refl

-- ---- an outcome that is carried over from an older workflow

pub carried_over : printed (workflow (codes "s2") (body.Steps ((call (codes "a") ∷ []) ∷ (call (codes "b") ∷ []) ∷ [])))
    (Carried (path (Main ∷ Group 0 ∷ Step 0 ∷ [])) succeeded ∷ Started ∷ settled (Group 1 ∷ Step 0 ∷ []) succeeded ∷ [])
    ≡ codes "workflow s2 Succeeded"
    ∷ codes "  Succeeded Steps s2"
    ∷ codes "    Succeeded StepGroup s2[0]"
    ∷ codes "      Succeeded Pod s2[0].a -- carried"
    ∷ codes "    Succeeded StepGroup s2[1]"
    ∷ codes "      Succeeded Pod s2[1].b"
    ∷ []
unfolding digits
carried_over = refl
