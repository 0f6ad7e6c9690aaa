-- Worked examples of steps.
use Rattle.std.proofs.Common.{◌≡◌, refl}
use Rattle.std.specs.Fmt.{digits}
use Rattle.std.specs.Prelude.{List, [], ◌∷◌, true, false, Some, codes}
use Rattle.tree_types.specs.declared.path.Sel.TheVariants.{Main, Group, Step}
use Rattle.tree_types.specs.declared.fact.Fact.{Fact}
use Rattle.tree_types.specs.declared.fact.Fact.TheVariants.{Started}
use Rattle.tree_types.specs.declared.want.Want.TheVariants as want
use Rattle.wf_manifest.specs.declared.calls.Call.{Call}
use Rattle.wf_manifest.specs.declared.templates.Body.TheVariants as body
use Rattle.wf_manifest.specs.declared.manifest.Manifest.{Manifest}
use Rattle.meaning.specs.Answers.{path}
use Rattle.meaning.specs.Trees.{wants}
use Rattle.meaning.proofs.Samples.{workflow, call, succeeded, failed, errored, settled, printed}

-- a, then b and c beside each other
abbrev two_groups : Call → Manifest
two_groups b = workflow (codes "wf") (body.Steps ((call (codes "a") ∷ []) ∷ (b ∷ call (codes "c") ∷ []) ∷ []))

abbrev b_fails : List Fact
b_fails =
    Started ∷ settled (Group 0 ∷ Step 0 ∷ []) succeeded ∷ settled (Group 1 ∷ Step 0 ∷ []) failed
    ∷ settled (Group 1 ∷ Step 1 ∷ []) succeeded ∷ []

pub a_failed_member : printed (two_groups (call (codes "b"))) b_fails
    ≡ codes "workflow wf Failed"
    ∷ codes "  Failed Steps wf"
    ∷ codes "    Succeeded StepGroup wf[0]"
    ∷ codes "      Succeeded Pod wf[0].a"
    ∷ codes "    Failed StepGroup wf[1]"
    ∷ codes "      Failed Pod wf[1].b"
    ∷ codes "      Succeeded Pod wf[1].c"
    ∷ []
unfolding digits
a_failed_member = refl

-- ---- the worst phase

abbrev three_members : Manifest
three_members = workflow (codes "p") (body.Steps ((call (codes "a") ∷ call (codes "b") ∷ call (codes "c") ∷ []) ∷ []))

-- of Succeeded, Failed and Error the worst is Error
pub an_error_is_the_worst : printed three_members
    (Started ∷ settled (Group 0 ∷ Step 0 ∷ []) succeeded ∷ settled (Group 0 ∷ Step 1 ∷ []) failed
    ∷ settled (Group 0 ∷ Step 2 ∷ []) errored ∷ [])
    ≡ codes "workflow p Error"
    ∷ codes "  Error Steps p"
    ∷ codes "    Error StepGroup p[0]"
    ∷ codes "      Succeeded Pod p[0].a"
    ∷ codes "      Failed Pod p[0].b"
    ∷ codes "      Error Pod p[0].c"
    ∷ []
unfolding digits
an_error_is_the_worst = refl

-- a group is Running until all its members are finished, though one failed
pub a_running_member : printed three_members
    (Started ∷ settled (Group 0 ∷ Step 0 ∷ []) succeeded ∷ settled (Group 0 ∷ Step 1 ∷ []) failed ∷ [])
    ≡ codes "workflow p Running"
    ∷ codes "  Running Steps p"
    ∷ codes "    Running StepGroup p[0]"
    ∷ codes "      Succeeded Pod p[0].a"
    ∷ codes "      Failed Pod p[0].b"
    ∷ codes "      Running Pod p[0].c"
    ∷ []
unfolding digits
a_running_member = refl

-- ---- the next group

-- behind a group with a failure that is not covered no group exists
pub a_failure_ends_the_steps : printed
    (workflow (codes "wf")
    (body.Steps ((call (codes "a") ∷ []) ∷ (call (codes "b") ∷ []) ∷ (call (codes "c") ∷ []) ∷ [])))
    (Started ∷ settled (Group 0 ∷ Step 0 ∷ []) succeeded ∷ settled (Group 1 ∷ Step 0 ∷ []) failed ∷ [])
    ≡ codes "workflow wf Failed"
    ∷ codes "  Failed Steps wf"
    ∷ codes "    Succeeded StepGroup wf[0]"
    ∷ codes "      Succeeded Pod wf[0].a"
    ∷ codes "    Failed StepGroup wf[1]"
    ∷ codes "      Failed Pod wf[1].b"
    ∷ []
unfolding digits
a_failure_ends_the_steps = refl

-- without any group the steps are Succeeded
pub no_group : printed (workflow (codes "wf") (body.Steps [])) (Started ∷ [])
    ≡ codes "workflow wf Succeeded" ∷ codes "  Succeeded Steps wf" ∷ []
unfolding digits
no_group = refl

-- ---- a covered failure

abbrev covered_b : Call
covered_b = record (call (codes "b")) { continue_on = Some (record { failed = true; error = false }) }

pub a_covered_member : printed (two_groups covered_b) b_fails
    ≡ codes "workflow wf Succeeded"
    ∷ codes "  Succeeded Steps wf"
    ∷ codes "    Succeeded StepGroup wf[0]"
    ∷ codes "      Succeeded Pod wf[0].a"
    ∷ codes "    Succeeded StepGroup wf[1]"
    ∷ codes "      Failed Pod wf[1].b"
    ∷ codes "      Succeeded Pod wf[1].c"
    ∷ []
unfolding digits
a_covered_member = refl

-- the first group alone asks for its pod
pub the_first_pod : wants (two_groups covered_b) (Started ∷ []) ≡ want.Pod (path (Main ∷ Group 0 ∷ Step 0 ∷ [])) ∷ []
unfolding digits
the_first_pod = refl
