-- Worked examples of suspended nodes: their durations and their outputs.
use Rattle.std.proofs.Common.{◌≡◌, refl}
use Rattle.std.specs.Fmt.{digits}
use Rattle.std.specs.Prelude.{ℕ, List, [], ◌∷◌, Some, None, codes}
use Rattle.tree_types.specs.declared.path.Sel.TheVariants.{Main}
use Rattle.tree_types.specs.declared.fact.Fact.TheVariants.{Started, Armed, Due, Resumed}
use Rattle.tree_types.specs.declared.want.Want.TheVariants as want
use Rattle.tag_text.specs.Parts.{parts_of}
use Rattle.wf_manifest.specs.declared.templates.Body.TheVariants as body
use Rattle.wf_manifest.specs.declared.manifest.Manifest.{Manifest}
use Rattle.meaning.specs.Answers.{path}
use Rattle.meaning.specs.Trees.{wants}
use Rattle.meaning.proofs.Samples.{template, workflow_of, workflow, declared, param, printed, params_at}

-- a workflow of this name that suspends for this duration
abbrev suspended : List ℕ → List ℕ → Manifest
suspended name duration = workflow name (body.Suspend (Some (parts_of duration)))

-- ---- durations

-- a text that is no duration
pub no_duration : printed (suspended (codes "u") (codes "5x")) (Started ∷ [])
    ≡ codes "workflow u Error" ∷ codes "  Error Suspend u -- bad duration" ∷ []
unfolding digits
no_duration = refl

-- it asks to be neither armed nor woken
pub no_duration_asks_for_nothing : wants (suspended (codes "u") (codes "5x")) (Started ∷ []) ≡ []
unfolding digits
no_duration_asks_for_nothing = refl

-- 365 days are the most
pub the_longest : wants (suspended (codes "u") (codes "8760h")) (Started ∷ Armed (path (Main ∷ [])) 4 ∷ [])
    ≡ want.Timer (path (Main ∷ [])) 31536004 ∷ []
unfolding digits
the_longest = refl

-- a second more is no duration
pub too_long : printed (suspended (codes "u") (codes "8760h1s")) (Started ∷ [])
    ≡ codes "workflow u Error" ∷ codes "  Error Suspend u -- bad duration" ∷ []
unfolding digits
too_long = refl

-- the duration is read once its tags are replaced: here the workflow's name is 7
pub a_duration_with_a_tag : wants (suspended (codes "7") (codes "1m{{workflow.name}}s"))
    (Started ∷ Armed (path (Main ∷ [])) 3 ∷ [])
    ≡ want.Timer (path (Main ∷ [])) 70 ∷ []
unfolding digits
a_duration_with_a_tag = refl

-- a tag without a value is told by its name
pub an_unresolved_duration : printed (suspended (codes "u") (codes "{{workflow.status}}")) (Started ∷ [])
    ≡ codes "workflow u Error" ∷ codes "  Error Suspend u -- unresolved workflow.status" ∷ []
unfolding digits
an_unresolved_duration = refl

-- without a duration it asks for no timer, and waits until it is resumed
pub armed_for_ever : wants (workflow (codes "u") (body.Suspend None)) (Started ∷ Armed (path (Main ∷ [])) 0 ∷ []) ≡ []
unfolding digits
armed_for_ever = refl

-- it is Running all the while
pub it_still_waits : printed (workflow (codes "u") (body.Suspend None)) (Started ∷ Armed (path (Main ∷ [])) 0 ∷ [])
    ≡ codes "workflow u Running" ∷ codes "  Running Suspend u" ∷ []
unfolding digits
it_still_waits = refl

-- ---- outputs

-- p has the default 1, and q none
abbrev with_p : Manifest
with_p =
    workflow_of (codes "u")
    (record (template (codes "main") (body.Suspend None)) {
      outputs = declared (codes "p") (Some (codes "1")) ∷ [];
    } ∷ [])

abbrev with_q : Manifest
with_q =
    workflow_of (codes "u")
    (record (template (codes "main") (body.Suspend None)) { outputs = declared (codes "q") None ∷ [] } ∷ [])

-- once it is over, each output is its default
pub a_default : params_at (codes "u") with_p (Started ∷ Resumed (path (Main ∷ [])) ∷ [])
    ≡ param (codes "p") (codes "1") ∷ []
unfolding digits
a_default = refl

-- and one without a default makes it Error
pub no_default : printed with_q (Started ∷ Due (path (Main ∷ [])) ∷ [])
    ≡ codes "workflow u Error" ∷ codes "  Error Suspend u -- missing output q" ∷ []
unfolding digits
no_default = refl

-- before it is over it has none
pub not_yet : params_at (codes "u") with_p (Started ∷ Armed (path (Main ∷ [])) 0 ∷ []) ≡ []
unfolding digits
not_yet = refl
