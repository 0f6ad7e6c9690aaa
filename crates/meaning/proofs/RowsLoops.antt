-- Worked examples of loops.
use Rattle.std.proofs.Common.{◌≡◌, refl}
use Rattle.std.specs.Fmt.{digits}
use Rattle.std.specs.Prelude.{ℕ, List, [], ◌∷◌, Some, None, codes}
use Rattle.serde_json.specs.Data.{Data, unsigned, number, string, array, object, no_items, item, no_members, member}
use Rattle.serde_json.proofs.OnLiterals.{serde_json_on_literals}
use Rattle.tree_types.specs.declared.path.Sel.TheVariants.{Group, Step, Item}
use Rattle.tree_types.specs.declared.fact.Fact.{Fact}
use Rattle.tree_types.specs.declared.fact.Fact.TheVariants.{Started}
use Rattle.tag_text.specs.Parts.{parts_of}
use Rattle.wf_manifest.specs.declared.calls.Loop.TheVariants as each
use Rattle.wf_manifest.specs.declared.templates.Body.TheVariants as body
use Rattle.wf_manifest.specs.declared.manifest.Manifest.{Manifest}
use Rattle.meaning.proofs.Samples.{workflow, one_step, call_each, succeeded, settled, printed}

-- the three items of the first step succeed
abbrev three_items : List Fact
three_items =
    Started ∷ settled (Group 0 ∷ Step 0 ∷ Item 0 ∷ []) succeeded
    ∷ settled (Group 0 ∷ Step 0 ∷ Item 1 ∷ []) succeeded
    ∷ settled (Group 0 ∷ Step 0 ∷ Item 2 ∷ []) succeeded ∷ []

abbrev map_item : Data
map_item = object (member (codes "k") (string (codes "(x)")) (member (codes "z") (string (codes "1")) no_members))

abbrev listed : Data
listed = array (item (string (codes "a(b)")) (item map_item (item (number (unsigned 7)) no_items)))

abbrev over_a_list : Manifest
over_a_list = workflow (codes "n") (body.Steps ((call_each (codes "s") (each.Items listed) ∷ []) ∷ []))

pub items_in_names : printed over_a_list three_items
    ≡ codes "workflow n Succeeded"
    ∷ codes "  Succeeded Steps n"
    ∷ codes "    Succeeded StepGroup n[0]"
    ∷ codes "      Succeeded TaskGroup n[0].s"
    ∷ codes "        Succeeded Pod n[0].s(0:ab)"
    ∷ codes "        Succeeded Pod n[0].s(1:k:x,z:1)"
    ∷ codes "        Succeeded Pod n[0].s(2:7)"
    ∷ []
unfolding digits serde_json_on_literals
items_in_names = refl

abbrev over_others : Manifest
over_others =
    workflow (codes "q")
    (body.Steps
    ((call_each (codes "s")
    (each.Sequence None (Some (parts_of (codes "3"))) (Some (parts_of (codes "1"))) (Some (parts_of (codes "n%02d"))))
    ∷ call_each (codes "e") (each.Param (parts_of (codes "[]")))
    ∷ call_each (codes "x") (each.Param (parts_of (codes "{}"))) ∷ []) ∷ []))

pub a_sequence_no_item_and_no_list : printed over_others three_items
    ≡ codes "workflow q Error"
    ∷ codes "  Error Steps q"
    ∷ codes "    Error StepGroup q[0]"
    ∷ codes "      Succeeded TaskGroup q[0].s"
    ∷ codes "        Succeeded Pod q[0].s(0:n03)"
    ∷ codes "        Succeeded Pod q[0].s(1:n02)"
    ∷ codes "        Succeeded Pod q[0].s(2:n01)"
    ∷ codes "      Skipped Skipped q[0].e -- Skipped, empty params"
    ∷ codes "      Error TaskGroup q[0].x -- withParam is not a list"
    ∷ []
unfolding digits serde_json_on_literals
a_sequence_no_item_and_no_list = refl

-- a loop over so many numbers
abbrev counting : List ℕ → Manifest
counting n = one_step (codes "w") (call_each (codes "s") (each.Sequence (Some (parts_of n)) None None None)) []

-- 1,001 items are too many
pub too_many : printed (counting (codes "1001")) (Started ∷ [])
    ≡ codes "workflow w Error"
    ∷ codes "  Error Steps w"
    ∷ codes "    Error StepGroup w[0]"
    ∷ codes "      Error TaskGroup w[0].s -- too many items"
    ∷ []
unfolding digits serde_json_on_literals
too_many = refl
