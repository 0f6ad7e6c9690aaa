-- Worked examples of the tags of a loop's item, in arguments and in conditions.
use Rattle.std.proofs.Common.{◌≡◌, refl}
use Rattle.std.specs.Fmt.{digits}
use Rattle.std.specs.Prelude.{ℕ, List, [], ◌∷◌, Some, codes}
use Rattle.serde_json.specs.Data.{Data, unsigned, number, string, array, object, Items, no_items, item, no_members, member}
use Rattle.serde_json.proofs.OnLiterals.{serde_json_on_literals}
use Rattle.tree_types.specs.declared.path.Sel.TheVariants.{Group, Step, Item}
use Rattle.tree_types.specs.declared.fact.Fact.{Fact}
use Rattle.tree_types.specs.declared.fact.Fact.TheVariants.{Started}
use Rattle.wf_manifest.specs.declared.calls.Loop.TheVariants as each
use Rattle.wf_manifest.specs.declared.manifest.Manifest.{Manifest}
use Rattle.meaning.proofs.Samples.{one_step, call_when, over, param, echo, call_echo, succeeded, settled, printed, params_at}

-- ---- in arguments

-- a looped call of echo, which gives it this text
abbrev echo_each : List ℕ → Items → Manifest
echo_each text ds =
    one_step (codes "w") (record (call_echo (codes "s") text) { each = Some (each.Items (array ds)) }) (echo ∷ [])

abbrev a_map : Data
a_map = object (member (codes "k") (string (codes "a")) (member (codes "n") (number (unsigned 7)) no_members))

-- a text, and a map
abbrev u_and_a_map : Items
u_and_a_map = item (string (codes "u")) (item a_map no_items)

-- `{{item}}` is a text itself
pub a_text_item : params_at (codes "w[0].s(0:u)") (echo_each (codes "<{{item}}>") u_and_a_map) (Started ∷ [])
    ≡ param (codes "x") (codes "<u>") ∷ []
unfolding digits serde_json_on_literals
a_text_item = refl

-- and of a map its compact JSON
pub a_map_item : params_at (codes "w[0].s(1:k:a,n:7)") (echo_each (codes "<{{item}}>") u_and_a_map) (Started ∷ [])
    ≡ param (codes "x") (codes "<{\"k\":\"a\",\"n\":7}>") ∷ []
unfolding digits serde_json_on_literals
a_map_item = refl

-- `{{item.k}}` is the map's member k
pub a_member_of_an_item : params_at (codes "w[0].s(0:k:a,n:7)")
    (echo_each (codes "{{item.n}}-{{item.k}}") (item a_map no_items)) (Started ∷ [])
    ≡ param (codes "x") (codes "7-a") ∷ []
unfolding digits serde_json_on_literals
a_member_of_an_item = refl

-- the text has no member k: this item alone is Error, of the kind of the template
pub an_item_without_the_member : printed (echo_each (codes "{{item.k}}") u_and_a_map) (Started ∷ [])
    ≡ codes "workflow w Error"
    ∷ codes "  Error Steps w"
    ∷ codes "    Error StepGroup w[0]"
    ∷ codes "      Error TaskGroup w[0].s"
    ∷ codes "        Error Steps w[0].s(0:u) -- unresolved item.k"
    ∷ codes "        Succeeded Steps w[0].s(1:k:a,n:7)"
    ∷ []
unfolding digits serde_json_on_literals
an_item_without_the_member = refl

-- ---- in conditions

-- a looped call of a container under a condition
abbrev pods_when : List ℕ → List (List ℕ) → Manifest
pods_when w ts = one_step (codes "w") (record (call_when (codes "s") w) { each = Some (over ts) }) []

abbrev ended : ℕ → Fact
ended i = settled (Group 0 ∷ Step 0 ∷ Item i ∷ []) succeeded

-- a condition with an item tag is asked for each item
pub a_condition_for_each_item : printed (pods_when (codes "{{item}} != 2") (codes "1" ∷ codes "2" ∷ codes "3" ∷ []))
    (Started ∷ ended 0 ∷ ended 2 ∷ [])
    ≡ codes "workflow w Succeeded"
    ∷ codes "  Succeeded Steps w"
    ∷ codes "    Succeeded StepGroup w[0]"
    ∷ codes "      Succeeded TaskGroup w[0].s"
    ∷ codes "        Succeeded Pod w[0].s(0:1)"
    ∷ codes "        Skipped Skipped w[0].s(1:2) -- when is false"
    ∷ codes "        Succeeded Pod w[0].s(2:3)"
    ∷ []
unfolding digits serde_json_on_literals
a_condition_for_each_item = refl

-- where it is at fault, the item is Error, of the kind of the template
pub a_faulty_condition_of_an_item : printed (pods_when (codes "{{item}} < 2") (codes "1" ∷ codes "b" ∷ []))
    (Started ∷ ended 0 ∷ [])
    ≡ codes "workflow w Error"
    ∷ codes "  Error Steps w"
    ∷ codes "    Error StepGroup w[0]"
    ∷ codes "      Error TaskGroup w[0].s"
    ∷ codes "        Succeeded Pod w[0].s(0:1)"
    ∷ codes "        Error Pod w[0].s(1:b) -- not numbers"
    ∷ []
unfolding digits serde_json_on_literals
a_faulty_condition_of_an_item = refl

-- a condition without an item tag is asked once, before the loop
pub a_condition_before_the_loop : printed (pods_when (codes "1 == 2") (codes "1" ∷ codes "2" ∷ [])) (Started ∷ [])
    ≡ codes "workflow w Succeeded"
    ∷ codes "  Succeeded Steps w"
    ∷ codes "    Succeeded StepGroup w[0]"
    ∷ codes "      Skipped Skipped w[0].s -- when is false"
    ∷ []
unfolding digits serde_json_on_literals
a_condition_before_the_loop = refl

-- and its fault has the kind of the template, not that of a loop
pub a_faulty_condition_before_the_loop : printed (pods_when (codes "1 =") (codes "1" ∷ codes "2" ∷ [])) (Started ∷ [])
    ≡ codes "workflow w Error"
    ∷ codes "  Error Steps w"
    ∷ codes "    Error StepGroup w[0]"
    ∷ codes "      Error Pod w[0].s -- bad when"
    ∷ []
unfolding digits serde_json_on_literals
a_faulty_condition_before_the_loop = refl

-- with both kinds of tags, the whole condition is asked for each item: here the workflow's name is w
pub a_condition_with_two_tags : printed
    (pods_when (codes "{{item}} == {{workflow.name}}") (codes "v" ∷ codes "w" ∷ [])) (Started ∷ ended 1 ∷ [])
    ≡ codes "workflow w Succeeded"
    ∷ codes "  Succeeded Steps w"
    ∷ codes "    Succeeded StepGroup w[0]"
    ∷ codes "      Succeeded TaskGroup w[0].s"
    ∷ codes "        Skipped Skipped w[0].s(0:v) -- when is false"
    ∷ codes "        Succeeded Pod w[0].s(1:w)"
    ∷ []
unfolding digits serde_json_on_literals
a_condition_with_two_tags = refl
