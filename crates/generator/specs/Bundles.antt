-- The document that is made. The members of each object are in the order of their keys. The resource `PodOutcomes`, and what
-- is drawn, are this project's own; the fields of a `Workflow` are those of Argo's field reference.
use Rattle.std.specs.Prelude.{ℕ, ◌+◌, ◌/◌, ◌%◌, List, [], ◌∷◌, ◌++◌, if◌then◌else◌, false, map, flat_map, codes, decimal}
use Rattle.serde_json.specs.Data.{Data, boolean, string, array, object, Members, no_members, member}
use Rattle.serde_json.specs.View.{items_of}
use Rattle.serde_json.specs.Written.{compact_text}
use Rattle.generator.specs.declared.draws.Shape.{Shape}
use Rattle.generator.specs.declared.draws.Shape.TheVariants.{Pod, Steps, Dag, Loop}
use Rattle.generator.specs.declared.draws.Drawn.{Drawn}
use Rattle.generator.specs.Draws.{drawn}

abbrev pub list : List Data → Data
list ds = array (items_of ds)

abbrev pub members : List (List ℕ × Data) → Members
members [] = no_members
members (m ∷ ms) = member m.0 m.1 (members ms)

abbrev pub fields : List (List ℕ × Data) → Data
fields ms = object (members ms)

-- ---- names

-- the last decimal digit
abbrev pub digit : ℕ → ℕ
digit n = 48 + n % 10

-- `g-` and the position in five digits
unfoldable pub name : ℕ → List ℕ
name n = codes "g-" ++ digit (n / 10000) ∷ digit (n / 1000) ∷ digit (n / 100) ∷ digit (n / 10) ∷ digit n ∷ []

-- the node of the pod that may fail, behind the workflow's name
abbrev pub failing_node : Shape → List ℕ
failing_node Pod = []
failing_node Steps = codes "[1].b"
failing_node Dag = codes ".B"
failing_node (Loop count) = codes "[0].each(0:0)"

-- ---- templates

abbrev pub container : Data
container = fields ((codes "image", string (codes "i")) ∷ [])

-- what is called everywhere
abbrev pub called : Data
called = fields ((codes "container", container) ∷ (codes "name", string (codes "c")) ∷ [])

abbrev pub name_member : List ℕ → List ℕ × Data
name_member n = (codes "name", string n)

abbrev pub template_member : List ℕ × Data
template_member = (codes "template", string (codes "c"))

abbrev pub step : List ℕ → Data
step n = fields (name_member n ∷ template_member ∷ [])

abbrev pub sequence : ℕ → Data
sequence count = fields ((codes "count", string (decimal count)) ∷ [])

-- a step over so many items
abbrev pub looped : ℕ → Data
looped count = fields (name_member (codes "each") ∷ template_member ∷ (codes "withSequence", sequence count) ∷ [])

-- a task that waits for these
abbrev pub task : List ℕ → List Data → Data
task n others = fields ((codes "dependencies", list others) ∷ name_member n ∷ template_member ∷ [])

abbrev pub tasks : List Data
tasks =
    step (codes "A")
    ∷ task (codes "B") (string (codes "A") ∷ [])
    ∷ task (codes "C") (string (codes "A") ∷ [])
    ∷ task (codes "D") (string (codes "B") ∷ string (codes "C") ∷ [])
    ∷ []

abbrev pub dag : Data
dag = fields ((codes "failFast", boolean false) ∷ (codes "tasks", list tasks) ∷ [])

abbrev pub first_group : Data
first_group = list (step (codes "a") ∷ [])

abbrev pub second_group : Data
second_group = list (step (codes "b") ∷ step (codes "c") ∷ [])

-- the entrypoint
abbrev pub main : Shape → Data
main Pod = fields ((codes "container", container) ∷ name_member (codes "main") ∷ [])
main Steps = fields (name_member (codes "main") ∷ (codes "steps", list (first_group ∷ second_group ∷ [])) ∷ [])
main Dag = fields ((codes "dag", dag) ∷ name_member (codes "main") ∷ [])
main (Loop count) = fields (name_member (codes "main") ∷ (codes "steps", list (list (looped count ∷ []) ∷ [])) ∷ [])

-- ---- items

abbrev pub spec : Shape → Data
spec shape = fields ((codes "entrypoint", string (codes "main")) ∷ (codes "templates", list (main shape ∷ called ∷ [])) ∷ [])

abbrev pub metadata : List ℕ → Data
metadata n = fields (name_member n ∷ [])

abbrev pub workflow_named : List ℕ → Shape → Data
workflow_named n shape =
    fields (
    (codes "apiVersion", string (codes "argoproj.io/v1alpha1"))
    ∷ (codes "kind", string (codes "Workflow"))
    ∷ (codes "metadata", metadata n)
    ∷ (codes "spec", spec shape)
    ∷ []
    )

unfoldable pub workflow : Drawn → Data
workflow d = workflow_named (name d.position) d.shape

abbrev pub pod_named : List ℕ → Shape → Data
pod_named n shape =
    fields (
    (codes "node", string (n ++ failing_node shape))
    ∷ (codes "phase", string (codes "Failed"))
    ∷ (codes "workflow", string n)
    ∷ []
    )

-- the pod of a workflow that fails
unfoldable pub pods_of : Drawn → List Data
pods_of d = if d.fails then pod_named (name d.position) d.shape ∷ [] else []

abbrev pub success : Data
success = fields ((codes "phase", string (codes "Succeeded")) ∷ [])

-- the resource by which pods succeed, with these members more
abbrev pub outcomes_with : List (List ℕ × Data) → Data
outcomes_with more = fields ((codes "default", success) ∷ (codes "kind", string (codes "PodOutcomes")) ∷ more)

-- how pods end: these fail, and all others succeed
abbrev pub outcomes : List Data → Data
outcomes [] = outcomes_with []
outcomes (pod ∷ pods) = outcomes_with ((codes "pods", list (pod ∷ pods)) ∷ [])

-- ---- documents

abbrev pub document : List Data → Data
document items = fields ((codes "apiVersion", string (codes "v1")) ∷ (codes "items", list items) ∷ (codes "kind", string (codes "List")) ∷ [])

abbrev pub bundle_of : List Drawn → Data
bundle_of ds = document (map workflow ds ++ outcomes (flat_map pods_of ds) ∷ [])

-- the document of so many workflows, by a seed
abbrev pub bundle : ℕ → ℕ → Data
bundle seed size = bundle_of (drawn seed 0 size)

-- its text, without spaces
unfoldable pub bundle_text : ℕ → ℕ → List ℕ
bundle_text seed size = compact_text (bundle seed size)
