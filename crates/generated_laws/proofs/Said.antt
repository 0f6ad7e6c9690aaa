-- What a drawn workflow says: its manifest, and what is planned for its pods.
use Rattle.std.proofs.Common.{◌≡◌, ℕ, ◌+◌, ◌<◌, ◌^◌, List, [], ◌∷◌, ◌++◌, Option, Some, None, pos, false, codes, decimal, map, if◌then◌else◌}
use Rattle.std.specs.Prelude.{flat_map}
use Rattle.tag_text.specs.declared.part.Part.{Part}
use Rattle.tag_text.specs.Parts.{as_it_stands}
use Rattle.wf_manifest.specs.declared.manifest.Manifest.{Manifest}
use Rattle.wf_manifest.specs.declared.calls.Call.{Call}
use Rattle.wf_manifest.specs.declared.calls.Task.{Task}
use Rattle.wf_manifest.specs.declared.calls.Loop.{Loop}
use Rattle.wf_manifest.specs.declared.calls.Loop.TheVariants as each
use Rattle.wf_manifest.specs.declared.templates.Body.{Body}
use Rattle.wf_manifest.specs.declared.templates.Body.TheVariants as body
use Rattle.wf_manifest.specs.declared.templates.Template.{Template}
use Rattle.item_reader.specs.PodOutcomes.{outcome_by}
use Rattle.item_reader.specs.declared.ends.PodEnd.{PodEnd}
use Rattle.item_reader.specs.declared.ends.PodEnd.TheVariants as end
use Rattle.item_reader.specs.declared.outcome.PlannedOutcome.{PlannedOutcome}
use Rattle.item_reader.specs.declared.outcomes.PlannedPod.{PlannedPod}
use Rattle.item_reader.specs.declared.outcomes.Plan.{Plan}
use Rattle.item_reader.specs.declared.items.Item.{Item}
use Rattle.item_reader.specs.declared.items.Item.TheVariants as item_of
use Rattle.generator.specs.declared.draws.Shape.{Shape}
use Rattle.generator.specs.declared.draws.Shape.TheVariants.{Pod, Steps, Dag, Loop as Looped}
use Rattle.generator.specs.declared.draws.Drawn.{Drawn}
use Rattle.generator.specs.Bundles.{name, failing_node}

-- ---- manifests

abbrev pub call : List ℕ → Option Loop → Call
call n loop = record { name = n; template = codes "c"; arguments = []; when = None; each = loop; continue_on = None; exit = None }

abbrev pub task : List ℕ → Option (List (List ℕ)) → Task
task n others = record { call = call n None; depends = None; dependencies = others }

abbrev pub tasks : List Task
tasks =
    task (codes "A") None
    ∷ task (codes "B") (Some (codes "A" ∷ []))
    ∷ task (codes "C") (Some (codes "A" ∷ []))
    ∷ task (codes "D") (Some (codes "B" ∷ codes "C" ∷ []))
    ∷ []

abbrev pub groups : List (List Call)
groups = (call (codes "a") None ∷ []) ∷ (call (codes "b") None ∷ call (codes "c") None ∷ []) ∷ []

-- a loop by the parts of its count
abbrev pub looped : List Part → Body
looped count = body.Steps ((call (codes "each") (Some (each.Sequence (Some count) None None None)) ∷ []) ∷ [])

abbrev pub body_of : Shape → Body
body_of Pod = body.Pod
body_of Steps = body.Steps groups
body_of Dag = body.Dag (record { targets = []; fail_fast = false; tasks = tasks })
body_of (Looped count) = looped (as_it_stands (decimal count))

abbrev pub template : List ℕ → Body → Template
template n b = record { name = n; inputs = []; outputs = []; lock = None; memoize = None; retry = None; body = b }

abbrev pub manifest : List ℕ → Body → Manifest
manifest n b = record {
  name = n;
  namespace = codes "default";
  created = pos 0;
  priority = pos 0;
  entrypoint = codes "main";
  on_exit = None;
  arguments = [];
  lock = None;
  templates = template (codes "main") b ∷ template (codes "c") body.Pod ∷ [];
}

-- ---- plans

abbrev pub ending : PodEnd → PlannedOutcome
ending e = outcome_by e (record { result = None; params = []; transient = false; seconds = 0 })

abbrev pub failing : List ℕ → Shape → PlannedPod
failing n shape = record { workflow = n; node = n ++ failing_node shape; outcome = ending end.Failed }

abbrev pub planned : Drawn → List PlannedPod
planned d = if d.fails then failing (name d.position) d.shape ∷ [] else []

abbrev pub plan : List PlannedPod → Plan
plan pods = record { default = Some (ending end.Succeeded); pods = pods }

-- ---- documents

abbrev pub said : Drawn → Item
said d = item_of.Workflow (manifest (name d.position) (body_of d.shape))

-- the workflows, and behind them an item more
abbrev pub all_said : List Drawn → Item → List Item
all_said ds last = map said ds ++ last ∷ []

abbrev pub plan_of : List Drawn → Plan
plan_of ds = plan (flat_map planned ds)

-- ---- what is drawn

-- a count is no longer than a number of 64 bits
abbrev pub IsShort : Shape → Type 0
IsShort (Looped count) = count < 2 ^ 64
IsShort _ = Unit {0}

-- ones drawn from this position on, and they are so many
abbrev pub AreFrom : ℕ → ℕ → List Drawn → Type 0
AreFrom i last [] = i ≡ last
AreFrom i last (d ∷ ds) = (d.position ≡ i) × IsShort d.shape × AreFrom (i + 1) last ds
