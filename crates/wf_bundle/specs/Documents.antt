-- Documents: a `List` of items as `kubectl get -o json` prints it, or one item. The order of the rules, and that the first
-- refusal counts, is this project's own.
use Rattle.std.specs.Prelude.{ℕ, suc, List, [], ◌∷◌, Bool, true, false, None, Ok, codes, map}
use Rattle.std.specs.List.{flat_map, filter_map}
use Rattle.serde_json.specs.Data.{Data, Items, no_items, item as value}
use Rattle.base_types.specs.Limits.{most_list_items}
use Rattle.tree_types.specs.declared.entry.Limit.{Limit}
use Rattle.field_kinds.specs.Reading.{◌>>=◌, Kind}
use Rattle.field_kinds.specs.Kinds.{needs_list, object_of}
use Rattle.field_kinds.specs.Fields.{required}
use Rattle.wf_manifest.specs.declared.manifest.Manifest.{Manifest}
use Rattle.item_reader.specs.declared.configs.Config.{Config}
use Rattle.item_reader.specs.declared.outcomes.Plan.{Plan}
use Rattle.item_reader.specs.declared.commands.Command.{Command}
use Rattle.item_reader.specs.declared.schedules.Schedule.{Schedule as SaidSchedule}
use Rattle.item_reader.specs.declared.items.Item.{Item}
use Rattle.item_reader.specs.declared.items.Item.TheVariants as item
use Rattle.item_reader.specs.Items.{is_kind, item as item_at}
use Rattle.wf_check.specs.Verdicts.{verdict}
use Rattle.bundle_rules.specs.Findings.{Found, of_item}
use Rattle.bundle_rules.specs.Counts.{workflows_counted}
use Rattle.bundle_rules.specs.LockLimits.{limits_of}
use Rattle.bundle_rules.specs.Claims.{seconds_asked}
use Rattle.bundle_rules.specs.Names.{names_asked}
use Rattle.bundle_rules.specs.Schedules.{schedules_asked}
use Rattle.wf_bundle.specs.declared.document.Document.{Document}
use Rattle.wf_bundle.specs.declared.document.Schedule.{Schedule}

-- ---- the first pass: items

abbrev pub is_list : Data → Bool
is_list d = is_kind (codes "List") d

abbrev pub values_if : Bool → Kind Items
values_if true at d = required (needs_list most_list_items) (codes "items") at d
values_if false at d = Ok (value d no_items)

-- a `List` stands for its `items`, and its other members are not read; any other object stands for itself
abbrev pub values : Kind Items
values = object_of (λ at d. values_if (is_list d) at d)

-- the items that are left, the first of these having that position
abbrev pub items_from : ℕ → Items → Found (List Item)
items_from i no_items = Ok []
items_from i (value d ds) = do
  x ← of_item i (item_at i [] d)
  xs ← items_from (suc i) ds
  Ok (x ∷ xs)

-- what is refused of the list is the first item's
unfoldable pub items_of : Data → Found (List Item)
items_of d = do
  ds ← of_item 0 (values [] d)
  items_from 0 ds

-- ---- the second pass: each workflow by itself

abbrev pub item_checked : List (List ℕ) → ℕ → Item → Found (Unit {0})
item_checked limited i (item.Workflow m) = of_item i (verdict limited m)
item_checked limited i _ = Ok tt

-- where these semaphores have limits
abbrev pub items_checked : List (List ℕ) → ℕ → List Item → Found (Unit {0})
items_checked limited i [] = Ok tt
items_checked limited i (x ∷ xs) = item_checked limited i x >>= λ _. items_checked limited (suc i) xs

-- the semaphores that have limits
abbrev pub limited : List Limit → List (List ℕ)
limited limits = map (λ l. l.lock.text) limits

-- ---- the third pass: the document as a whole

unfoldable pub whole_asked : List Item → Found (Unit {0})
whole_asked xs = do
  _ ← seconds_asked xs
  _ ← names_asked xs
  schedules_asked xs

-- ---- what a document says

abbrev pub workflow_in : Item → List Manifest
workflow_in (item.Workflow m) = m ∷ []
workflow_in _ = []

abbrev pub config_in : Item → List Config
config_in (item.Config c) = c ∷ []
config_in _ = []

abbrev pub plan_in : Item → List Plan
plan_in (item.Outcomes plan) = plan ∷ []
plan_in _ = []

abbrev pub commands_in : Item → List (List Command)
commands_in (item.Commands cs) = cs ∷ []
commands_in _ = []

abbrev pub schedule_in : Item → List SaidSchedule
schedule_in (item.Schedule s) = s ∷ []
schedule_in _ = []

-- the first, or the other where there is none
abbrev pub first_or : {A : Type 0} → A → List A → A
first_or otherwise [] = otherwise
first_or otherwise (x ∷ xs) = x

abbrev pub no_plan : Plan
no_plan = record { default = None; pods = [] }

-- one worker does nothing
abbrev pub no_schedule : SaidSchedule
no_schedule = record { workers = 1; steps = [] }

-- Each step is of a form, by the third pass.
abbrev pub schedule_of : SaidSchedule → Schedule
schedule_of s = record { workers = s.workers; steps = filter_map (λ step. step) s.steps }

-- the document of these items
abbrev pub document : List Item → Document
document xs = record {
  workflows = flat_map workflow_in xs;
  configs = flat_map config_in xs;
  limits = limits_of xs;
  outcomes = first_or no_plan (flat_map plan_in xs);
  commands = first_or [] (flat_map commands_in xs);
  schedule = schedule_of (first_or no_schedule (flat_map schedule_in xs));
}

-- the second and the third pass
unfoldable pub document_in : List Item → Found Document
document_in xs = do
  _ ← items_checked (limited (limits_of xs)) 0 xs
  _ ← whole_asked xs
  Ok (document xs)

-- The document that a JSON value is, or its first refusal: the items and how many workflows they have, then each workflow,
-- then the document as a whole.
unfoldable pub document_of : Data → Found Document
document_of d = do
  xs ← items_of d
  _ ← workflows_counted xs
  document_in xs
