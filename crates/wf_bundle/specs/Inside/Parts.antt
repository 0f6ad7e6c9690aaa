-- The items of a document by their kinds, while the items are given up one by one.
use Rattle.std.specs.Prelude.{◌≡◌, ℕ, List, [], ◌++◌, Result, Ok, Err}
use Rattle.std.specs.List.{flat_map}
use Rattle.tree_types.specs.declared.entry.Limit.{Limit}
use Rattle.field_kinds.specs.Reading.{◌>>=◌}
use Rattle.item_reader.specs.declared.items.Item.{Item}
use Rattle.bundle_rules.specs.declared.refused.BundleRefused.{BundleRefused}
use Rattle.bundle_rules.specs.Findings.{Found, IsRefusedAs}
use Rattle.wf_bundle.specs.declared.parts.Parts.{Parts}
use Rattle.wf_bundle.specs.declared.document.Document.{Document}
use Rattle.wf_bundle.specs.Documents.{workflow_in, config_in, plan_in, commands_in, schedule_in, items_checked, whole_asked, first_or, no_plan, no_schedule, schedule_of}

abbrev pub parts_in : Item → Parts
parts_in x = record {
  workflows = workflow_in x;
  configs = config_in x;
  plans = plan_in x;
  commands = commands_in x;
  schedules = schedule_in x;
}

abbrev pub parts_of : List Item → Parts
parts_of xs = record {
  workflows = flat_map workflow_in xs;
  configs = flat_map config_in xs;
  plans = flat_map plan_in xs;
  commands = flat_map commands_in xs;
  schedules = flat_map schedule_in xs;
}

abbrev pub joined : Parts → Parts → Parts
joined p q = record {
  workflows = p.workflows ++ q.workflows;
  configs = p.configs ++ q.configs;
  plans = p.plans ++ q.plans;
  commands = p.commands ++ q.commands;
  schedules = p.schedules ++ q.schedules;
}

abbrev pub document_by : List Limit → Parts → Document
document_by limits p = record {
  workflows = p.workflows;
  configs = p.configs;
  limits = limits;
  outcomes = first_or no_plan p.plans;
  commands = first_or [] p.commands;
  schedule = schedule_of (first_or no_schedule p.schedules);
}

-- what is taken behind these parts of the items that are left, the first of these having that position
abbrev pub taken_from : List (List ℕ) → ℕ → Parts → List Item → Found Parts
taken_from limited i parts xs = items_checked limited i xs >>= λ _. Ok (joined parts (parts_of xs))

-- the parts of items of which each workflow passes
abbrev pub taken : List (List ℕ) → List Item → Found Parts
taken limited xs = items_checked limited 0 xs >>= λ _. Ok (parts_of xs)

-- the parts, where nothing is found
abbrev pub behind_found : Found (Unit {0}) → Parts → Found Parts
behind_found found p = found >>= λ _. Ok p

-- the parts of items of which each workflow passes, and the document as a whole
abbrev pub accepted : List (List ℕ) → List Item → Found Parts
accepted limited xs = items_checked limited 0 xs >>= λ _. behind_found (whole_asked xs) (parts_of xs)

-- the document of these parts
abbrev pub made : List Limit → Found Parts → Found Document
made limits found = found >>= λ p. Ok (document_by limits p)

-- What is given passes, or the refusal is what is found.
abbrev pub Passes : {X : Type 0} → Result X BundleRefused → Found (Unit {0}) → Type 0
Passes (Ok x) found = found ≡ Ok tt
Passes (Err refused) found = IsRefusedAs refused found
