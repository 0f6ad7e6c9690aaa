-- Where a document names a workflow, and whether it is there.
use Rattle.std.specs.Prelude.{ℕ, suc, List, [], ◌∷◌, ◌++◌, Bool, if◌then◌else◌, Option, Some, Ok, codes}
use Rattle.json_fields.specs.Paths.{Path, field_of}
use Rattle.base_types.specs.Names.{is_among}
use Rattle.field_kinds.specs.Rules as rules
use Rattle.item_reader.specs.declared.commands.Command.{Command}
use Rattle.item_reader.specs.declared.commands.Command.TheVariants.{Resume, Resubmit}
use Rattle.item_reader.specs.declared.schedules.ScheduleStep.{ScheduleStep}
use Rattle.item_reader.specs.declared.schedules.ScheduleStep.TheVariants as step
use Rattle.item_reader.specs.declared.items.Item.{Item}
use Rattle.item_reader.specs.declared.items.Item.TheVariants as item
use Rattle.bundle_rules.specs.declared.asked.Asked.{Asked}
use Rattle.bundle_rules.specs.Findings.{Found, refuse}
use Rattle.bundle_rules.specs.Claims.{member_at}

-- ---- places where a rule is asked

abbrev pub ask : ℕ → Path → Bool → Asked
ask i path holds = record { item = i; path = path; holds = holds }

-- the first place where the rule does not hold
abbrev pub first_broken : ℕ → List Asked → Found (Unit {0})
first_broken rule [] = Ok tt
first_broken rule (place ∷ places) =
    if place.holds then first_broken rule places else refuse place.item rule place.path

-- ---- names

abbrev pub made_by : Command → List (List ℕ)
made_by (Resume tick workflow) = []
made_by (Resubmit tick old name memoized created) = name ∷ []

-- the names of the workflows that commands make
abbrev pub made : List Command → List (List ℕ)
made [] = []
made (c ∷ cs) = made_by c ++ made cs

abbrev pub made_in : Item → List (List ℕ)
made_in (item.Commands cs) = made cs
made_in _ = []

abbrev pub named_in : Item → List (List ℕ)
named_in (item.Workflow m) = m.name ∷ []
named_in _ = []

-- the names of the workflows of a document
abbrev pub workflow_names : List Item → List (List ℕ)
workflow_names [] = []
workflow_names (x ∷ xs) = named_in x ++ workflow_names xs

-- and of those that its resubmissions make
abbrev pub made_names : List Item → List (List ℕ)
made_names [] = []
made_names (x ∷ xs) = made_in x ++ made_names xs

-- ---- commands and steps

abbrev pub command_at : ℕ → List ℕ → Path
command_at j name = field_of (member_at (codes "commands") j) name

abbrev pub step_at : ℕ → Path
step_at j = member_at (codes "steps") j

-- a resume may name any workflow, a resubmission only what is there before it
abbrev pub command_asked : List (List ℕ) → List (List ℕ) → ℕ → ℕ → Command → Asked
command_asked all before i j (Resume tick workflow) = ask i (command_at j (codes "resume")) (is_among all workflow)
command_asked all before i j (Resubmit tick old name memoized created) =
    ask i (command_at j (codes "resubmit")) (is_among before old)

abbrev pub commands_asked : List (List ℕ) → List (List ℕ) → ℕ → ℕ → List Command → List Asked
commands_asked all before i j [] = []
commands_asked all before i j (c ∷ cs) =
    command_asked all before i j c ∷ commands_asked all (before ++ made_by c) i (suc j) cs

abbrev pub step_asked : List (List ℕ) → ℕ → ℕ → Option ScheduleStep → List Asked
step_asked all i j (Some (step.Give hand workflow)) =
    ask i (field_of (step_at j) (codes "workflow")) (is_among all workflow) ∷ []
step_asked all i j (Some (step.GivePod hand workflow node)) =
    ask i (field_of (field_of (step_at j) (codes "pod")) (codes "workflow")) (is_among all workflow) ∷ []
step_asked all i j _ = []

abbrev pub steps_asked : List (List ℕ) → ℕ → ℕ → List (Option ScheduleStep) → List Asked
steps_asked all i j [] = []
steps_asked all i j (s ∷ ss) = step_asked all i j s ++ steps_asked all i (suc j) ss

abbrev pub item_asked : List (List ℕ) → List (List ℕ) → ℕ → Item → List Asked
item_asked all before i (item.Commands cs) = commands_asked all before i 0 cs
item_asked all before i (item.Schedule s) = steps_asked all i 0 s.steps
item_asked all before i _ = []

-- the items, from item i on, behind these names
abbrev pub items_asked : List (List ℕ) → List (List ℕ) → ℕ → List Item → List Asked
items_asked all before i [] = []
items_asked all before i (x ∷ xs) = item_asked all before i x ++ items_asked all (before ++ made_in x) (suc i) xs

-- each workflow that is named is there
abbrev pub names_asked : List Item → Found (Unit {0})
names_asked xs =
    first_broken rules.no_workflow (items_asked (workflow_names xs ++ made_names xs) (workflow_names xs) 0 xs)
