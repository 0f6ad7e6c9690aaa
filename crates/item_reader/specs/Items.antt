-- The items of a document. `Workflow` is that of the field reference and `ConfigMap` that of Kubernetes; the other kinds are
-- this project's own.
use Rattle.std.specs.Prelude.{ℕ, List, Bool, false, ◌&&◌, Option, Some, None, Ok, if◌then◌else◌, bytes_eq, codes}
use Rattle.serde_json.specs.Data.{Data, string}
use Rattle.serde_json.specs.Find.{get}
use Rattle.field_kinds.specs.Reading.{◌>>=◌, Kind, refuse_by}
use Rattle.field_kinds.specs.Rules as rules
use Rattle.field_kinds.specs.Kinds.{object_of}
use Rattle.wf_reader.specs.Workflows.{workflow}
use Rattle.item_reader.specs.ConfigMaps.{config_fields}
use Rattle.item_reader.specs.PodOutcomes.{plan_fields}
use Rattle.item_reader.specs.Commands.{commands}
use Rattle.item_reader.specs.Schedules.{schedule_fields}
use Rattle.item_reader.specs.declared.items.Item.{Item}
use Rattle.item_reader.specs.declared.items.Item.TheVariants as item_of
use Rattle.item_reader.specs.declared.items.ItemKind.{ItemKind}
use Rattle.item_reader.specs.declared.items.ItemKind.TheVariants as kind

abbrev pub is_text : List ℕ → Option Data → Bool
is_text t (Some (string u)) = bytes_eq u t
is_text t _ = false

-- a field is this text
abbrev pub says : List ℕ → List ℕ → Data → Bool
says name t d = is_text t (get name d)

abbrev pub is_kind : List ℕ → Data → Bool
is_kind name d = says (codes "kind") name d

abbrev pub is_workflow : Data → Bool
is_workflow d = is_kind (codes "Workflow") d && says (codes "apiVersion") (codes "argoproj.io/v1alpha1") d

abbrev pub is_config : Data → Bool
is_config d = is_kind (codes "ConfigMap") d && says (codes "apiVersion") (codes "v1") d

abbrev pub kind_of : Data → Option ItemKind
kind_of d =
    if is_workflow d then Some kind.Workflow
    else (if is_config d then Some kind.Config
    else (if is_kind (codes "PodOutcomes") d then Some kind.Outcomes
    else (if is_kind (codes "Commands") d then Some kind.Commands
    else (if is_kind (codes "Schedule") d then Some kind.Schedule else None))))

abbrev pub item_by : ℕ → Option ItemKind → Kind Item
item_by i (Some kind.Workflow) at d = workflow i at d >>= λ read. Ok (item_of.Workflow read)
item_by i (Some kind.Config) at d = config_fields at d >>= λ read. Ok (item_of.Config read)
item_by i (Some kind.Outcomes) at d = plan_fields at d >>= λ read. Ok (item_of.Outcomes read)
item_by i (Some kind.Commands) at d = commands at d >>= λ read. Ok (item_of.Commands read)
item_by i (Some kind.Schedule) at d = schedule_fields at d >>= λ read. Ok (item_of.Schedule read)
item_by i None at d = refuse_by rules.unknown_kind at

abbrev pub item_fields : ℕ → Kind Item
item_fields i at d = item_by i (kind_of d) at d

-- the item at a position: an object of one of the five kinds
abbrev pub item : ℕ → Kind Item
item i = object_of (item_fields i)
