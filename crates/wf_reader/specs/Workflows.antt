-- What a `Workflow` resource reads as (field reference, `Workflow`): each object is a list of lines in reading order,
-- its refused fields first. Which fields are refused, and by which refusal, is this project's own.
use Rattle.std.specs.Prelude.{ℕ, ◌-◌, ℤ, pos, List, [], ◌∷◌, ◌++◌, length, replicate, Option, Some, None, Ok, codes, decimal}
use Rattle.std.specs.Result.{result_ok}
use Rattle.base_types.specs.Limits.{most_members}
use Rattle.time_text.specs.Instants.{created_of}
use Rattle.json_fields.specs.Paths.{Path, field_of}
use Rattle.wf_manifest.specs.declared.templates.Template.{Template}
use Rattle.wf_manifest.specs.declared.manifest.Manifest.{Manifest}
use Rattle.field_kinds.specs.Reading.{Read, ◌>>=◌, Kind, refuse_by, or_bad}
use Rattle.field_kinds.specs.Rules as rules
use Rattle.field_kinds.specs.Kinds.{text, of, whole_in, object_of, list_of}
use Rattle.field_kinds.specs.Fields.{optional, required, default, written_text, written_or, refused_all}
use Rattle.call_reader.specs.Calls.{arguments}
use Rattle.template_reader.specs.Names.{resource_name}
use Rattle.template_reader.specs.Locks.{lock_said}
use Rattle.template_reader.specs.Templates.{template_fields}
use Rattle.wf_reader.specs.declared.metadata.Metadata.{Metadata}
use Rattle.wf_reader.specs.declared.workflow.Spec.{Spec}
use Rattle.wf_reader.specs.declared.workflow.SpecHead.{SpecHead}
use Rattle.wf_reader.specs.Limits.{position_digits, least_priority, most_priority}

-- ---- metadata (Kubernetes, `ObjectMeta`)

-- an item's position in the document, in five digits
abbrev pub position : ℕ → List ℕ
position item = replicate (position_digits - length (decimal item)) 48 ++ decimal item

abbrev pub made_name : ℕ → List ℕ → List ℕ
made_name item prefix = prefix ++ position item

abbrev pub named_by : ℕ → Path → Option (List ℕ) → Read (List ℕ)
named_by item at None = refuse_by rules.missing (field_of at (codes "name"))
named_by item at (Some prefix) = or_bad (field_of at (codes "generateName")) (resource_name (made_name item prefix))

-- a name that is made from its prefix; an empty one says nothing
abbrev pub generated : ℕ → Kind (List ℕ)
generated item at d = written_text (codes "generateName") at d >>= named_by item at

abbrev pub or_generated : Read (List ℕ) → Option (List ℕ) → Read (List ℕ)
or_generated made (Some name) = Ok name
or_generated made None = made

-- the name of a workflow; `generateName` is read only where there is none
abbrev pub name_said : ℕ → Kind (List ℕ)
name_said item at d = optional (of resource_name text) (codes "name") at d >>= or_generated (generated item at d)

-- an instant, in Unix seconds
abbrev pub created : List ℕ → Option ℤ
created t = result_ok (created_of t)

-- without a namespace, `default`; without a creation, the first second of Unix time
unfoldable pub metadata_fields : ℕ → Kind Metadata
metadata_fields item at d = do
  name ← name_said item at d
  namespace ← written_or (codes "default") (codes "namespace") at d
  seconds ← default (pos 0) (of created text) (codes "creationTimestamp") at d
  Ok (record { name = name; namespace = namespace; created = seconds })

-- ---- the workflow's spec (field reference, `WorkflowSpec`)

unfoldable pub spec_refused : Kind (Unit {0})
spec_refused at d = do
  _ ← refused_all (codes "workflowTemplateRef" ∷ codes "suspend" ∷ codes "shutdown" ∷ codes "hooks" ∷ []) at d
  refused_all
      (codes "templateDefaults" ∷ codes "parallelism" ∷ codes "activeDeadlineSeconds" ∷ codes "retryStrategy" ∷ []) at d

-- the fields before `templates`
unfoldable pub head_fields : List ℕ → Kind SpecHead
head_fields namespace at d = do
  _ ← spec_refused at d
  entrypoint ← required text (codes "entrypoint") at d
  given ← arguments at d
  priority ← default (pos 0) (whole_in least_priority most_priority) (codes "priority") at d
  on_exit ← written_text (codes "onExit") at d
  lock ← lock_said namespace at d
  Ok (record { entrypoint = entrypoint; arguments = given; priority = priority; on_exit = on_exit; lock = lock })

-- of a workflow in this namespace
unfoldable pub spec_fields : List ℕ → Kind Spec
spec_fields namespace at d = do
  head ← head_fields namespace at d
  templates ← required (list_of most_members (object_of (template_fields namespace))) (codes "templates") at d
  Ok (record { head = head; templates = templates })

-- ---- the workflow

abbrev pub manifest_of : Metadata → SpecHead → List Template → Manifest
manifest_of metadata head templates = record {
  name = metadata.name;
  namespace = metadata.namespace;
  created = metadata.created;
  priority = head.priority;
  entrypoint = head.entrypoint;
  on_exit = head.on_exit;
  arguments = head.arguments;
  lock = head.lock;
  templates = templates;
}

unfoldable pub workflow_fields : ℕ → Kind Manifest
workflow_fields item at d = do
  metadata ← required (object_of (metadata_fields item)) (codes "metadata") at d
  spec ← required (object_of (spec_fields metadata.namespace)) (codes "spec") at d
  Ok (manifest_of metadata spec.head spec.templates)

-- a workflow at this position of the document
abbrev pub workflow : ℕ → Kind Manifest
workflow item = object_of (workflow_fields item)
