-- What a template reads as (field reference, `Template`): each object is a list of lines in reading order, its refused
-- fields first. Which fields are refused, and by which refusal, is this project's own.
use Rattle.std.specs.Prelude.{ℕ, List, [], ◌∷◌, Bool, true, false, not, ◌&&◌, if◌then◌else◌, is_some, Option, Some, None, Ok, codes}
use Rattle.serde_json.specs.Data.{Data}
use Rattle.base_types.specs.Limits.{most_members}
use Rattle.json_fields.specs.Paths.{field_of}
use Rattle.wf_manifest.specs.declared.templates.Input.{Input}
use Rattle.wf_manifest.specs.declared.templates.OutputDecl.{OutputDecl}
use Rattle.wf_manifest.specs.declared.templates.Memoize.{Memoize}
use Rattle.wf_manifest.specs.declared.templates.Backoff.{Backoff}
use Rattle.wf_manifest.specs.declared.templates.Retry.{Retry}
use Rattle.wf_manifest.specs.declared.templates.Policy.TheVariants.{OnFailure}
use Rattle.wf_manifest.specs.declared.templates.Body.{Body}
use Rattle.wf_manifest.specs.declared.templates.Body.TheVariants as body
use Rattle.wf_manifest.specs.declared.templates.Template.{Template}
use Rattle.tag_text.specs.declared.part.Part.{Part}
use Rattle.field_kinds.specs.Reading.{◌>>=◌, Kind, refuse_by, or_missing}
use Rattle.field_kinds.specs.Rules as rules
use Rattle.field_kinds.specs.Kinds.{text, any_text, of, json_object, object_of}
use Rattle.field_kinds.specs.Fields.{optional, required, required_if, default, default_list, refused_all, refused_if, refused_unless_false, has, no_second, unsupported_if}
use Rattle.call_reader.specs.Tags.{tagged}
use Rattle.call_reader.specs.Calls.{groups, dag_fields}
use Rattle.template_reader.specs.declared.bodies.BodyKind.{BodyKind}
use Rattle.template_reader.specs.declared.bodies.BodyKind.TheVariants as kind
use Rattle.template_reader.specs.declared.outputs.Source.{Source}
use Rattle.template_reader.specs.declared.templates.TemplateHead.{TemplateHead}
use Rattle.template_reader.specs.declared.templates.TemplateTail.{TemplateTail}
use Rattle.template_reader.specs.Names.{resource_name}
use Rattle.template_reader.specs.Texts.{retry_limit, backoff_factor, seconds, policy_named}
use Rattle.template_reader.specs.Locks.{lock_said}

-- ---- which body a template has

-- the first of these fields that is there
abbrev pub first_body : Data → Option BodyKind
first_body d =
    if has (codes "container") d then Some kind.Container
    else (if has (codes "script") d then Some kind.Script
    else (if has (codes "steps") d then Some kind.Steps
    else (if has (codes "dag") d then Some kind.Dag
    else (if has (codes "suspend") d then Some kind.Suspend else None))))

-- a container or a script
abbrev pub is_pod : Option BodyKind → Bool
is_pod (Some kind.Container) = true
is_pod (Some kind.Script) = true
is_pod _ = false

-- steps or a DAG
abbrev pub is_inner : Option BodyKind → Bool
is_inner (Some kind.Steps) = true
is_inner (Some kind.Dag) = true
is_inner _ = false

abbrev pub is_suspend : Option BodyKind → Bool
is_suspend (Some kind.Suspend) = true
is_suspend _ = false

-- any body but a container or a script
abbrev pub is_no_pod : Option BodyKind → Bool
is_no_pod found = is_some found && not (is_pod found)

-- any body but steps or a DAG
abbrev pub is_not_inner : Option BodyKind → Bool
is_not_inner found = is_some found && not (is_inner found)

-- ---- inputs (field reference, `Inputs`)

unfoldable pub input_fields : Kind Input
input_fields at d = do
  _ ← refused_all (codes "valueFrom" ∷ []) at d
  name ← required text (codes "name") at d
  value ← optional (tagged any_text) (codes "value") at d
  otherwise ← optional (tagged any_text) (codes "default") at d
  Ok (record { name = name; value = value; default = otherwise })

unfoldable pub inputs_fields : Kind (List Input)
inputs_fields at d = do
  _ ← refused_all (codes "artifacts" ∷ []) at d
  default_list most_members (object_of input_fields) (codes "parameters") at d

abbrev pub inputs : Kind (List Input)
inputs = default [] (object_of inputs_fields) (codes "inputs")

-- ---- outputs (field reference, `Outputs` and `ValueFrom`), by the template's body

-- Of `path` and `parameter` the one that does not belong to the body is refused, and the other must be there. Where
-- there is no body, neither is looked at.
unfoldable pub source_fields : Option BodyKind → Kind Source
source_fields found at d = do
  _ ← refused_all
      (codes "event" ∷ codes "expression" ∷ codes "jqFilter" ∷ codes "jsonPath" ∷ codes "supplied" ∷ codes "configMapKeyRef" ∷ []) at d
  _ ← refused_if (is_no_pod found) (codes "path") at d
  _ ← refused_if (is_not_inner found) (codes "parameter") at d
  path ← required_if (is_pod found) text (codes "path") at d
  from ← required_if (is_inner found) (tagged text) (codes "parameter") at d
  otherwise ← optional text (codes "default") at d
  Ok (record { path = path; from = from; default = otherwise })

unfoldable pub output_fields : Option BodyKind → Kind OutputDecl
output_fields found at d = do
  _ ← refused_all (codes "globalName" ∷ codes "value" ∷ []) at d
  name ← required text (codes "name") at d
  source ← required (object_of (source_fields found)) (codes "valueFrom") at d
  Ok (record { name = name; path = source.path; from = source.from; default = source.default })

unfoldable pub outputs_fields : Option BodyKind → Kind (List OutputDecl)
outputs_fields found at d = do
  _ ← refused_all (codes "artifacts" ∷ codes "result" ∷ codes "exitCode" ∷ []) at d
  default_list most_members (object_of (output_fields found)) (codes "parameters") at d

abbrev pub outputs : Option BodyKind → Kind (List OutputDecl)
outputs found = default [] (object_of (outputs_fields found)) (codes "outputs")

-- ---- memoization (field reference, `Memoize` and `Cache`)

abbrev pub config_map_fields : Kind (Option (List ℕ))
config_map_fields = optional (of resource_name text) (codes "name")

abbrev pub cache_fields : Kind (Option (List ℕ))
cache_fields = default None (object_of config_map_fields) (codes "configMap")

abbrev pub cache_if_named : Kind (Option (List ℕ))
cache_if_named = default None (object_of cache_fields) (codes "cache")

-- The ConfigMap by which a cache is named. Where anything on the way to its name is absent, the name is missing.
abbrev pub cache_name : Kind (List ℕ)
cache_name at d = cache_if_named at d >>= or_missing (field_of at (codes "cache.configMap.name"))

-- refused as a whole on a suspend template
unfoldable pub memoize_fields : Option BodyKind → Kind Memoize
memoize_fields found at d = do
  _ ← unsupported_if (is_suspend found) at
  key ← required (tagged text) (codes "key") at d
  max_age ← optional (of seconds text) (codes "maxAge") at d
  cache ← cache_name at d
  Ok (record { key = key; max_age = max_age; cache = cache })

-- ---- retries (field reference, `RetryStrategy` and `Backoff`)

unfoldable pub backoff_fields : Kind Backoff
backoff_fields at d = do
  _ ← refused_all (codes "cap" ∷ []) at d
  duration ← default 0 (of seconds any_text) (codes "duration") at d
  factor ← default 1 (of backoff_factor any_text) (codes "factor") at d
  max_duration ← optional (of seconds any_text) (codes "maxDuration") at d
  Ok (record { duration = duration; factor = factor; max_duration = max_duration })

-- refused as a whole on any body but a container or a script
unfoldable pub retry_fields : Option BodyKind → Kind Retry
retry_fields found at d = do
  _ ← refused_all (codes "expression" ∷ codes "affinity" ∷ []) at d
  _ ← unsupported_if (is_no_pod found) at
  limit ← optional (of retry_limit any_text) (codes "limit") at d
  policy ← default OnFailure (of policy_named any_text) (codes "retryPolicy") at d
  backoff ← optional (object_of backoff_fields) (codes "backoff") at d
  Ok (record { limit = limit; policy = policy; backoff = backoff })

-- ---- bodies

-- (field reference, `SuspendTemplate`)
abbrev pub suspend_fields : Kind (Option (List Part))
suspend_fields = optional (tagged any_text) (codes "duration")

-- what a container or a script says is not read
abbrev pub body_by : Option BodyKind → Kind Body
body_by None at d = refuse_by rules.missing at
body_by (Some kind.Container) at d = optional json_object (codes "container") at d >>= λ _. Ok body.Pod
body_by (Some kind.Script) at d = optional json_object (codes "script") at d >>= λ _. Ok body.Pod
body_by (Some kind.Steps) at d = required groups (codes "steps") at d >>= λ read. Ok (body.Steps read)
body_by (Some kind.Dag) at d = required (object_of dag_fields) (codes "dag") at d >>= λ read. Ok (body.Dag read)
body_by (Some kind.Suspend) at d =
    required (object_of suspend_fields) (codes "suspend") at d >>= λ read. Ok (body.Suspend read)

-- the fields of bodies behind one of them
abbrev pub behind : Option BodyKind → List (List ℕ)
behind None = []
behind (Some kind.Container) = codes "script" ∷ codes "steps" ∷ codes "dag" ∷ codes "suspend" ∷ []
behind (Some kind.Script) = codes "steps" ∷ codes "dag" ∷ codes "suspend" ∷ []
behind (Some kind.Steps) = codes "dag" ∷ codes "suspend" ∷ []
behind (Some kind.Dag) = codes "suspend" ∷ []
behind (Some kind.Suspend) = []

-- each of these fields would be a second one
abbrev pub no_others : List (List ℕ) → Kind (Unit {0})
no_others [] at d = Ok tt
no_others (name ∷ names) at d = no_second true name at d >>= λ _. no_others names at d

-- the first body, and no second
unfoldable pub body_in : Option BodyKind → Kind Body
body_in found at d = do
  read ← body_by found at d
  _ ← no_others (behind found) at d
  Ok read

-- ---- templates

unfoldable pub template_refused : Kind (Unit {0})
template_refused at d = do
  _ ← refused_all
      (codes "http" ∷ codes "plugin" ∷ codes "data" ∷ codes "resource" ∷ codes "containerSet" ∷ []) at d
  _ ← refused_unless_false (codes "daemon") at d
  refused_all (codes "parallelism" ∷ codes "activeDeadlineSeconds" ∷ codes "timeout" ∷ codes "failFast" ∷ []) at d

-- the first fields of a template, and its last ones
unfoldable pub head_fields : List ℕ → Kind TemplateHead
head_fields namespace at d = do
  _ ← template_refused at d
  name ← required text (codes "name") at d
  taken ← inputs at d
  given ← outputs (first_body d) at d
  lock ← lock_said namespace at d
  Ok (record { name = name; inputs = taken; outputs = given; lock = lock })

unfoldable pub tail_fields : Kind TemplateTail
tail_fields at d = do
  memoize ← optional (object_of (memoize_fields (first_body d))) (codes "memoize") at d
  retry ← optional (object_of (retry_fields (first_body d))) (codes "retryStrategy") at d
  body ← body_in (first_body d) at d
  Ok (record { memoize = memoize; retry = retry; body = body })

abbrev pub template_of : TemplateHead → TemplateTail → Template
template_of head tail = record {
  name = head.name;
  inputs = head.inputs;
  outputs = head.outputs;
  lock = head.lock;
  memoize = tail.memoize;
  retry = tail.retry;
  body = tail.body;
}

-- a template of a workflow in this namespace
unfoldable pub template_fields : List ℕ → Kind Template
template_fields namespace at d = do
  head ← head_fields namespace at d
  tail ← tail_fields at d
  Ok (template_of head tail)
