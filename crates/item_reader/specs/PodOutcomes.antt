-- What a `PodOutcomes` resource reads as. All of it is this project's own but for the words of the phases (field
-- reference, `NodeStatus.phase`).
use Rattle.std.specs.Prelude.{ℕ, List, [], false, Option, Some, None, Ok, if◌then◌else◌, bytes_eq, codes, IsTrue, refl}
use Rattle.base_types.specs.Limits.{most_seconds}
use Rattle.tree_types.specs.declared.phase.Phase.{Phase}
use Rattle.tree_types.specs.declared.phase.Phase.TheVariants as phase
use Rattle.tree_types.specs.declared.outcome.Param.{Param}
use Rattle.tree_types.specs.Phases.{is_end}
use Rattle.field_kinds.specs.Reading.{◌>>=◌, Kind}
use Rattle.field_kinds.specs.Kinds.{text, any_text, flag, number_in, of, object_of, all_of}
use Rattle.field_kinds.specs.Fields.{optional, required, default}
use Rattle.field_kinds.specs.Maps.{map_of}
use Rattle.template_reader.specs.Names.{resource_name}
use Rattle.item_reader.specs.declared.ends.PodEnd.{PodEnd}
use Rattle.item_reader.specs.declared.ends.PodEnd.TheVariants.{Succeeded, Failed, Error}
use Rattle.item_reader.specs.declared.outcomes.Left.{Left}
use Rattle.item_reader.specs.declared.outcome.PlannedOutcome.{PlannedOutcome}
use Rattle.item_reader.specs.declared.outcomes.PlannedPod.{PlannedPod}
use Rattle.item_reader.specs.declared.outcomes.Plan.{Plan}

-- ---- ends

-- the words of the ends of a pod
abbrev pub pod_end : List ℕ → Option PodEnd
pod_end t =
    if bytes_eq t (codes "Succeeded") then Some Succeeded
    else (if bytes_eq t (codes "Failed") then Some Failed
    else (if bytes_eq t (codes "Error") then Some Error else None))

abbrev pub phase_of : PodEnd → Phase
phase_of Succeeded = phase.Succeeded
phase_of Failed = phase.Failed
phase_of Error = phase.Error

abbrev pub phase_of-is_end : (end : PodEnd) → IsTrue (is_end (phase_of end))
phase_of-is_end Succeeded = refl
phase_of-is_end Failed = refl
phase_of-is_end Error = refl

-- ---- outcomes

abbrev pub outcome_by : PodEnd → Left → PlannedOutcome
outcome_by end left = record {
  phase = phase_of end;
  result = left.result;
  params = left.params;
  transient = left.transient;
  seconds = left.seconds;
  ended = phase_of-is_end end;
}

unfoldable pub output : List ℕ → Kind Param
output name at d = do
  value ← any_text at d
  Ok (record { name = name; value = value })

-- output parameters, in the order of their names
abbrev pub outputs : Kind (List Param)
outputs = map_of output

abbrev pub outputs_or_none : Kind (List Param)
outputs_or_none = default [] outputs (codes "parameters")

-- an outcome
unfoldable pub outcome_fields : Kind PlannedOutcome
outcome_fields at d = do
  end ← required (of pod_end text) (codes "phase") at d
  result ← optional any_text (codes "result") at d
  params ← outputs_or_none at d
  transient ← default false flag (codes "transient") at d
  seconds ← default 0 (number_in 0 most_seconds) (codes "seconds") at d
  Ok (outcome_by end (record { result = result; params = params; transient = transient; seconds = seconds }))

-- an outcome for the pod of a node
unfoldable pub pod_fields : Kind PlannedPod
pod_fields at d = do
  outcome ← outcome_fields at d
  workflow ← required (of resource_name text) (codes "workflow") at d
  node ← required text (codes "node") at d
  Ok (record { workflow = workflow; node = node; outcome = outcome })

-- ---- plans

unfoldable pub plan_fields : Kind Plan
plan_fields at d = do
  otherwise ← optional (object_of outcome_fields) (codes "default") at d
  pods ← default [] (all_of (object_of pod_fields)) (codes "pods") at d
  Ok (record { default = otherwise; pods = pods })
