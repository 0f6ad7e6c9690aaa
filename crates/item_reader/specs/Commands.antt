-- What a `Commands` resource reads as. It is this project's own; what the commands do is that of `argo resume` and `argo
-- resubmit` (Argo, "Argo CLI").
use Rattle.std.specs.Prelude.{ℕ, List, false, Option, Some, None, is_some, Ok, codes, pos}
use Rattle.base_types.specs.Limits.{latest_tick, most_members}
use Rattle.field_kinds.specs.Reading.{◌>>=◌, Kind, refuse_by}
use Rattle.field_kinds.specs.Rules as rules
use Rattle.field_kinds.specs.Kinds.{text, flag, number_in, of, object_of}
use Rattle.field_kinds.specs.Fields.{optional, required, default, default_list, no_second}
use Rattle.template_reader.specs.Names.{resource_name}
use Rattle.wf_reader.specs.Workflows.{created}
use Rattle.item_reader.specs.declared.commands.Command.{Command}
use Rattle.item_reader.specs.declared.commands.Command.TheVariants.{Resume, Resubmit}

-- a resubmission without a creation is made at the first second of Unix time
unfoldable pub resubmit : ℕ → List ℕ → Kind Command
resubmit tick old at d = do
  name ← required (of resource_name text) (codes "name") at d
  memoized ← default false flag (codes "memoized") at d
  made ← default (pos 0) (of created text) (codes "creationTimestamp") at d
  Ok (Resubmit tick old name memoized made)

-- one action, or the command as a whole is missing one
abbrev pub action : ℕ → Option (List ℕ) → Option (List ℕ) → Kind Command
action tick (Some workflow) _ at d = Ok (Resume tick workflow)
action tick None (Some old) at d = resubmit tick old at d
action tick None None at d = refuse_by rules.missing at

-- the tick, then each action; a second one is refused at its place
unfoldable pub command_fields : Kind Command
command_fields at d = do
  tick ← required (number_in 0 latest_tick) (codes "tick") at d
  resumed ← optional (of resource_name text) (codes "resume") at d
  _ ← no_second (is_some resumed) (codes "resubmit") at d
  resubmitted ← optional (of resource_name text) (codes "resubmit") at d
  action tick resumed resubmitted at d

abbrev pub commands : Kind (List Command)
commands = default_list most_members (object_of command_fields) (codes "commands")
