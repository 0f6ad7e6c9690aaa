-- What a `ConfigMap` reads as (Kubernetes, "ConfigMaps"). Other members than its name and its data are not read.
use Rattle.std.specs.Prelude.{ℕ, List, [], Ok, codes}
use Rattle.json_fields.specs.Paths.{field_of}
use Rattle.tree_types.specs.declared.outcome.Param.{Param}
use Rattle.field_kinds.specs.Reading.{◌>>=◌, Kind, or_missing, or_bad}
use Rattle.field_kinds.specs.Kinds.{text, of, object_of}
use Rattle.field_kinds.specs.Fields.{optional, required, default}
use Rattle.field_kinds.specs.Maps.{map_of}
use Rattle.template_reader.specs.Names.{resource_name, config_key}
use Rattle.item_reader.specs.declared.configs.Config.{Config}

abbrev pub name_field : Kind (List ℕ)
name_field = required (of resource_name text) (codes "name")

-- without metadata it is the name that is missing
abbrev pub name_said : Kind (List ℕ)
name_said at d =
    optional (object_of name_field) (codes "metadata") at d
    >>= or_missing (field_of (field_of at (codes "metadata")) (codes "name"))

-- the key is looked at before its text
unfoldable pub entry : List ℕ → Kind Param
entry key at d = do
  name ← or_bad at (config_key key)
  value ← text at d
  Ok (record { name = name; value = value })

abbrev pub entries : Kind (List Param)
entries = map_of entry

abbrev pub entries_or_none : Kind (List Param)
entries_or_none = default [] entries (codes "data")

unfoldable pub config_fields : Kind Config
config_fields at d = do
  name ← name_said at d
  entries ← entries_or_none at d
  Ok (record { name = name; entries = entries })
