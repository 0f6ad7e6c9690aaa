-- What each manifest that is read keeps of `Valid`: its lists and its retries are within their limits.
use Rattle.std.specs.Prelude.{◌≡◌, ℕ, Ok, IsTrue}
use Rattle.serde_json.specs.Data.{Data}
use Rattle.json_fields.specs.Paths.{Path}
use Rattle.wf_manifest.specs.declared.manifest.Manifest.{Manifest}
use Rattle.wf_manifest.specs.Valid.{lists_are_short, parameters_are_short, retries_fit}
use Rattle.wf_reader.specs.Workflows.{workflow}

pub record IsShort (m : Manifest) : Type 0 where
  pub lists : IsTrue (lists_are_short m)
  pub parameters : IsTrue (parameters_are_short m)
  pub retries : IsTrue (retries_fit m)

-- whatever a value reads as
abbrev pub ReadsShort : Type 0
ReadsShort = (item : ℕ) (at : Path) (d : Data) (m : Manifest) → workflow item at d ≡ Ok m → IsShort m
