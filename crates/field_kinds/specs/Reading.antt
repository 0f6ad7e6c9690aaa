-- Reading with a first refusal. That the first counts is this project's own.
use Rattle.std.specs.Prelude.{ℕ, Option, Some, None, Result, Ok, Err}
use Rattle.serde_json.specs.Data.{Data}
use Rattle.json_fields.specs.Paths.{Path}
use Rattle.field_kinds.specs.Rules as rules
pub use Rattle.base_types.specs.Results.{◌>>=◌}

-- a broken rule, and the path of what breaks it
pub record Refusal : Type 0 where
  pub rule : ℕ
  pub field : Path

-- what is read, or the first refusal
abbrev pub Read : Type 0 → Type 0
Read A = Result A Refusal

-- what a value at a path reads as
abbrev pub Kind : Type 0 → Type 0
Kind A = Path → Data → Read A

abbrev pub refuse_by : {A : Type 0} → ℕ → Path → Read A
refuse_by rule path = Err (record { rule = rule; field = path })

abbrev pub refused_unless : {A : Type 0} → ℕ → Path → Option A → Read A
refused_unless rule path (Some x) = Ok x
refused_unless rule path None = refuse_by rule path

abbrev pub or_missing : {A : Type 0} → Path → Option A → Read A
or_missing = refused_unless rules.missing

abbrev pub or_wrong : {A : Type 0} → Path → Option A → Read A
or_wrong = refused_unless rules.wrong_kind

abbrev pub or_bad : {A : Type 0} → Path → Option A → Read A
or_bad = refused_unless rules.bad_text
