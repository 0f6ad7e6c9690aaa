-- What a checked manifest keeps speaks neither of its name nor of its creation.
use Rattle.std.proofs.Common.{ℤ}
use Rattle.wf_manifest.specs.declared.manifest.Manifest.{Manifest}
use Rattle.wf_manifest.specs.Valid.{Valid}
use Rattle.law.specs.Documents.{Text}
use Rattle.law.specs.Justified.{renamed}

pub valid_renamed : (m : Manifest) (name : Text) (created : ℤ) → Valid m → Valid (renamed m name created)
valid_renamed m name created v = record {
  templates_differ = v.templates_differ;
  steps_differ = v.steps_differ;
  step_names = v.step_names;
  parameters_differ = v.parameters_differ;
  parameter_names = v.parameter_names;
  calls = v.calls;
  entry = v.entry;
  short = v.short;
  short_parameters = v.short_parameters;
  values = v.values;
  entry_values = v.entry_values;
  tasks = v.tasks;
  one_spelling = v.one_spelling;
  no_circle = v.no_circle;
  retries = v.retries;
}
