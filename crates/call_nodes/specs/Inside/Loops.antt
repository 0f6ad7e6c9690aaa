-- The outputs of a looped call, from the outputs of its items.
use Rattle.std.specs.Prelude.{ℕ, List, Option, Some, None, map}
use Rattle.std.specs.Borrow.{Bor}
use Rattle.serde_json.specs.Data.{Data, null, string}
use Rattle.tree_types.specs.declared.outcome.Param.{Param}
use Rattle.tree_types.specs.declared.outcome.Outputs.{Outputs}
use Rattle.wf_manifest.specs.declared.templates.OutputDecl.{OutputDecl}
use Rattle.meaning.specs.Outputs.{param}
use Rattle.meaning.specs.Calls.{json_text}

abbrev pub text_or_null : Option (List ℕ) → Data
text_or_null None = null
text_or_null (Some t) = string t

abbrev pub results_text : List Outputs → List ℕ
results_text os = json_text (map (λ o. o.result) os)

abbrev pub output_text : List ℕ → List Outputs → List ℕ
output_text name os = json_text (map (λ o. param name o.params) os)

abbrev pub output : List Outputs → OutputDecl → Param
output os d = record { name = d.name; value = output_text d.name os }

-- what the values of items are as data
abbrev pub values : (Outputs → Option (List ℕ)) → List (Bor Outputs) → List Data
values read items = map (λ o. text_or_null (read o.now)) items
