-- The code of a workflow, by which contracts tell two of them apart.
use Rattle.std.specs.Prelude.{List, refl}
use Rattle.std.specs.Coded.{codes, Coded, code_by, coded×}
use Rattle.depends_expr.specs.Expression.{expression_code}
use Rattle.tree_types.specs.declared.fact.Fact.{Fact}
use Rattle.wf_manifest.specs.declared.manifest.Manifest.{Manifest}
use Rattle.wf_manifest.specs.JsonCode.{json_code}
use Rattle.tree_incr.specs.Workflows.{Workflow}

manifest_code : Coded Manifest
manifest_code = hlevel (codes, expression_code, json_code)

facts_code : Coded (List Fact)
facts_code = hlevel codes

pub workflow_code : Coded Workflow
workflow_code = code_by (Manifest × List Fact) (coded× manifest_code facts_code) (λ w. (w.manifest, w.facts)) (λ p. record { manifest = p.0; facts = p.1 }) (λ _. refl)
