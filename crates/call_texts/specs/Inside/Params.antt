-- The parameters of a workflow.
use Rattle.tree_types.specs.declared.outcome.Param.{Param}
use Rattle.wf_manifest.specs.declared.calls.Argument.{Argument}
use Rattle.scopes.specs.Substitution.{Scope, said}
use Rattle.meaning.specs.Trees.{found_or_empty}

-- what an argument says in a scope, and nothing where it is at fault
abbrev pub param_in : Scope → Argument → Param
param_in scope a = record { name = a.name; value = found_or_empty (said scope a.value) }
