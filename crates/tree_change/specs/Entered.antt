-- Calls that went on to their templates.
use Rattle.std.specs.Prelude.{◌≡◌, ℕ, List, Some, Ok}
use Rattle.wf_manifest.specs.declared.calls.Argument.{Argument}
use Rattle.wf_manifest.specs.declared.templates.Template.{Template}
use Rattle.wf_manifest.specs.declared.manifest.Manifest.{Manifest}
use Rattle.scopes.specs.Substitution.{Scope}
use Rattle.meaning.specs.Lines.{Made}
use Rattle.meaning.specs.Calls.{template_named, template_scope}
use Rattle.tree_types.specs.declared.phase.Phase.TheVariants.{Running}

abbrev pub IsRunning : Made → Type 0
IsRunning b = b.own.node.phase ≡ Running

-- a call of a template with arguments went on to the template's node, in this scope
pub record Enters (m : Manifest) (g : Scope) (scope : Scope) (name : List ℕ) (given : List Argument) (t : Template) (inner : Scope) : Type 0 where
  pub found : template_named m name ≡ Some t
  pub said : template_scope g scope given t.inputs ≡ Ok inner
