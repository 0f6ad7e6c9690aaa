-- The first form of manifests: pods and steps alone. Which forms come first is this project's own.
use Rattle.std.specs.Prelude.{◌≡◌, [], None, All}
use Rattle.wf_manifest.specs.declared.calls.Call.{Call}
use Rattle.wf_manifest.specs.declared.templates.Body.{Body}
use Rattle.wf_manifest.specs.declared.templates.Body.TheVariants as body
use Rattle.wf_manifest.specs.declared.templates.Template.{Template}
use Rattle.wf_manifest.specs.declared.manifest.Manifest.{Manifest}
use Rattle.wf_manifest.specs.Valid.{calls_in}

-- a step that says no more than its name, its template and `continueOn`
pub record IsPlainCall (c : Call) : Type 0 where
  pub no_arguments : c.arguments ≡ []
  pub no_when : c.when ≡ None
  pub no_loop : c.each ≡ None
  pub no_hook : c.exit ≡ None

abbrev pub IsPlainBody : Body → Type 0
IsPlainBody body.Pod = Unit {0}
IsPlainBody (body.Steps groups) = All IsPlainCall (calls_in groups)
IsPlainBody (body.Dag dag) = ⊥
IsPlainBody (body.Suspend duration) = ⊥

-- a template that says no more than its name and its body
pub record IsPlainTemplate (t : Template) : Type 0 where
  pub no_inputs : t.inputs ≡ []
  pub no_outputs : t.outputs ≡ []
  pub no_lock : t.lock ≡ None
  pub no_memoize : t.memoize ≡ None
  pub no_retry : t.retry ≡ None
  pub plain_body : IsPlainBody t.body

pub record IsFirstForm (m : Manifest) : Type 0 where
  pub no_exit_handler : m.on_exit ≡ None
  pub no_arguments : m.arguments ≡ []
  pub no_lock : m.lock ≡ None
  pub plain_templates : All IsPlainTemplate m.templates
