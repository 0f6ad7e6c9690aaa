-- The premises of the laws hold together of worked scopes: a list of tags, and one in which a tag stands twice.
use Rattle.std.proofs.Common.{◌≡◌, ℕ, List, [], ◌∷◌, Bool, true, false, cond, Option, Some, None, refl}
use Rattle.std.specs.Prelude.{codes, bytes_eq}
use Rattle.wf_manifest.specs.declared.calls.Argument.{Argument}
use Rattle.wf_manifest.specs.declared.calls.Task.{Task}
use Rattle.wf_manifest.specs.declared.calls.Dag.{Dag}
use Rattle.wf_manifest.specs.declared.templates.Input.{Input}
use Rattle.wf_manifest.specs.declared.templates.Memoize.{Memoize}
use Rattle.wf_manifest.specs.declared.templates.Template.{Template}
use Rattle.wf_manifest.specs.declared.manifest.Manifest.{Manifest}
use Rattle.scopes.specs.Substitution.{Scope}
use Rattle.scopes.specs.Values.{HasValuesOf}
use Rattle.meaning.specs.declared.lines.Place.{Place}
use Rattle.meaning.specs.Answers.{Answers}
use Rattle.meaning.specs.Lines.{Made}
use Rattle.meaning.specs.Dags.{begun_task}
use Rattle.meaning.specs.Calls.{template_scope, body_made, memo_made, template_made, call_of_template, calls}
use Rattle.meaning.specs.Trees.{top_call}
use Rattle.scope_laws.specs.Agreeing.{Agree, FoundAlike, StandAlike}
use Rattle.scope_laws.proofs.Texts.{template_scopes_agree}
use Rattle.scope_laws.proofs.Dags.{begun_tasks_agree}
use Rattle.scope_laws.proofs.Calls.{templates_agree, memos_agree, bodies_agree, calls_of_templates_agree, calls_agree, top_call_agrees}

abbrev once : Scope
once = (codes "inputs.parameters.x", codes "1") ∷ []

-- the value that counts, and one behind it
abbrev twice : Scope
twice = (codes "inputs.parameters.x", codes "1") ∷ (codes "inputs.parameters.x", codes "2") ∷ []

hidden : {X : Type 0} (b : Bool) (x y z : X) → cond b x (cond b y z) ≡ cond b x z
hidden true x y z = refl
hidden false x y z = refl

like : HasValuesOf twice once
like tag = hidden (bytes_eq (codes "inputs.parameters.x") tag) (Some (codes "1")) (Some (codes "2")) None

enters : (given : List Argument) (inputs : List Input) → FoundAlike (template_scope twice twice given inputs) (template_scope once once given inputs)
enters given inputs = template_scopes_agree twice once twice once given inputs like like

module _ (m : Manifest) (A : Answers) (left : ℕ) (place : Place) where
  call_alike : Agree (calls m A twice left) (calls m A once left)
  call_alike = calls_agree m A twice once left like

  template_alike : (t : Template) → template_made A (calls m A twice left) place twice t ≡ template_made A (calls m A once left) place once t
  template_alike t = templates_agree A (calls m A twice left) (calls m A once left) place twice once t call_alike like

  memo_alike : (t : Template) (c : Option Memoize) → memo_made A (calls m A twice left) place twice t c ≡ memo_made A (calls m A once left) place once t c
  memo_alike t c = memos_agree A (calls m A twice left) (calls m A once left) place twice once t c call_alike like

  body_alike : (t : Template) → body_made A (calls m A twice left) place twice t ≡ body_made A (calls m A once left) place once t
  body_alike t = bodies_agree A (calls m A twice left) (calls m A once left) place twice once t call_alike like

  called_alike : (name : List ℕ) (given : List Argument) (follow : Made → Made)
      → call_of_template m A twice (calls m A twice left) place twice name given follow ≡ call_of_template m A once (calls m A once left) place once name given follow
  called_alike name given follow =
      calls_of_templates_agree m A twice once (calls m A twice left) (calls m A once left) place twice once name given follow follow like call_alike like (λ b. refl)

  begun_alike : (d : Dag) (i : ℕ) (t : Task) → StandAlike (begun_task A (calls m A twice left) place twice d twice i t) (begun_task A (calls m A once left) place once d once i t)
  begun_alike d i t = begun_tasks_agree A (calls m A twice left) (calls m A once left) place twice once d twice once i t call_alike like like

  top_alike : (template : List ℕ) → top_call m A twice place template ≡ top_call m A once place template
  top_alike template = top_call_agrees m A twice once place template like
