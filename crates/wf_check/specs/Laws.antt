-- What the first refusal by a rule is, and what a refusal by the rule of circles means.
use Rattle.std.specs.Prelude.{◌≡◌, ◌≢◌, ℕ, List, ◌∷◌, ◌++◌, All}
use Rattle.std.specs.List.{Contains}
use Rattle.field_kinds.specs.Reading.{Refusal}
use Rattle.wf_manifest.specs.declared.calls.Dag.{Dag}
use Rattle.wf_manifest.specs.declared.templates.Body.TheVariants as body
use Rattle.wf_manifest.specs.declared.templates.Template.{Template}
use Rattle.wf_manifest.specs.declared.manifest.Manifest.{Manifest}
use Rattle.task_order.specs.Ancestors.{IsAncestor}
use Rattle.wf_places.specs.declared.place.Place.{Place}

abbrev pub NoneBreaks : ℕ → List Place → Type 0
NoneBreaks rule places = All (λ p. p.rule ≢ rule) places

-- the rule is broken there, and nowhere in front
pub record IsFirst (rule : ℕ) (places : List Place) (refusal : Refusal) : Type 0 where
  pub front : List Place
  pub place : Place
  pub rest : List Place
  pub stands : places ≡ front ++ place ∷ rest
  pub breaks : place.rule ≡ rule
  pub none_before : NoneBreaks rule front
  pub refused : refusal ≡ record { rule = rule; field = place.field }

-- a template of the manifest is a DAG in which the task of some name is its own ancestor
pub record HasCircle (m : Manifest) : Type 0 where
  pub template : Template
  pub dag : Dag
  pub name : List ℕ
  pub among : Contains m.templates template
  pub is : template.body ≡ body.Dag dag
  pub own : IsAncestor dag.tasks name name
