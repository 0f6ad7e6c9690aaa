-- What is promised of the states that are made where a fact changes a tree.
use Rattle.std.specs.Prelude.{◌≡◌, ℕ, false, List, ◌∷◌, ◌++◌, Option, Some, None, Result, Ok, Err}
use Rattle.base_types.specs.declared.memory.Memory.{Memory}
use Rattle.tree_types.specs.declared.path.Sel.TheVariants.{Item}
use Rattle.tree_types.specs.Places.{sels_eq}
use Rattle.wf_manifest.specs.declared.calls.Call.{Call}
use Rattle.wf_manifest.specs.declared.calls.Dag.{Dag}
use Rattle.wf_manifest.specs.declared.calls.Loop.{Loop}
use Rattle.wf_manifest.specs.declared.templates.OutputDecl.{OutputDecl}
use Rattle.wf_manifest.specs.declared.templates.Template.{Template}
use Rattle.wf_manifest.specs.declared.manifest.Manifest.{Manifest}
use Rattle.scopes.specs.Substitution.{Scope}
use Rattle.meaning.specs.declared.lines.Place.{Place}
use Rattle.meaning.specs.Answers.{Sels, Answers}
use Rattle.meaning.specs.Lines.{Made}
use Rattle.meaning.specs.Steps.{group_made, members, steps_made}
use Rattle.meaning.specs.Dags.{dag_made}
use Rattle.meaning.specs.Calls.{template_made, one_made, calls}
use Rattle.meaning.specs.Trees.{top_call}
use Rattle.locality.specs.Answered.{SameBut}
use Rattle.tree_change.specs.Entered.{IsRunning}

-- what is said of the state, where there is one; none is always right
abbrev pub IfGiven : Result (Option Made) Memory → (Made → Type 0) → Type 0
IfGiven (Ok (Some z)) Holds = Holds z
IfGiven (Ok None) Holds = Unit {0}
IfGiven (Err e) Holds = Unit {0}

-- Where a state was what a call made by other answers, which differ at one path alone, the new one is what the call makes by
-- these answers. `rest` is what the path has behind the place.
module _ (m : Manifest) (A : Answers) (old : Made) (rest : Sels) (result : Result (Option Made) Memory) where
  -- the entrypoint, or the exit handler
  abbrev pub TopChanges : List ℕ → Type 0
  TopChanges name =
      (B : Answers) (changed : Sels) (g : Scope) (place : Place) → SameBut A B changed → changed ≡ place.sels ++ rest →
      old ≡ top_call m B g place name → IfGiven result (λ z. z ≡ top_call m A g place name)

  abbrev pub CallChanges : Call → Type 0
  CallChanges c =
      (B : Answers) (changed : Sels) (g : Scope) (left : ℕ) (prefix : List ℕ) (place : Place) (scope : Scope) →
      SameBut A B changed → changed ≡ place.sels ++ rest → old ≡ calls m B g left prefix place scope c →
      IfGiven result (λ z. z ≡ calls m A g left prefix place scope c)

  -- a call without a loop, or one item
  abbrev pub OneChanges : Call → Type 0
  OneChanges c =
      (B : Answers) (changed : Sels) (g : Scope) (left : ℕ) (prefix : List ℕ) (place : Place) (scope : Scope) →
      SameBut A B changed → changed ≡ place.sels ++ rest → old ≡ one_made m B g (calls m B g left) prefix place scope c →
      IfGiven result (λ z. z ≡ one_made m A g (calls m A g left) prefix place scope c)

  abbrev pub TemplateChanges : Template → Type 0
  TemplateChanges t =
      (B : Answers) (changed : Sels) (g : Scope) (left : ℕ) (place : Place) (inner : Scope) →
      SameBut A B changed → changed ≡ place.sels ++ rest → old ≡ template_made B (calls m B g left) place inner t →
      IfGiven result (λ z. z ≡ template_made A (calls m A g left) place inner t)

  -- a node over a group that runs on: the path goes on below it
  abbrev pub StepsChange : List (List Call) → Type 0
  StepsChange gs =
      (B : Answers) (changed : Sels) (g : Scope) (left : ℕ) (place : Place) (scope : Scope) (declared : List OutputDecl) →
      SameBut A B changed → changed ≡ place.sels ++ rest → old ≡ steps_made (calls m B g left) place scope declared gs → IsRunning old →
      IfGiven result (λ z. (z ≡ steps_made (calls m A g left) place scope declared gs) × IsRunning z × (sels_eq place.sels changed ≡ false))

  abbrev pub GroupChanges : List Call → Type 0
  GroupChanges cs =
      (B : Answers) (changed : Sels) (g : Scope) (left : ℕ) (group : Place) (scope : Scope) →
      SameBut A B changed → changed ≡ group.sels ++ rest → old ≡ group_made group (members (calls m B g left) group scope cs) →
      IfGiven result (λ z. (z ≡ group_made group (members (calls m A g left) group scope cs)) × IsRunning z)

  -- a DAG that runs on, and ran
  abbrev pub DagChanges : Dag → Type 0
  DagChanges d =
      (B : Answers) (changed : Sels) (g : Scope) (left : ℕ) (place : Place) (scope : Scope) (declared : List OutputDecl) →
      SameBut A B changed → changed ≡ place.sels ++ rest → old ≡ dag_made B (calls m B g left) place scope declared d →
      IfGiven result (λ z. (z ≡ dag_made A (calls m A g left) place scope declared d) × IsRunning z × (sels_eq place.sels changed ≡ false))

  abbrev pub LoopChanges : Call → Loop → ℕ → Type 0
  LoopChanges c l i =
      (B : Answers) (changed : Sels) (g : Scope) (left : ℕ) (prefix : List ℕ) (place : Place) (scope : Scope) →
      SameBut A B changed → changed ≡ place.sels ++ Item i ∷ rest → c.each ≡ Some l → old ≡ calls m B g left prefix place scope c → IsRunning old →
      IfGiven result (λ z. z ≡ calls m A g left prefix place scope c)
