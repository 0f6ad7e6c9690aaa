-- A call whose node runs went on to its template.
use Rattle.std.proofs.Common.{◌≡◌, ℕ, List, Bool, true, false, Option, Some, None, Ok, Err, refl, sym, ap, ◌∙◌}
use Rattle.std.specs.Prelude.{not}
use Rattle.tree_types.specs.declared.node.Kind.{Kind}
use Rattle.tag_text.specs.declared.part.Part.{Part}
use Rattle.wf_manifest.specs.declared.calls.Argument.{Argument}
use Rattle.wf_manifest.specs.declared.calls.Hook.{Hook}
use Rattle.wf_manifest.specs.declared.templates.Template.{Template}
use Rattle.wf_manifest.specs.declared.manifest.Manifest.{Manifest}
use Rattle.scopes.specs.Substitution.{Found, Scope, has_item_tag}
use Rattle.meaning.specs.declared.lines.Place.{Place}
use Rattle.meaning.specs.Answers.{Answers}
use Rattle.meaning.specs.Lines.{Made}
use Rattle.meaning.specs.Steps.{Caller}
use Rattle.meaning.specs.Calls.{template_named, template_scope, truth_said, stopped_by, stopped_if, stopped_before_loop, stopped_at_item, unless_stopped, hook_runs, hooked_if, hooked, template_made, entry, call_by, call_of_template}
use Rattle.tree_change.specs.Entered.{IsRunning, Enters}

-- ---- conditions

stop_by : (place : Place) (k : Kind) (f : Found Bool) (b : Made) → IsRunning (unless_stopped (stopped_by place k f) b) → stopped_by place k f ≡ None
stop_by place k (Err fault) b runs = absurd (cc)
stop_by place k (Ok false) b runs = absurd (cc)
stop_by place k (Ok true) b runs = refl

stop_if : (c : Bool) (place : Place) (k : Kind) (scope : Scope) (w : List Part) (b : Made) → IsRunning (unless_stopped (stopped_if c place k scope w) b) → stopped_if c place k scope w ≡ None
stop_if true place k scope w b runs = stop_by place k (truth_said scope w) b runs
stop_if false place k scope w b runs = refl

pub goes_on_before : (place : Place) (k : Kind) (scope : Scope) (w : Option (List Part)) (b : Made) → IsRunning (unless_stopped (stopped_before_loop place k scope w) b) → stopped_before_loop place k scope w ≡ None
goes_on_before place k scope None b runs = refl
goes_on_before place k scope (Some w) b runs = stop_if (not (has_item_tag w)) place k scope w b runs

pub goes_on_at : (place : Place) (k : Kind) (scope : Scope) (w : Option (List Part)) (b : Made) → IsRunning (unless_stopped (stopped_at_item place k scope w) b) → stopped_at_item place k scope w ≡ None
goes_on_at place k scope None b runs = refl
goes_on_at place k scope (Some w) b runs = stop_if (has_item_tag w) place k scope w b runs

-- ---- arguments

module _ (A : Answers) (called : Caller) (place : Place) (t : Template) (follow : Made → Made) where
  said_by : (f : Found Scope) → IsRunning (entry A called place t follow f) → (inner : Scope) × (f ≡ Ok inner)
  said_by (Err fault) runs = absurd (cc)
  said_by (Ok inner) runs = (inner, refl)

module _ (m : Manifest) (A : Answers) (g : Scope) (called : Caller) (place : Place) (scope : Scope) (name : List ℕ) (given : List Argument) (follow : Made → Made) where
  found_by : (o : Option Template) → IsRunning (call_by A g called place scope given follow o) → (t : Template) × (o ≡ Some t)
  found_by None runs = absurd (cc)
  found_by (Some t) runs = (t, refl)

  -- what a call of a template makes, once it has entered it
  pub made_inside : (t : Template) (inner : Scope) → Enters m g scope name given t inner → call_of_template m A g called place scope name given follow ≡ follow (template_made A called place inner t)
  made_inside t inner enters =
      ap (call_by A g called place scope given follow) enters.found
      ∙ ap (entry A called place t follow) enters.said

  -- a call whose node runs has entered its template
  pub has_entered : IsRunning (call_of_template m A g called place scope name given follow) → (t : Template) × (inner : Scope) × Enters m g scope name given t inner
  has_entered runs =
      let found = found_by (template_named m name) runs in
      let here : IsRunning (call_by A g called place scope given follow (Some found.0)) = sym (ap (λ (o : Option Template). (call_by A g called place scope given follow o).own.node.phase) found.1) ∙ runs in
      let said = said_by A called place found.0 follow (template_scope g scope given found.0.inputs) here in
      (found.0, said.0, record { found = found.1; said = said.1 })

-- ---- exit hooks

module _ (m : Manifest) (A : Answers) (g : Scope) (called : Caller) (label : List ℕ) (place : Place) (scope : Scope) where
  -- a node behind which no hook runs
  pub no_hook : (h : Option Hook) (b : Made) → hook_runs b.own.node.phase ≡ false → hooked m A g called label place scope h b ≡ b
  no_hook None b off = refl
  no_hook (Some h) b off = ap (λ (r : Bool). hooked_if m A g called r label place scope h b) off

  node_of : (r : Bool) (h : Hook) (b : Made) → (hooked_if m A g called r label place scope h b).own.node.phase ≡ b.own.node.phase
  node_of true h b = refl
  node_of false h b = refl

  -- a hook changes no phase
  pub hooked_phase : (h : Option Hook) (b : Made) → (hooked m A g called label place scope h b).own.node.phase ≡ b.own.node.phase
  hooked_phase None b = refl
  hooked_phase (Some h) b = node_of (hook_runs b.own.node.phase) h b

  -- behind a node that runs there is none
  pub runs_alone : (h : Option Hook) (b : Made) → IsRunning (hooked m A g called label place scope h b) → hooked m A g called label place scope h b ≡ b
  runs_alone h b runs = no_hook h b (ap hook_runs (sym (hooked_phase h b) ∙ runs))
