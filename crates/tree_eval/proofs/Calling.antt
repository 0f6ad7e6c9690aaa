-- The entrypoint and the exit handler, called in scopes with the values that are meant.
use Rattle.std.proofs.Common.{◌≡◌, ℕ, List, ◌++◌, codes, sym, ap, ◌∙◌, subst}
use Rattle.std.specs.Prelude.{Result}
use Rattle.tree_types.specs.declared.phase.Phase.{Phase}
use Rattle.wf_manifest.specs.declared.manifest.Manifest.{Manifest}
use Rattle.scopes.specs.Substitution.{Scope, value_in}
use Rattle.scopes.specs.Values.{HasValuesOf}
use Rattle.scopes.proofs.ValueIn.{append_alike}
use Rattle.meaning.specs.declared.lines.Place.{Place}
use Rattle.meaning.specs.Answers.{Answers}
use Rattle.meaning.specs.Lines.{Made, status_tag}
use Rattle.meaning.specs.Trees.{globals_of, root, exit_root, top_call, main_made, status_tags, exit_made}
use Rattle.scope_laws.proofs.Calls.{top_call_agrees}
use Rattle.tree_state.specs.declared.refused.TreeRefused.{TreeRefused}
use Rattle.tree_state.specs.Counting.{Gives}

-- what the entrypoint made, as a call at its place, in a scope with the same values
pub main_as_called : (m : Manifest) (A : Answers) (globals : Scope) (place : Place) (old : Made) → HasValuesOf globals (globals_of m) → place ≡ root m → old ≡ main_made m A → old ≡ top_call m A globals place m.entrypoint
main_as_called m A globals place old same is made =
    made ∙ sym (ap (λ (p : Place). top_call m A globals p m.entrypoint) is ∙ top_call_agrees m A globals (globals_of m) (root m) m.entrypoint same)

-- the scope of the exit handler has the values that are meant
exit_values : (m : Manifest) (globals scope : Scope) (b : Made) (phase : Phase) → HasValuesOf globals (globals_of m) → phase ≡ b.own.node.phase → HasValuesOf scope (status_tag (codes "workflow") phase ++ globals) → HasValuesOf scope (status_tags m b)
exit_values m globals scope b phase same seen status tag =
    status tag
    ∙ append_alike (status_tag (codes "workflow") phase) globals (globals_of m) same tag
    ∙ ap (λ (p : Phase). value_in (status_tag (codes "workflow") p ++ globals_of m) tag) seen

module _ (m : Manifest) (A : Answers) (before after : ℕ) (r : Result Made TreeRefused) (place : Place) where
  -- a call at the same place, in a scope with the same values
  called : (g h : Scope) (at : Place) (template : List ℕ) → HasValuesOf g h → place ≡ at → Gives before after r (top_call m A g place template) → Gives before after r (top_call m A h at template)
  called g h at template same is given =
      subst (λ (x : Made). Gives before after r x) (ap (λ (p : Place). top_call m A g p template) is ∙ top_call_agrees m A g h at template same) given

  pub main_called : (globals : Scope) → HasValuesOf globals (globals_of m) → place ≡ root m → Gives before after r (top_call m A globals place m.entrypoint) → Gives before after r (main_made m A)
  main_called globals same is given = called globals (globals_of m) (root m) m.entrypoint same is given

  pub exit_called : (globals scope : Scope) (b : Made) (phase : Phase) (template : List ℕ) → HasValuesOf globals (globals_of m) → phase ≡ b.own.node.phase → HasValuesOf scope (status_tag (codes "workflow") phase ++ globals) → place ≡ exit_root m → Gives before after r (top_call m A scope place template) → Gives before after r (exit_made m A b template)
  exit_called globals scope b phase template same seen status is given =
      called scope (status_tags m b) (exit_root m) template (exit_values m globals scope b phase same seen status) is given

-- what the exit handler made, as a call at its place, in a scope with the same values
pub exit_as_called : (m : Manifest) (A : Answers) (globals scope : Scope) (place : Place) (b old : Made) (phase : Phase) (template : List ℕ) → HasValuesOf globals (globals_of m) → phase ≡ b.own.node.phase → HasValuesOf scope (status_tag (codes "workflow") phase ++ globals) → place ≡ exit_root m → old ≡ exit_made m A b template → old ≡ top_call m A scope place template
exit_as_called m A globals scope place b old phase template same seen status is made =
    made ∙ sym (ap (λ (p : Place). top_call m A scope p template) is ∙ top_call_agrees m A scope (status_tags m b) (exit_root m) template (exit_values m globals scope b phase same seen status))
