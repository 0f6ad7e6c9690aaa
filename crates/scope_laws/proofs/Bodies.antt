-- Suspended nodes and steps in scopes with the same values.
use Rattle.std.proofs.Common.{◌≡◌, ℕ, suc, List, [], ◌∷◌, ◌++◌, Bool, true, false, Option, refl, ap, subst}
use Rattle.std.specs.Prelude.{codes}
use Rattle.tree_types.specs.declared.node.Kind.TheVariants as kind
use Rattle.tree_types.specs.declared.node.Note.TheVariants as note
use Rattle.tree_types.specs.Phases.{is_succeeded}
use Rattle.tag_text.specs.declared.part.Part.{Part}
use Rattle.wf_manifest.specs.declared.calls.Call.{Call}
use Rattle.wf_manifest.specs.declared.templates.OutputDecl.{OutputDecl}
use Rattle.scopes.specs.Substitution.{Scope}
use Rattle.scopes.specs.Values.{HasValuesOf}
use Rattle.scopes.proofs.ValueIn.{append_alike}
use Rattle.meaning.specs.declared.lines.Place.{Place}
use Rattle.meaning.specs.Answers.{Answers}
use Rattle.meaning.specs.Lines.{numbered, Made, row_of, no_outputs, made}
use Rattle.meaning.specs.Outputs.{ended_node}
use Rattle.meaning.specs.Suspends.{suspended, suspend_made}
use Rattle.meaning.specs.Steps.{Caller, Member, member, members, member_place, group_phase, group_made, group_tags, Groups, group_place, groups_by, members_at, groups_from, steps_phase, steps_by, steps_made}
use Rattle.scope_laws.specs.Agreeing.{Agree, GroupsAlike}
use Rattle.scope_laws.proofs.Texts.{computed_agrees, seconds_agree}

pub numbered_same : {X Y : Type 0} (f g : ℕ → X → Y) (i : ℕ) (xs : List X) → ((j : ℕ) (x : X) → f j x ≡ g j x) → numbered f i xs ≡ numbered g i xs
numbered_same f g i [] e = refl
numbered_same f g i (x ∷ xs) e = λ j. e i x j ∷ numbered_same f g (suc i) xs e j

pub suspend_agrees : (A : Answers) (place : Place) (scope around : Scope) (declared : List OutputDecl) (duration : Option (List Part)) → HasValuesOf scope around → suspend_made A place scope declared duration ≡ suspend_made A place around declared duration
suspend_agrees A place scope around declared duration same = ap (suspended A place declared) (seconds_agree scope around same duration)

-- the same groups make the same node
pub steps_by_agrees : (place : Place) (declared : List OutputDecl) (groups others : Groups) → GroupsAlike groups others → steps_by place declared groups ≡ steps_by place declared others
steps_by_agrees place declared groups others alike =
    λ i. made (ended_node place kind.Steps (steps_phase (alike.all i)) note.None no_outputs (computed_agrees groups.scope others.scope alike.scope declared i)) [] (row_of (alike.all i))

pub groups_by_agree : (g : Made) (tags scope around : Scope) (rest more : Scope → Groups) → HasValuesOf scope around → ((inner outer : Scope) → HasValuesOf inner outer → GroupsAlike (rest inner) (more outer)) → (b : Bool)
    → GroupsAlike (groups_by g tags scope rest b) (groups_by g tags around more b)
groups_by_agree g tags scope around rest more same e true =
    let behind = e (tags ++ scope) (tags ++ around) (append_alike tags scope around same) in
    record { all = λ i. g ∷ behind.all i; scope = behind.scope }
groups_by_agree g tags scope around rest more same e false = record { all = refl; scope = append_alike tags scope around same }

module _ (called other : Caller) (agree : Agree called other) where
  pub members_agree : (group : Place) (scope around : Scope) (cs : List Call) → HasValuesOf scope around → members called group scope cs ≡ members other group around cs
  members_agree group scope around cs same =
      numbered_same (member called group scope) (member other group around) 0 cs (λ j c i. (c, agree (codes "steps.") (member_place group j c) scope around c same i))

  pub groups_agree : (place : Place) (i : ℕ) (scope around : Scope) (gs : List (List Call)) → HasValuesOf scope around → GroupsAlike (groups_from called place i scope gs) (groups_from other place i around gs)
  groups_agree place i scope around [] same = record { all = refl; scope = same }
  groups_agree place i scope around (cs ∷ gs) same =
      let at : Place = group_place place i in
      let ms : List Member = members_at called place i scope cs in
      let rest : Scope → Groups = λ inner. groups_from called place (suc i) inner gs in
      let more : Scope → Groups = λ inner. groups_from other place (suc i) inner gs in
      subst (λ (x : List Member). GroupsAlike (groups_from called place i scope (cs ∷ gs)) (groups_by (group_made at x) (group_tags x) around more (is_succeeded (group_phase x)))) (members_agree at scope around cs same)
      (groups_by_agree (group_made at ms) (group_tags ms) scope around rest more same (λ inner outer like. groups_agree place (suc i) inner outer gs like) (is_succeeded (group_phase ms)))

  pub steps_agree : (place : Place) (scope around : Scope) (declared : List OutputDecl) (gs : List (List Call)) → HasValuesOf scope around → steps_made called place scope declared gs ≡ steps_made other place around declared gs
  steps_agree place scope around declared gs same =
      steps_by_agrees place declared (groups_from called place 0 scope gs) (groups_from other place 0 around gs) (groups_agree place 0 scope around gs same)
