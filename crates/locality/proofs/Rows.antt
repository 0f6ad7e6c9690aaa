-- Members and groups, where the same is answered.
use Rattle.std.proofs.Common.{◌≡◌, ℕ, zero, suc, ◌+◌, ◌<◌, ◌≤◌, List, [], ◌∷◌, ◌++◌, Bool, true, false, length, take, refl, ap, ◌∙◌, arith}
use Rattle.std.specs.Prelude.{codes}
use Rattle.tree_types.specs.declared.path.Sel.TheVariants.{Group, Step}
use Rattle.tree_types.specs.Phases.{is_succeeded}
use Rattle.wf_manifest.specs.declared.templates.OutputDecl.{OutputDecl}
use Rattle.wf_manifest.specs.declared.calls.Call.{Call}
use Rattle.scopes.specs.Substitution.{Scope}
use Rattle.meaning.specs.declared.lines.Place.{Place}
use Rattle.meaning.specs.Answers.{Answers}
use Rattle.meaning.specs.Lines.{numbered, Made}
use Rattle.meaning.specs.Steps.{Caller, Member, member, member_place, group_phase, group_made, group_tags, Groups, before_groups, group_place, groups_by, members_at, groups_from, steps_by, steps_made}
use Rattle.locality.specs.Answered.{SameBelow}
use Rattle.locality.specs.Local.{SameCallers, SameChildren, MembersAreLocal, GroupsAreLocal, StepsAreLocal, FirstGroupsAreLocal}
use Rattle.locality.proofs.Answered.{same_further}

-- what is the same of each element with its position
pub numbered_within : {X Y : Type 0} (f g : ℕ → X → Y) (i : ℕ) (xs : List X) → ((j : ℕ) (x : X) → i ≤ j → j < i + length xs → f j x ≡ g j x) → numbered f i xs ≡ numbered g i xs
numbered_within f g i [] e = refl
numbered_within f g i (x ∷ xs) e =
    λ k. e i x (omega arith) (omega arith) k ∷ numbered_within f g (suc i) xs (λ j y l u. e j y (omega arith) (omega arith)) k

pub members_are_local : MembersAreLocal
members_are_local A B called other group scope i c each same =
    λ j. (c, each (codes "steps.") (member_place group i c) scope c same j)

pub groups_are_local : GroupsAreLocal
groups_are_local A B called other group scope cs each same =
    numbered_within (member called group scope) (member other group scope) 0 cs (λ j c l u. members_are_local A B called other group scope j c each (same j l u))

module _ (A B : Answers) (called other : Caller) (each : SameCallers A B called other) (place : Place) where
  pub members_at_same : (i : ℕ) (scope : Scope) (cs : List Call) → SameBelow A B (group_place place i).sels → members_at called place i scope cs ≡ members_at other place i scope cs
  members_at_same i scope cs same =
      groups_are_local A B called other (group_place place i) scope cs each (λ j l u. same_further A B (group_place place i).sels (Step j ∷ []) same)

  groups_by_same : (g : Made) (tags scope : Scope) (rest more : Scope → Groups) → ((inner : Scope) → rest inner ≡ more inner) → (b : Bool) → groups_by g tags scope rest b ≡ groups_by g tags scope more b
  groups_by_same g tags scope rest more e true = ap (before_groups g) (e (tags ++ scope))
  groups_by_same g tags scope rest more e false = refl

  -- what these members make of the group and of those behind it
  abbrev over : ℕ → Scope → (Scope → Groups) → List Member → Groups
  over i scope rest ms = groups_by (group_made (group_place place i) ms) (group_tags ms) scope rest (is_succeeded (group_phase ms))

  steps_from_same : (i : ℕ) (scope : Scope) (gs : List (List Call)) → SameChildren A B place Group i (length gs) → groups_from called place i scope gs ≡ groups_from other place i scope gs
  steps_from_same i scope [] same = refl
  steps_from_same i scope (cs ∷ gs) same =
      let rest : Scope → Groups = λ inner. groups_from called place (suc i) inner gs in
      let more : Scope → Groups = λ inner. groups_from other place (suc i) inner gs in
      let ms : List Member = members_at other place i scope cs in
      ap (over i scope rest) (members_at_same i scope cs (same i (omega arith) (omega arith)))
      ∙ groups_by_same (group_made (group_place place i) ms) (group_tags ms) scope rest more (λ inner. steps_from_same (suc i) inner gs (λ j l u. same j (omega arith) (omega arith))) (is_succeeded (group_phase ms))

  -- ---- the first groups

  abbrev firsts : ℕ → Groups → List Made
  firsts n groups = take n groups.all

  groups_by_firsts : (n : ℕ) (g : Made) (tags scope : Scope) (rest more : Scope → Groups) → ((inner : Scope) → firsts n (rest inner) ≡ firsts n (more inner)) → (b : Bool)
      → firsts (suc n) (groups_by g tags scope rest b) ≡ firsts (suc n) (groups_by g tags scope more b)
  groups_by_firsts n g tags scope rest more e true = ap (λ (ms : List Made). g ∷ ms) (e (tags ++ scope))
  groups_by_firsts n g tags scope rest more e false = refl

  firsts_same : (i : ℕ) (scope : Scope) (gs : List (List Call)) (n : ℕ) → SameChildren A B place Group i n → firsts n (groups_from called place i scope gs) ≡ firsts n (groups_from other place i scope gs)
  firsts_same i scope [] n same = refl
  firsts_same i scope (cs ∷ gs) zero same = refl
  firsts_same i scope (cs ∷ gs) (suc n) same =
      let rest : Scope → Groups = λ inner. groups_from called place (suc i) inner gs in
      let more : Scope → Groups = λ inner. groups_from other place (suc i) inner gs in
      let ms : List Member = members_at other place i scope cs in
      ap (λ (x : List Member). firsts (suc n) (over i scope rest x)) (members_at_same i scope cs (same i (omega arith) (omega arith)))
      ∙ groups_by_firsts n (group_made (group_place place i) ms) (group_tags ms) scope rest more (λ inner. firsts_same (suc i) inner gs n (λ j l u. same j (omega arith) (omega arith))) (is_succeeded (group_phase ms))

  pub steps_same : (scope : Scope) (ds : List OutputDecl) (gs : List (List Call)) → SameBelow A B place.sels → steps_made called place scope ds gs ≡ steps_made other place scope ds gs
  steps_same scope ds gs same =
      ap (steps_by place ds) (steps_from_same 0 scope gs (λ j l u. same_further A B place.sels (Group j ∷ []) same))

pub steps_are_local : StepsAreLocal
steps_are_local A B called other place i scope gs each same = steps_from_same A B called other each place i scope gs same

pub first_groups_are_local : FirstGroupsAreLocal
first_groups_are_local A B called other place i scope gs n each same = firsts_same A B called other each place i scope gs n same
