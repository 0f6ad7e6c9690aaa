-- Tasks that do not stand behind the one that a fact is recorded below stand as they stood.
use Rattle.std.proofs.Common.{◌≡◌, inl, inr, ℕ, List, [], ◌∷◌, ◌++◌, Bool, true, false, Option, Some, None, get_or, refl, sym, ap, ◌∙◌}
use Rattle.std.specs.Prelude.{slice_get}
use Rattle.std.specs.List.{All, list_all}
use Rattle.std.proofs.lemmas.List.Elements.{Contains-get_or}
use Rattle.tree_types.specs.declared.path.Sel.TheVariants.{Task as task_sel}
use Rattle.wf_manifest.specs.declared.calls.Task.{Task}
use Rattle.wf_manifest.specs.declared.calls.Dag.{Dag}
use Rattle.wf_manifest.specs.declared.manifest.Manifest.{Manifest}
use Rattle.scopes.specs.Substitution.{Scope}
use Rattle.task_order.specs.Orders.{waited}
use Rattle.task_order.proofs.Among.{Among, among_from}
use Rattle.meaning.specs.declared.lines.Place.{Place}
use Rattle.meaning.specs.Answers.{Sels, Answers}
use Rattle.meaning.specs.Dags.{Names, parents, look, Standings, standings, tags_up_to, tags_before}
use Rattle.meaning.specs.Calls.{calls}
use Rattle.growth.specs.Rounds.{RoundsSettle}
use Rattle.locality.specs.Answered.{SameBut}
use Rattle.locality.proofs.OffPath.{kept_tasks_stay}
use Rattle.dag_plan.specs.declared.plan.DagPlan.{DagPlan}
use Rattle.dag_plan.specs.Order.{first}
use Rattle.dag_plan.specs.Plans.{IsPlan}
use Rattle.dag_plan.proofs.Parents.{same_parents}
use Rattle.dag_plan.proofs.Ancestry.{place_of, among_same}
use Rattle.dag_board.specs.Boards.{stood}
use Rattle.dag_board.proofs.Lookups.{look_stood}
use Rattle.dag_stays.specs.Unmoved.{is_marked, AreApart}
use Rattle.dag_stays.proofs.Marks.{both}

-- by its name: a task without a place is kept as well
abbrev kept_by : List Bool → Option ℕ → Bool
kept_by marks None = true
kept_by marks (Some p) = is_marked marks p

each_marked : (marks : List Bool) (ps : List ℕ) (p : ℕ) → list_all (is_marked marks) ps ≡ true → Among p ps → is_marked marks p ≡ true
each_marked marks [] p all among = absurd among
each_marked marks (q ∷ qs) p all (inl same) = ap (is_marked marks) (sym same) ∙ (both (is_marked marks q) (list_all (is_marked marks) qs) all).0
each_marked marks (q ∷ qs) p all (inr later) = each_marked marks qs p (both (is_marked marks q) (list_all (is_marked marks) qs) all).1 later

module _ (d : Dag) (plan : DagPlan) (is_plan : IsPlan d plan) (j : ℕ) (marks : List Bool) (apart : AreApart plan.rows j marks) where
  abbrev kept : List ℕ → Bool
  kept n = kept_by marks (first d.tasks n)

  own_kept : (p : ℕ) (t : Task) → slice_get d.tasks p ≡ Some t → kept t.call.name ≡ is_marked marks p
  own_kept p t at = ap (kept_by marks) (is_plan.own p t at)

  not_kept : (t : Task) → slice_get d.tasks j ≡ Some t → kept t.call.name ≡ false
  not_kept t at = own_kept j t at ∙ by_test (is_marked marks j) (λ on. apart.other j on refl)
    where
      by_test : (b : Bool) → (b ≡ true → ⊥) → b ≡ false
      by_test true on = absurd (on refl)
      by_test false on = refl

  -- what a task waits for whose row is marked
  parent_kept : (p : ℕ) (t : Task) → slice_get d.tasks p ≡ Some t → list_all (is_marked marks) (get_or plan.rows p []) ≡ true → (n : List ℕ) → Among n (parents d.tasks t) → kept n ≡ true
  parent_kept p t at all n among = by_first (first d.tasks n) refl
    where
      in_waited : Among n (waited t)
      in_waited = among_same (parents d.tasks t) (waited t) n (same_parents d.tasks t) among

      by_first : (o : Option ℕ) → first d.tasks n ≡ o → kept_by marks o ≡ true
      by_first None is = refl
      by_first (Some q) is = each_marked marks (get_or plan.rows p []) q all (place_of d.tasks (waited t) (get_or plan.rows p []) n q (is_plan.rows p t at) in_waited is)

  all_kept : (p : ℕ) (t : Task) → slice_get d.tasks p ≡ Some t → kept t.call.name ≡ true → All (λ n. kept n ≡ true) (parents d.tasks t)
  all_kept p t at on =
      let marked : is_marked marks p ≡ true = sym (own_kept p t at) ∙ on in
      let ps = parents d.tasks t in
      λ k e low. parent_kept p t at (apart.above p marked) (get_or ps k e) (among_from ps (get_or ps k e) (Contains-get_or ps k e low))

  module _ (settle : RoundsSettle) (A B : Answers) (m : Manifest) (g : Scope) (left : ℕ) (place : Place) (scope : Scope) (rest : Sels) (same : SameBut A B (place.sels ++ task_sel j ∷ rest)) where
    abbrev now : Standings
    now = standings A (calls m A g left) place scope d

    abbrev before : Standings
    before = standings B (calls m B g left) place scope d

    looks_same : (n : List ℕ) → kept n ≡ true → look now n ≡ look before n
    looks_same n on = kept_tasks_stay A B (place.sels ++ task_sel j ∷ rest) same m g left place scope d kept j rest n refl not_kept all_kept on

    -- a marked task
    pub task_stays : (p : ℕ) (t : Task) → slice_get d.tasks p ≡ Some t → is_marked marks p ≡ true → stood now p ≡ stood before p
    task_stays p t at on =
        let own = is_plan.own p t at in
        sym (look_stood A (calls m A g left) place scope d settle is_plan.ranked t.call.name p own)
        ∙ looks_same t.call.name (own_kept p t at ∙ on)
        ∙ look_stood B (calls m B g left) place scope d settle is_plan.ranked t.call.name p own

    tags_same : (ns : Names) → ((n : List ℕ) → Among n ns → look now n ≡ look before n) → tags_before (look now) ns ≡ tags_before (look before) ns
    tags_same [] h = refl
    tags_same (n ∷ ns) h = λ i. tags_up_to n (h n (inl refl) i) ++ tags_same ns (λ k a. h k (inr a)) i

    -- the tags that a task sees that waits for marked tasks alone
    pub tags_stay : (p : ℕ) (t : Task) → slice_get d.tasks p ≡ Some t → list_all (is_marked marks) (get_or plan.rows p []) ≡ true → tags_before (look now) (parents d.tasks t) ≡ tags_before (look before) (parents d.tasks t)
    tags_stay p t at all = tags_same (parents d.tasks t) (λ n among. looks_same n (parent_kept p t at all n among))
