-- A task for which none waits is the one behind which a plan has none.
use Rattle.std.proofs.Common.{◌≡◌, ℕ, zero, suc, ◌<◌, List, [], ◌∷◌, Bool, true, false, not, ◌||◌, length, get_or, Some, refl, sym, ap, ◌∙◌, arith}
use Rattle.std.specs.Prelude.{slice_get, bytes_eq, nat_eq}
use Rattle.std.specs.List.{list_any, AllByRecursion}
use Rattle.std.proofs.lemmas.Bool.{eq-eqb, ne_eqb}
use Rattle.std.proofs.lemmas.Option.{slice_get_within}
use Rattle.std.proofs.lemmas.List.Elements.{recursion_from_All}
use Rattle.base_types.specs.Names.{is_among}
use Rattle.wf_manifest.specs.declared.calls.Task.{Task}
use Rattle.wf_manifest.specs.declared.calls.Dag.{Dag}
use Rattle.meaning.specs.Dags.{parents, is_last}
use Rattle.dag_plan.specs.declared.plan.DagPlan.{DagPlan}
use Rattle.dag_plan.specs.Plans.{has_place, IsPlan}
use Rattle.dag_plan.proofs.Waiting.{behind_has, behind_within}
use Rattle.dag_stays.proofs.Naming.{parents_any, found_any, task_at}

none_any : {X : Type 0} (f : X → Bool) (xs : List X) → ((k : ℕ) (x : X) → slice_get xs k ≡ Some x → f x ≡ false) → list_any f xs ≡ false
none_any f [] each = refl
none_any f (x ∷ xs) each = ap (λ (b : Bool). b || list_any f xs) (each zero x refl) ∙ none_any f xs (λ k y there. each (suc k) y there)

module _ (d : Dag) (plan : DagPlan) (is : IsPlan d plan) (j : ℕ) (t : Task) (task : slice_get d.tasks j ≡ Some t) where
  abbrev behind : List ℕ
  behind = get_or plan.behind j []

  abbrev waits : Task → Bool
  waits u = is_among (parents d.tasks u) t.call.name

  -- the tasks that wait for it are those behind it
  pub who_waits : (k : ℕ) (u : Task) → slice_get d.tasks k ≡ Some u → is_among (parents d.tasks u) t.call.name ≡ has_place k (get_or plan.behind j [])
  who_waits k u there = parents_any (bytes_eq t.call.name) d.tasks u ∙ behind_has d plan is j k t u task there

  by_behind : (ks : List ℕ) → behind ≡ ks → AllByRecursion (λ (k : ℕ). k < length d.tasks) ks → list_any waits d.tasks ≡ not (nat_eq (length ks) 0)
  by_behind [] same low = none_any waits d.tasks (λ k u there. who_waits k u there ∙ ap (has_place k) same)
  by_behind (k ∷ ks) same low =
      let (u, there) = task_at d.tasks k low.0 in
      found_any waits d.tasks k u there (who_waits k u there ∙ ap (has_place k) same ∙ ap (λ (b : Bool). b || has_place k ks) (eq-eqb k k refl))
      ∙ ap not (sym (ne_eqb (suc (length ks)) 0 (λ e. omega (arith, e))))

  twice_not : (b : Bool) → not (not b) ≡ b
  twice_not true = refl
  twice_not false = refl

  pub last_is : is_last d.tasks t ≡ nat_eq (length (get_or plan.behind j [])) 0
  last_is =
      ap not (by_behind behind refl (recursion_from_All (λ (k : ℕ). k < length d.tasks) behind (behind_within d plan is j (slice_get_within d.tasks j t task))))
      ∙ twice_not (nat_eq (length behind) 0)
