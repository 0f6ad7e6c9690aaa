-- Who waits for a task, by names and by the lists of a plan.
use Rattle.std.proofs.Common.{◌≡◌, ◌≢◌, ℕ, ◌<◌, ◌+◌, ◌==◌, List, [], length, get_or, Bool, true, false, Some, refl, sym, ap, ◌∙◌, subst, arith}
use Rattle.std.specs.Prelude.{slice_get}
use Rattle.std.specs.List.{All, AllPairs}
use Rattle.std.proofs.lemmas.Bool.{eq-eqb, eqb-true}
use Rattle.std.proofs.lemmas.Option.{slice_get_within}
use Rattle.std.proofs.lemmas.List.Elements.{All-weaker}
use Rattle.base_types.specs.Names.{is_among}
use Rattle.wf_manifest.specs.declared.calls.Task.{Task}
use Rattle.wf_manifest.specs.declared.calls.Dag.{Dag}
use Rattle.task_order.specs.Orders.{waited}
use Rattle.task_order.proofs.Among.{Among, any_from, any_at, listed, is_listed}
use Rattle.dag_plan.specs.declared.plan.DagPlan.{DagPlan}
use Rattle.dag_plan.specs.Order.{first}
use Rattle.dag_plan.specs.Plans.{has_place, rows_with, IsPlan}
use Rattle.dag_plan.proofs.Positions.{at_first}
use Rattle.dag_plan.proofs.Ancestry.{name_at, place_of}
use Rattle.dag_plan.proofs.Gathering.{rows_below, rows_apart, rows_have}

same_bools : (a b : Bool) → (a ≡ true → b ≡ true) → (b ≡ true → a ≡ true) → a ≡ b
same_bools true b f g = sym (f refl)
same_bools false true f g = g refl
same_bools false false f g = refl

has_among : (p : ℕ) (row : List ℕ) → Among p row → has_place p row ≡ true
has_among p row among = any_from (λ q. q == p) row p among (eq-eqb p p refl)

among_has : (p : ℕ) (row : List ℕ) → has_place p row ≡ true → Among p row
among_has p row e =
    let (q, among, same) = any_at (λ q. q == p) row e in
    subst (λ (x : ℕ). Among x row) (eqb-true q p same) among

module _ (d : Dag) (plan : DagPlan) (is : IsPlan d plan) where
  -- a task names another exactly where the other's position stands in its row
  pub behind_names :
      (p k : ℕ) (t u : Task) → slice_get d.tasks p ≡ Some t → slice_get d.tasks k ≡ Some u →
      is_among (waited u) t.call.name ≡ has_place p (get_or plan.rows k [])
  behind_names p k t u at_t at_u =
      let row : List ℕ = get_or plan.rows k [] in
      same_bools (is_among (waited u) t.call.name) (has_place p row)
      (λ e. has_among p row (place_of d.tasks (waited u) row t.call.name p (is.rows k u at_u) (listed (waited u) t.call.name e) (is.own p t at_t)))
      (λ e. is_listed (waited u) t.call.name (named (name_at d.tasks (waited u) row p (is.rows k u at_u) (among_has p row e))))
    where
      named : ((n : List ℕ) × Among n (waited u) × (first d.tasks n ≡ Some p)) → Among t.call.name (waited u)
      named (n, among, at) =
          let (v, at_v, name, found) = at_first d.tasks n p at in
          let both : Some v ≡ Some t = sym at_v ∙ at_t in
          let same : v ≡ t = cc both in
          subst (λ (m : List ℕ). Among m (waited u)) (sym name ∙ ap (λ (x : Task). x.call.name) same) among

  -- .. so exactly where its own position is among those behind the other
  pub behind_has :
      (p k : ℕ) (t u : Task) → slice_get d.tasks p ≡ Some t → slice_get d.tasks k ≡ Some u →
      is_among (waited u) t.call.name ≡ has_place k (get_or plan.behind p [])
  behind_has p k t u at_t at_u =
      let at : 0 + k ≡ k = omega arith in
      behind_names p k t u at_t at_u
      ∙ sym
      (ap (has_place k) (is.behind p (slice_get_within d.tasks p t at_t))
      ∙ ap (λ (n : ℕ). has_place n (rows_with p 0 plan.rows)) (sym at)
      ∙ rows_have p 0 k plan.rows)

  pub behind_differ : (p : ℕ) → p < length d.tasks → AllPairs ◌≢◌ (get_or plan.behind p [])
  behind_differ p low = subst (AllPairs ◌≢◌) (sym (is.behind p low)) (rows_apart p 0 plan.rows)

  pub behind_within : (p : ℕ) → p < length d.tasks → All (λ k. k < length d.tasks) (get_or plan.behind p [])
  behind_within p low =
      subst (All (λ k. k < length d.tasks)) (sym (is.behind p low))
      (All-weaker (λ k. k < 0 + length plan.rows) (λ k. k < length d.tasks) (λ k below. omega (arith, is.long)) (rows_with p 0 plan.rows)
      (rows_below p 0 plan.rows))
