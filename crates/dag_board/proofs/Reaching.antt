-- The rows of a plan, in its order.
use Rattle.std.proofs.Common.{◌≡◌, ℕ, zero, suc, ◌<◌, List, [], ◌∷◌, length, get_or, take, Option, refl, sym, subst, inl, inr, arith}
use Rattle.std.specs.Prelude.{IfSome}
use Rattle.std.specs.List.{All, AllByRecursion, Contains}
use Rattle.std.proofs.lemmas.List.Elements.{All-contains, All-get_or, Contains-get_or}
use Rattle.wf_manifest.specs.declared.calls.Task.{Task}
use Rattle.wf_manifest.specs.declared.calls.Dag.{Dag}
use Rattle.wf_manifest.specs.Valid.{waits_for}
use Rattle.task_order.specs.Orders.{row, waited, AreWithin, IsOrder}
use Rattle.task_order.proofs.Among.{Among, among_from, contains_from}
use Rattle.meaning.specs.Dags.{Names}
use Rattle.dag_plan.specs.declared.plan.DagPlan.{DagPlan}
use Rattle.dag_plan.specs.Order.{first, Follows}
use Rattle.dag_plan.specs.Plans.{AreAt, IsPlan}
use Rattle.dag_plan.proofs.Parents.{same_waits}
use Rattle.dag_plan.proofs.Ancestry.{among_same, name_at as at_place}
use Rattle.dag_template.proofs.Places.{places_low}
use Rattle.dag_template.proofs.Ordered.{task_at}

each_at : (Q : List ℕ → Type 0) (ns : Names) (n : List ℕ) → AllByRecursion Q ns → Among n ns → Q n
each_at Q [] n h among = absurd among
each_at Q (m ∷ ms) n h (inl same) = subst Q same h.0
each_at Q (m ∷ ms) n h (inr later) = each_at Q ms n h.1 later

-- the parents of a task that follows those that are done
pub row_done : (ts : List Task) (done : List ℕ) (t : Task) (row : List ℕ) → AreAt ts (waited t) row → Follows ts done t → (q : ℕ) → Among q row → Contains done q
row_done ts done t row at follows q among =
    let (n, in_waited, is) = at_place ts (waited t) row q at among in
    let one : IfSome (first ts n) (Contains done) =
    each_at (λ m. IfSome (first ts m) (Contains done)) (waits_for t) n follows (among_same (waited t) (waits_for t) n (same_waits t) in_waited) in
    subst (λ (o : Option ℕ). IfSome o (Contains done)) is one

pub all_each : (P : ℕ → Type 0) (ps : List ℕ) → ((p : ℕ) → Among p ps → P p) → All P ps
all_each P ps h = λ k e low. h (get_or ps k e) (among_from ps (get_or ps k e) (Contains-get_or ps k e low))

pub each_all : (P : ℕ → Type 0) (ps : List ℕ) → All P ps → (p : ℕ) → Among p ps → P p
each_all P ps h p among = All-contains P ps p h (contains_from ps p among)

module _ (d : Dag) (plan : DagPlan) (p : IsPlan d plan) where
  pub rows_within : AreWithin plan.rows
  rows_within k e low =
      let task = task_at d.tasks k (omega (arith, p.long, low)) in
      subst (λ (r : List ℕ). All (λ q. q < length plan.rows) r) (any_default plan.rows k low)
      (subst (λ (n : ℕ). All (λ q. q < n) (get_or plan.rows k [])) (sym p.long)
      (places_low d.tasks (waited task.0) (get_or plan.rows k []) (p.rows k task.0 task.1)))
    where
      any_default : (xs : List (List ℕ)) (k : ℕ) → k < length xs → get_or xs k [] ≡ get_or xs k e
      any_default [] k low = absurd (omega (arith, low))
      any_default (x ∷ xs) zero low = refl
      any_default (x ∷ xs) (suc k) low = any_default xs k (omega (arith, low))

  pub rows_ordered : IsOrder plan.rows plan.order
  rows_ordered = record {
    behind = λ k low. all_each (Contains (take k plan.order)) (row plan.rows (get_or plan.order k 0)) (λ q a. before k low q a);
    within = subst (λ (n : ℕ). All (λ v. v < n) plan.order) (sym p.long) p.order.within;
    whole = λ v low. p.order.whole v (omega (arith, p.long, low));
    once = p.order.once;
  }
    where
      before : (k : ℕ) → k < length plan.order → (q : ℕ) → Among q (row plan.rows (get_or plan.order k 0)) → Contains (take k plan.order) q
      before k low q a =
          let here : ℕ = get_or plan.order k 0 in
          let few : here < length d.tasks = All-get_or (λ v. v < length d.tasks) plan.order k 0 low p.order.within in
          let task = task_at d.tasks here few in
          row_done d.tasks (take k plan.order) task.0 (row plan.rows here) (p.rows here task.0 task.1) (p.order.behind k task.0 low task.1) q a
