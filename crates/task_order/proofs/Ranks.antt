-- Places in order give tasks their ranks, and ranks leave no circle.
use Rattle.std.proofs.Common.{◌≡◌, ℕ, suc, ◌<◌, ◌≤◌, ◌==◌, true, false, List, length, get_or, take, Option, Some, None, refl, sym, ◌∙◌, subst, inl, inr, arith}
use Rattle.std.proofs.lemmas.Bool.{cases_lt, eqb-true, eq-eqb}
use Rattle.std.proofs.lemmas.List.{get_or_default, get_or-take, length-take}
use Rattle.std.proofs.lemmas.List.Elements.{All-contains, Contains-get_or}
use Rattle.std.proofs.lemmas.List.Sums.{fails_before_first, passes_at_first}
use Rattle.std.specs.List.{All, Contains, position_or_len}
use Rattle.wf_manifest.specs.declared.calls.Task.{Task}
use Rattle.wf_manifest.specs.Valid.{waits_for, HasRank}
use Rattle.task_order.specs.Ancestors.{Waits, IsAncestor, parent, above}
use Rattle.task_order.specs.Orders.{place, row, IsOrder}
use Rattle.task_order.specs.Inside.Graphs.{IsGraph}
use Rattle.task_order.proofs.Among.{Among, among_from, contains_from}
use Rattle.task_order.proofs.NameLists.{place_reads}
use Rattle.task_order.proofs.Graphs.{graph_long, task_in, edge}

-- ---- first positions in an order

abbrev pub first : List ℕ → ℕ → ℕ
first order v = position_or_len (λ u. u == v) order

first_le : (order : List ℕ) (v m : ℕ) → m < length order → get_or order m 0 ≡ v → first order v ≤ m
first_le order v m below is =
    elim (cases_lt m (first order v)) [
      | inl before ↦
          let differs : (get_or order m 0 == v) ≡ false = fails_before_first (λ u. u == v) order m 0 before in
          let same : (get_or order m 0 == v) ≡ true = eq-eqb (get_or order m 0) v is in
          absurd cc
      | inr after ↦ after
    ]

first_in : (order : List ℕ) (v : ℕ) → Contains order v → (first order v < length order) × (get_or order (first order v) 0 ≡ v)
first_in order v (m, below, is) =
    let le : first order v ≤ m = first_le order v m below (get_or_default order m 0 v below ∙ is) in
    let low : first order v < length order = omega arith in
    (low, eqb-true (get_or order (first order v) 0) v (passes_at_first (λ u. u == v) order 0 low))

pub first_lower : (waits : List (List ℕ)) (order : List ℕ) (v d : ℕ) → IsOrder waits order → v < length waits → Among d (row waits v) → first order d < first order v
first_lower waits order v d o below among =
    let (low, is) = first_in order v (o.whole v below) in
    let all : All (Contains (take (first order v) order)) (row waits v) = subst (λ u. All (Contains (take (first order v) order)) (row waits u)) is (o.behind (first order v) low) in
    at low (All-contains (Contains (take (first order v) order)) (row waits v) d all (contains_from (row waits v) d among))
  where
    at : first order v < length order → Contains (take (first order v) order) d → first order d < first order v
    at low (m, before, is) =
        let short : m < first order v = omega (arith, length-take (first order v) order) in
        let here : get_or order m 0 ≡ d = get_or_default order m 0 d (omega arith) ∙ sym (get_or-take (first order v) order m d short) ∙ is in
        let le : first order d ≤ m = first_le order d m (omega arith) here in
        omega arith

-- ---- ranks

rank_at : List ℕ → Option ℕ → ℕ
rank_at order None = 0
rank_at order (Some v) = suc (first order v)

module _ (tasks : List Task) (table : List (List ℕ)) (waits : List (List ℕ)) (order : List ℕ) (g : IsGraph tasks table waits) (o : IsOrder waits order) where
  rank : List ℕ → ℕ
  rank name = rank_at order (place table name)

  lower : (t : Task) (v : ℕ) (other : List ℕ) (found : Option ℕ) → Among t tasks → place table t.call.name ≡ Some v → Among other (waits_for t) → place table other ≡ found → rank_at order found < rank_at order (Some v)
  unfolding rank_at
  lower t v other None among at waits_ at_other = omega arith
  lower t v other (Some d) among at waits_ at_other =
      let low : v < length table = (place_reads table t.call.name v at).0 in
      let long : length waits ≡ length table = graph_long tasks table waits g in
      let less : first order d < first order v = first_lower waits order v d o (omega arith) (edge tasks table waits g t v d other among at waits_ at_other) in
      omega arith

  below : (t : Task) (other : List ℕ) → Among t tasks → Among other (waits_for t) → rank other < rank t.call.name
  unfolding rank
  below t other among waits_ =
      let (v, at) = task_in tasks table waits g t among in
      subst (λ f. rank_at order (place table other) < rank_at order f) (sym at)
      (lower t v other (place table other) among at waits_ refl)

  pub has_rank : HasRank tasks
  has_rank = record {
    rank = rank;
    higher = λ k t low. λ j name there.
        below (get_or tasks k t) (get_or (waits_for (get_or tasks k t)) j name)
        (among_from tasks (get_or tasks k t) (Contains-get_or tasks k t low))
        (among_from (waits_for (get_or tasks k t)) (get_or (waits_for (get_or tasks k t)) j name) (Contains-get_or (waits_for (get_or tasks k t)) j name there));
  }

-- ---- no circle

module _ (tasks : List Task) (r : HasRank tasks) where
  waits_lower : (other name : List ℕ) → Waits tasks other name → r.rank other < r.rank name
  waits_lower other name w =
      let task_all : All (λ n. r.rank n < r.rank w.task.call.name) (waits_for w.task) = All-contains (λ (t : Task). All (λ n. r.rank n < r.rank t.call.name) (waits_for t)) tasks w.task r.higher w.among in
      let one : r.rank other < r.rank w.task.call.name = All-contains (λ n. r.rank n < r.rank w.task.call.name) (waits_for w.task) other task_all w.waits in
      subst (λ n. r.rank other < r.rank n) w.is one

  pub ancestor_lower : (ancestor name : List ℕ) → IsAncestor tasks ancestor name → r.rank ancestor < r.rank name
  ancestor_lower ancestor name (parent w) = waits_lower ancestor name w
  ancestor_lower ancestor name (above other w more) =
      let one = waits_lower other name w in
      let two = ancestor_lower ancestor other more in
      omega (arith, one, two)

pub no_own_ancestor : (tasks : List Task) (name : List ℕ) → HasRank tasks → IsAncestor tasks name name → ⊥
no_own_ancestor tasks name r is = let less = ancestor_lower tasks r name name is in absurd (omega (arith, less))
