-- A plan of rows, an order, targets and marks.
use Rattle.std.proofs.Common.{◌≡◌, ◌⊎◌, ℕ, zero, suc, ◌+◌, ◌<◌, List, [], ◌∷◌, length, map, get_or, take, fold, replicate, Bool, true, false, not, ◌&&◌, ◌||◌, cond, Option, Some, None, refl, sym, ap, ◌∙◌, subst, inl, inr, arith}
use Rattle.std.specs.Prelude.{bytes_eq, slice_get, filter, IfSome}
use Rattle.std.specs.List.{All, AllByRecursion, Contains, list_any, list_all}
use Rattle.std.proofs.lemmas.Bool.{cases_lt}
use Rattle.std.proofs.lemmas.Option.{slice_get_within, slice_get_cases}
use Rattle.std.proofs.lemmas.List.{length-map, ext_get_or, length-replicate, get_or_default, get_or_past}
use Rattle.std.proofs.lemmas.List.Elements.{All-contains, Contains-get_or}
use Rattle.base_types.specs.Names.{is_among, all_differ}
use Rattle.depends_expr.specs.Truth.{add_names}
use Rattle.wf_manifest.specs.declared.calls.Task.{Task}
use Rattle.wf_manifest.specs.declared.calls.Dag.{Dag}
use Rattle.wf_manifest.specs.declared.templates.Body.TheVariants as body
use Rattle.wf_manifest.specs.Valid.{waits_for, task_names, tasks_are_there, HasRank}
use Rattle.task_order.specs.Ancestors.{names}
use Rattle.task_order.specs.Orders as orders
use Rattle.task_order.specs.Orders.{place, places, waited, row, AreWithin, Reaches, at_once, over}
use Rattle.task_order.proofs.Among.{Among, among_from, among_given, given_from, listed, is_listed}
use Rattle.meaning.specs.Dags.{Names, parents, is_last, is_meant, target_names, target_names_by}
use Rattle.dag_plan.specs.declared.plan.DagPlan.{DagPlan}
use Rattle.dag_plan.specs.Order.{first, IsOrder}
use Rattle.dag_plan.specs.Plans.{AreAt, rows_with, IsPlan}
use Rattle.dag_plan.specs.Inside.Marks.{is_marked, marked, unmarked, target_places, AreFound}
use Rattle.dag_plan.proofs.Parents.{same_parents, same_waits}
use Rattle.dag_plan.proofs.Positions.{place_first, table_is, all_at, own_place, at_first}
use Rattle.dag_plan.proofs.Marking.{InSome, none_marked, rows_long, rows_marked, only_rows}
use Rattle.dag_plan.proofs.Ancestry.{AreRows, Own, among_same, name_at, parent_at, in_row, task_lower, found_reached, reached_found}

and_both : (a b : Bool) → (a && b) ≡ true → (a ≡ true) × (b ≡ true)
and_both true b e = (refl, e)
and_both false b e = absurd cc

same_bools : (a b : Bool) → (a ≡ true → b ≡ true) → (b ≡ true → a ≡ true) → a ≡ b
same_bools true b f g = sym (f refl)
same_bools false true f g = g refl
same_bools false false f g = refl

all_among : (test : List ℕ → Bool) (ns : Names) → list_all test ns ≡ true → (n : List ℕ) → Among n ns → test n ≡ true
all_among test [] e n among = absurd among
all_among test (m ∷ ms) e n (inl same) = ap test (sym same) ∙ (and_both (test m) (list_all test ms) e).0
all_among test (m ∷ ms) e n (inr later) = all_among test ms (and_both (test m) (list_all test ms) e).1 n later

all_tasks : (test : Task → Bool) (ts : List Task) → list_all test ts ≡ true → (p : ℕ) (t : Task) → slice_get ts p ≡ Some t → test t ≡ true
all_tasks test [] e p t at = absurd cc
all_tasks test (u ∷ us) e zero t at = let same : u ≡ t = cc at in ap test (sym same) ∙ (and_both (test u) (list_all test us) e).0
all_tasks test (u ∷ us) e (suc p) t at = all_tasks test us (and_both (test u) (list_all test us) e).1 p t at

each_among : (Q : List ℕ → Type 0) (ns : Names) → ((n : List ℕ) → Among n ns → Q n) → AllByRecursion Q ns
each_among Q [] h = tt
each_among Q (n ∷ ns) h = (h n (inl refl), each_among Q ns (λ m a. h m (inr a)))

map_at : {A B : Type 0} (f : A → B) (xs : List A) (d : B) (p : ℕ) (x : A) → slice_get xs p ≡ Some x → get_or (map f xs) p d ≡ f x
map_at f [] d p x at = absurd cc
map_at f (y ∷ ys) d zero x at = let same : y ≡ x = cc at in ap f same
map_at f (y ∷ ys) d (suc p) x at = map_at f ys d p x at

module _ (d : Dag) (differ : all_differ (task_names d) ≡ true) (there : tasks_are_there (body.Dag d) ≡ true) (h : HasRank d.tasks) where
  abbrev pub ts : List Task
  ts = d.tasks

  abbrev pub rows : List (List ℕ)
  rows = map (λ t. places (names ts) (waited t)) ts

  there_parts : (list_all (is_among (task_names d)) d.targets ≡ true) × (list_all (λ t. list_all (is_among (task_names d)) (waits_for t)) ts ≡ true)
  there_parts = and_both (list_all (is_among (task_names d)) d.targets) (list_all (λ t. list_all (is_among (task_names d)) (waits_for t)) ts) there

  pub own : Own ts
  own = own_place ts differ

  waited_there : (p : ℕ) (t : Task) → slice_get ts p ≡ Some t → (n : List ℕ) → Among n (waited t) → Among n (names ts)
  waited_there p t at n among =
      let all : list_all (is_among (task_names d)) (waits_for t) ≡ true =
      all_tasks (λ u. list_all (is_among (task_names d)) (waits_for u)) ts there_parts.1 p t at in
      listed (names ts) n
      (all_among (is_among (task_names d)) (waits_for t) all n (among_same (waited t) (waits_for t) n (same_waits t) among))

  pub are_rows : AreRows ts rows
  are_rows p t at =
      subst (AreAt ts (waited t)) (sym (map_at (λ u. places (names ts) (waited u)) ts [] p t at))
      (all_at ts (waited t) (waited_there p t at))

  pub rows_are_long : length rows ≡ length ts
  rows_are_long = length-map ts (λ t. places (names ts) (waited t))

  place_low : (n : List ℕ) (p : ℕ) → first ts n ≡ Some p → p < length ts
  place_low n p is =
      let (t, at, same, found) = at_first ts n p is in
      slice_get_within ts p t at

  some_task : (p : ℕ) → p < length ts → (t : Task) × (slice_get ts p ≡ Some t)
  some_task p low =
      elim (slice_get_cases ts p).1 [
        | inl (t, below, at, read) ↦ (t, at)
        | inr (past, none) ↦ absurd (omega (arith, past, low))
      ]

  row_low : (v q : ℕ) → v < length ts → Contains (row rows v) q → q < length rows
  row_low v q low c =
      let (t, at) = some_task v low in
      let (n, among, is) = parent_at ts rows are_rows q v t at c in
      let below : q < length ts = place_low n q is in
      omega (arith, rows_are_long)

  pub all_within : AreWithin rows
  all_within = λ v r low. λ k e below.
      let here : Contains (get_or rows v r) (get_or (get_or rows v r) k e) = Contains-get_or (get_or rows v r) k e below in
      row_low v (get_or (get_or rows v r) k e) (omega (arith, low, rows_are_long))
      (subst (λ xs. Contains xs (get_or (get_or rows v r) k e)) (get_or_default rows v r [] low) here)

  -- ---- no circle

  same_task : (p : ℕ) (t u : Task) → slice_get ts p ≡ Some t → slice_get ts p ≡ Some u → t ≡ u
  same_task p t u at au = let both : Some t ≡ Some u = sym at ∙ au in cc both

  row_lower : (g v : ℕ) (tv tg : Task) → slice_get ts v ≡ Some tv → slice_get ts g ≡ Some tg → Contains (row rows v) g → h.rank tg.call.name < h.rank tv.call.name
  row_lower g v tv tg at_v at_g c =
      let (n, among, is) = parent_at ts rows are_rows g v tv at_v c in
      let (u, at, same, found) = at_first ts n g is in
      let name : n ≡ tg.call.name = sym same ∙ ap (λ (x : Task). x.call.name) (same_task g u tg at at_g) in
      subst (λ m. h.rank m < h.rank tv.call.name) name (task_lower ts rows are_rows own h rows_are_long v tv n at_v among)

  reached_lower : (g v : ℕ) → Reaches rows g v → (tv tg : Task) → slice_get ts v ≡ Some tv → slice_get ts g ≡ Some tg → h.rank tg.call.name < h.rank tv.call.name
  reached_lower g v (at_once c) tv tg at_v at_g = row_lower g v tv tg at_v at_g c
  reached_lower g v (over u c r) tv tg at_v at_g =
      let (n, among, is) = parent_at ts rows are_rows u v tv at_v c in
      let (tu, at_u, same, found) = at_first ts n u is in
      let one : h.rank tu.call.name < h.rank tv.call.name = row_lower u v tv tu at_v at_u c in
      let two : h.rank tg.call.name < h.rank tu.call.name = reached_lower g u r tu tg at_u at_g in
      omega arith

  row_filled : (v q : ℕ) → Contains (row rows v) q → v < length ts
  row_filled v q c =
      elim (cases_lt v (length ts)) [
        | inl low ↦ low
        | inr past ↦ absurd (among_from [] q (subst (λ r. Contains r q) (get_or_past rows v [] (omega (arith, rows_are_long))) c))
      ]

  reaching_low : (g v : ℕ) → Reaches rows g v → v < length ts
  reaching_low g v (at_once c) = row_filled v g c
  reaching_low g v (over u c r) = row_filled v u c

  pub no_circle : (p : ℕ) → Reaches rows p p → ⊥
  no_circle p r =
      let (t, at) = some_task p (reaching_low p p r) in
      let less : h.rank t.call.name < h.rank t.call.name = reached_lower p p r t t at at in
      absurd (omega arith)

  -- ---- the order

  pub is_order : (order : List ℕ) → orders.IsOrder rows order → IsOrder ts order
  is_order order o = record {
    within = λ k e low. (let below : get_or order k e < length rows = o.within k e low in omega (arith, rows_are_long));
    whole = λ p low. o.whole p (omega (arith, rows_are_long));
    once = o.once;
    behind = λ k t low at. each_among (λ n. IfSome (first ts n) (Contains (take k order))) (waits_for t) (λ n a. one k t low at n a (first ts n) refl);
  }
    where
      one : (k : ℕ) (t : Task) → k < length order → slice_get ts (get_or order k 0) ≡ Some t → (n : List ℕ) → Among n (waits_for t) → (q : Option ℕ) → first ts n ≡ q → IfSome q (Contains (take k order))
      one k t low at n a None e = tt
      one k t low at n a (Some q) e =
          All-contains (Contains (take k order)) (row rows (get_or order k 0)) q (o.behind k low)
          (in_row ts rows are_rows q (get_or order k 0) t n at (among_same (waits_for t) (waited t) n (λ test. sym (same_waits t test)) a) e)

  -- ---- the targets

  abbrev Depends : Task → Task → Bool
  Depends t u = is_among (parents ts u) t.call.name

  row_depends : (p : ℕ) (t u : Task) → first ts t.call.name ≡ Some p → Among p (places (names ts) (waited u)) → Depends t u ≡ true
  row_depends p t u at among =
      let (n, in_waited, is) = given_from (place (names ts)) (waited u) p among in
      let (v, v_at, v_name, v_found) = at_first ts n p (sym (place_first ts n) ∙ is) in
      let (w, w_at, w_name, w_found) = at_first ts t.call.name p at in
      let name : n ≡ t.call.name = sym v_name ∙ ap (λ (x : Task). x.call.name) (same_task p v w v_at w_at) ∙ w_name in
      same_parents ts u (bytes_eq t.call.name) ∙ is_listed (waited u) t.call.name (subst (λ m. Among m (waited u)) name in_waited)

  depends_row : (p : ℕ) (t u : Task) → first ts t.call.name ≡ Some p → Depends t u ≡ true → Among p (places (names ts) (waited u))
  depends_row p t u at e =
      among_given (place (names ts)) (waited u) t.call.name p
      (listed (waited u) t.call.name (sym (same_parents ts u (bytes_eq t.call.name)) ∙ e)) (place_first ts t.call.name ∙ at)

  or_cases : (a b : Bool) → (a || b) ≡ true → (a ≡ true) ⊎ (b ≡ true)
  or_cases true b e = inl refl
  or_cases false b e = inr e

  or_left : (a b : Bool) → a ≡ true → (a || b) ≡ true
  or_left true b e = refl
  or_left false b e = absurd cc

  or_right : (a b : Bool) → b ≡ true → (a || b) ≡ true
  or_right true b e = refl
  or_right false b e = e

  in_some : (p : ℕ) (t : Task) → first ts t.call.name ≡ Some p → (us : List Task) → InSome p (map (λ u. places (names ts) (waited u)) us) → list_any (Depends t) us ≡ true
  in_some p t at [] there = absurd there
  in_some p t at (u ∷ us) (inl here) = or_left (Depends t u) (list_any (Depends t) us) (row_depends p t u at here)
  in_some p t at (u ∷ us) (inr later) = or_right (Depends t u) (list_any (Depends t) us) (in_some p t at us later)

  some_in : (p : ℕ) (t : Task) → first ts t.call.name ≡ Some p → (us : List Task) → list_any (Depends t) us ≡ true → InSome p (map (λ u. places (names ts) (waited u)) us)
  some_in p t at [] e = absurd cc
  some_in p t at (u ∷ us) e =
      elim (or_cases (Depends t u) (list_any (Depends t) us) e) [
        | inl here ↦ inl (depends_row p t u at here)
        | inr later ↦ inr (some_in p t at us later)
      ]

  abbrev bits : List Bool
  bits = fold marked (replicate (length rows) false) rows

  bits_long : length bits ≡ length ts
  bits_long = rows_long (replicate (length rows) false) rows ∙ length-replicate (length rows) false ∙ rows_are_long

  not_not : (a : Bool) → not (not a) ≡ a
  not_not true = refl
  not_not false = refl

  bit_at : (p : ℕ) (t : Task) → slice_get ts p ≡ Some t → is_marked bits p ≡ not (is_last ts t)
  bit_at p t at =
      same_bools (is_marked bits p) (list_any (Depends t) ts)
      (λ e. from (only_rows (replicate (length rows) false) rows p e))
      (λ e. rows_marked (replicate (length rows) false) rows p
      (let low : p < length ts = slice_get_within ts p t at in omega (arith, rows_are_long, length-replicate (length rows) false))
      (some_in p t (own p t at) ts e))
      ∙ sym (not_not (list_any (Depends t) ts))
    where
      from : (is_marked (replicate (length rows) false) p ≡ true) ⊎ InSome p rows → list_any (Depends t) ts ≡ true
      from (inl e) = absurd (let none : is_marked (replicate (length rows) false) p ≡ false = none_marked (length rows) p in cc)
      from (inr there) = in_some p t (own p t at) ts there

  bits_are : bits ≡ map (λ t. not (is_last ts t)) ts
  bits_are =
      ext_get_or false bits (map (λ t. not (is_last ts t)) ts) (bits_long ∙ sym (length-map ts (λ t. not (is_last ts t))))
      (λ p low. one p (some_task p (omega (arith, low, bits_long))))
    where
      one : (p : ℕ) → ((t : Task) × (slice_get ts p ≡ Some t)) → is_marked bits p ≡ get_or (map (λ t. not (is_last ts t)) ts) p false
      one p (t, at) = bit_at p t at ∙ sym (map_at (λ t. not (is_last ts t)) ts false p t at)

  last_at : (i : ℕ) (us : List Task) → ((p : ℕ) (t : Task) → slice_get us p ≡ Some t → first ts t.call.name ≡ Some (i + p)) →
      AreAt ts (map (λ t. t.call.name) (filter (is_last ts) us)) (unmarked i (map (λ t. not (is_last ts t)) us))
  last_at i [] at = refl
  last_at i (u ∷ us) at =
      go (is_last ts u) (last_at (suc i) us (λ p t e. (let same : i + suc p ≡ suc i + p = omega arith in at (suc p) t e ∙ ap (λ (x : ℕ). Some x) same)))
    where
      go : (b : Bool) → AreAt ts (map (λ t. t.call.name) (filter (is_last ts) us)) (unmarked (suc i) (map (λ t. not (is_last ts t)) us)) →
          AreAt ts (map (λ t. t.call.name) (cond b (u ∷ filter (is_last ts) us) (filter (is_last ts) us)))
          (cond (not b) (unmarked (suc i) (map (λ t. not (is_last ts t)) us)) (i ∷ unmarked (suc i) (map (λ t. not (is_last ts t)) us)))
      go true rest =
          let here : first ts u.call.name ≡ Some i = (let same : i + 0 ≡ i = omega arith in at 0 u refl ∙ ap (λ (x : ℕ). Some x) same) in
          λ j. here j ∷ rest j
      go false rest = rest

  targets_by : (named : Names) → ((n : List ℕ) → Among n named → Among n (names ts)) → AreAt ts (target_names_by ts named) (target_places (names ts) rows named)
  targets_by [] there =
      subst (λ bs. AreAt ts (map (λ t. t.call.name) (filter (is_last ts) ts)) (unmarked 0 bs)) (sym bits_are)
      (last_at 0 ts (λ p t at. (let same : p ≡ 0 + p = omega arith in own p t at ∙ ap (λ (x : ℕ). Some x) same)))
  targets_by (n ∷ ns) there = all_at ts (n ∷ ns) there

  abbrev pub goals : List ℕ
  goals = target_places (names ts) rows d.targets

  pub targets_at : AreAt ts (target_names d) goals
  targets_at =
      targets_by d.targets
      (λ n a. listed (names ts) n (all_among (is_among (task_names d)) d.targets there_parts.0 n a))

  pub goals_within : All (λ p. p < length rows) goals
  goals_within = λ k e low. one (get_or goals k e) (name_at ts (target_names d) goals (get_or goals k e) targets_at (among_from goals (get_or goals k e) (Contains-get_or goals k e low)))
    where
      one : (p : ℕ) → ((n : List ℕ) × Among n (target_names d) × (first ts n ≡ Some p)) → p < length rows
      one p (n, among, is) = let low : p < length ts = place_low n p is in omega (arith, rows_are_long)

  -- ---- the marks

  pub meant_are : (marks : List Bool) → AreFound rows goals marks → marks ≡ map (is_meant d) ts
  meant_are marks f =
      ext_get_or false marks (map (is_meant d) ts) (f.long ∙ rows_are_long ∙ sym (length-map ts (is_meant d)))
      (λ p low. one p (some_task p (omega (arith, low, f.long, rows_are_long))))
    where
      one : (p : ℕ) → ((t : Task) × (slice_get ts p ≡ Some t)) → get_or marks p false ≡ get_or (map (is_meant d) ts) p false
      one p (t, at) =
          same_bools (is_marked marks p) (is_meant d t)
          (λ e. found_reached ts rows are_rows own h rows_are_long (target_names d) goals targets_at p t at ((f.exact p).0 e))
          (λ e. (f.exact p).1 (reached_found ts rows are_rows own h rows_are_long (target_names d) goals targets_at p t at e))
          ∙ sym (map_at (is_meant d) ts false p t at)

  pub planned :
      (plan : DagPlan) → plan.rows ≡ rows → orders.IsOrder rows plan.order → plan.targets ≡ goals →
      AreFound rows goals plan.meant → length plan.behind ≡ length rows →
      ((p : ℕ) → p < length rows → get_or plan.behind p [] ≡ rows_with p 0 rows) → IsPlan d plan
  planned plan rows_is o targets_is f long each = record {
    ranked = h;
    own = own;
    order = is_order plan.order o;
    meant = meant_are plan.meant f;
    long = ap (λ (rs : List (List ℕ)). length rs) rows_is ∙ rows_are_long;
    rows = λ p t at. subst (λ (rs : List (List ℕ)). AreAt ts (waited t) (get_or rs p [])) (sym rows_is) (are_rows p t at);
    long_behind = long ∙ rows_are_long;
    behind = λ p low. each p (omega (arith, low, rows_are_long)) ∙ ap (rows_with p 0) (sym rows_is);
    targets = subst (AreAt ts (target_names d)) (sym targets_is) targets_at;
  }

  -- ---- the table and the rows as they are made

  pub table_told : (us : List Task) (table : Names) → us ≡ ts → table ≡ add_names [] (names us) → table ≡ names ts
  table_told us table same is = is ∙ ap (λ (vs : List Task). add_names [] (names vs)) same ∙ table_is ts differ

  pub rows_told :
      (us : List Task) (table : Names) (rs : List (List ℕ)) → us ≡ ts → table ≡ add_names [] (names us) →
      rs ≡ map (λ t. places table (waited t)) us → rs ≡ rows
  rows_told us table rs same is made =
      made ∙ ap (λ (ns : Names). map (λ t. places ns (waited t)) us) (table_told us table same is)
      ∙ ap (λ (vs : List Task). map (λ t. places (names ts) (waited t)) vs) same
