-- What reaches what among places is what waits for what among tasks.
use Rattle.std.proofs.Common.{◌≡◌, ◌⊎◌, ℕ, ◌<◌, ◌≤◌, List, [], ◌∷◌, ◌++◌, length, get_or, set, replicate, fold, Option, Some, None, refl, sym, ap, ◌∙◌, subst, inl, inr, arith}
use Rattle.std.proofs.lemmas.List.{get_or-replicate, get_or_past, get_or_default, length-set, length-replicate, get_or-set_same, get_or-set_other}
use Rattle.std.proofs.lemmas.List.Elements.{Contains-get_or}
use Rattle.std.proofs.lemmas.Bool.{cases_lt}
use Rattle.std.specs.List.{All, Contains}
use Rattle.depends_expr.specs.Expression.{Expression}
use Rattle.depends_expr.specs.Truth.{named}
use Rattle.wf_manifest.specs.declared.calls.Task.{Task}
use Rattle.wf_manifest.specs.Valid.{waits_for, names_in}
use Rattle.task_order.specs.Ancestors.{names, Waits, IsAncestor, parent, above, HasOwnAncestor}
use Rattle.task_order.specs.Orders.{place, places, waited_in, waited, row, AreWithin, Reaches, at_once, over}
use Rattle.task_order.specs.Inside.Graphs.{with_more, added, IsGraph}
use Rattle.task_order.proofs.Among.{Among, among_from, contains_from, among_left, among_right, among_either, among_map, among_given, given_from, listed, is_listed, same_or}
use Rattle.task_order.proofs.NameLists.{all_added, only, place_reads, place_told, place_found, place_in}

-- ---- the names that a task waits for, each once

once : (depends : Option Expression) (dependencies : Option (List (List ℕ))) (name : List ℕ) → Among name (names_in depends dependencies) → Among name (waited_in depends dependencies)
once (Some e) dependencies name among = all_added [] (named e) name among
once None (Some ds) name among = among
once None None name among = absurd among

not_more : (depends : Option Expression) (dependencies : Option (List (List ℕ))) (name : List ℕ) → Among name (waited_in depends dependencies) → Among name (names_in depends dependencies)
not_more (Some e) dependencies name among =
    elim (only [] (named e) name among) [
      | inl none ↦ absurd none
      | inr there ↦ there
    ]
not_more None (Some ds) name among = among
not_more None None name among = absurd among

-- ---- rows

pub row_within : (waits : List (List ℕ)) (v d : ℕ) → AreWithin waits → Among d (row waits v) → d < length waits
row_within waits v d within among =
    elim (cases_lt v (length waits)) [
      | inl below ↦ at (contains_from (row waits v) d among) (within v [] below)
      | inr past ↦ absurd (subst (λ r. Among d r) (get_or_past waits v [] past) among)
    ]
  where
    at : Contains (row waits v) d → All (λ e. e < length waits) (row waits v) → d < length waits
    at (k, low, is) all = subst (λ e. e < length waits) is (all k d low)

module _ (table : List (List ℕ)) where
  more_long : (waits : List (List ℕ)) (more : List ℕ) (o : Option ℕ) → length (with_more waits more o) ≡ length waits
  more_long waits more None = refl
  more_long waits more (Some p) = length-set waits p (row waits p ++ more)

  pub added_long : (waits : List (List ℕ)) (t : Task) → length (added table waits t) ≡ length waits
  added_long waits t = more_long waits (places table (waited t)) (place table t.call.name)

  pub fold_long : (waits : List (List ℕ)) (ts : List Task) → length (fold (added table) waits ts) ≡ length waits
  fold_long waits [] = refl
  fold_long waits (t ∷ ts) = fold_long (added table waits t) ts ∙ added_long waits t

  -- what a row has stays
  more_kept : (waits : List (List ℕ)) (more : List ℕ) (o : Option ℕ) (v d : ℕ) → length waits ≡ length table → ((p : ℕ) → o ≡ Some p → p < length table) → Among d (row waits v) → Among d (row (with_more waits more o) v)
  more_kept waits more None v d long low among = among
  more_kept waits more (Some p) v d long low among =
      elim (same_or v p) [
        | inl same ↦
            let below : p < length waits = omega (arith, low p refl) in
            let is : row (set waits p (row waits p ++ more)) v ≡ row waits p ++ more = ap (row (set waits p (row waits p ++ more))) same ∙ get_or-set_same waits p (row waits p ++ more) [] below in
            subst (λ r. Among d r) (sym is) (among_left (row waits p) more d (subst (λ u. Among d (row waits u)) same among))
        | inr other ↦ subst (λ r. Among d r) (sym (get_or-set_other waits p v (row waits p ++ more) [] other)) among
      ]

  -- what is added is there
  more_new : (waits : List (List ℕ)) (more : List ℕ) (p d : ℕ) → p < length waits → Among d more → Among d (row (set waits p (row waits p ++ more)) p)
  more_new waits more p d below among =
      subst (λ r. Among d r) (sym (get_or-set_same waits p (row waits p ++ more) [] below)) (among_right (row waits p) more d among)

  -- and nothing else
  more_only : (waits : List (List ℕ)) (more : List ℕ) (o : Option ℕ) (v d : ℕ) → length waits ≡ length table → ((p : ℕ) → o ≡ Some p → p < length table) → Among d (row (with_more waits more o) v) → Among d (row waits v) ⊎ ((o ≡ Some v) × Among d more)
  more_only waits more None v d long low among = inl among
  more_only waits more (Some p) v d long low among =
      elim (same_or v p) [
        | inl same ↦
            let below : p < length waits = omega (arith, low p refl) in
            let is : row (set waits p (row waits p ++ more)) v ≡ row waits p ++ more = ap (row (set waits p (row waits p ++ more))) same ∙ get_or-set_same waits p (row waits p ++ more) [] below in
            split same (among_either (row waits p) more d (subst (λ r. Among d r) is among))
        | inr other ↦ inl (subst (λ r. Among d r) (get_or-set_other waits p v (row waits p ++ more) [] other) among)
      ]
    where
      split : v ≡ p → Among d (row waits p) ⊎ Among d more → Among d (row waits v) ⊎ ((Some p ≡ Some v) × Among d more)
      split same (inl old) = inl (subst (λ u. Among d (row waits u)) (sym same) old)
      split same (inr new) = inr (ap (λ u. Some u) (sym same), new)

  low_place : (t : Task) (p : ℕ) → place table t.call.name ≡ Some p → p < length table
  low_place t p is = (place_reads table t.call.name p is).0

  fold_kept : (waits : List (List ℕ)) (ts : List Task) (v d : ℕ) → length waits ≡ length table → Among d (row waits v) → Among d (row (fold (added table) waits ts) v)
  fold_kept waits [] v d long among = among
  fold_kept waits (t ∷ ts) v d long among =
      fold_kept (added table waits t) ts v d (added_long waits t ∙ long)
      (more_kept waits (places table (waited t)) (place table t.call.name) v d long (low_place t) among)

  fold_new : (waits : List (List ℕ)) (ts : List Task) (t : Task) (v d : ℕ) → length waits ≡ length table → Among t ts → place table t.call.name ≡ Some v → Among d (places table (waited t)) → Among d (row (fold (added table) waits ts) v)
  fold_new waits [] t v d long among at more = absurd among
  fold_new waits (u ∷ us) t v d long (inl same) at more =
      let here : place table u.call.name ≡ Some v = ap (λ (x : Task). place table x.call.name) same ∙ at in
      let there : Among d (places table (waited u)) = subst (λ (x : Task). Among d (places table (waited x))) (sym same) more in
      let below : v < length waits = omega (arith, low_place u v here) in
      fold_kept (added table waits u) us v d (added_long waits u ∙ long)
      (subst (λ o. Among d (row (with_more waits (places table (waited u)) o) v)) (sym here) (more_new waits (places table (waited u)) v d below there))
  fold_new waits (u ∷ us) t v d long (inr later) at more =
      fold_new (added table waits u) us t v d (added_long waits u ∙ long) later at more

  -- a task of the list adds a place to a row
  abbrev Adds : List Task → ℕ → ℕ → Type 0
  Adds ts v d = (t : Task) × Among t ts × (place table t.call.name ≡ Some v) × Among d (places table (waited t))

  fold_only : (waits : List (List ℕ)) (ts : List Task) (v d : ℕ) → length waits ≡ length table → Among d (row (fold (added table) waits ts) v) → Among d (row waits v) ⊎ Adds ts v d
  fold_only waits [] v d long among = inl among
  fold_only waits (u ∷ us) v d long among =
      elim (fold_only (added table waits u) us v d (added_long waits u ∙ long) among) [
        | inl here ↦ first (more_only waits (places table (waited u)) (place table u.call.name) v d long (low_place u) here)
        | inr (t, later, at, more) ↦ inr (t, inr later, at, more)
      ]
    where
      first : Among d (row waits v) ⊎ ((place table u.call.name ≡ Some v) × Among d (places table (waited u))) → Among d (row waits v) ⊎ Adds (u ∷ us) v d
      first (inl old) = inl old
      first (inr (at, more)) = inr (u, inl refl, at, more)

long_replicate : (n v : ℕ) → n ≤ v → length (replicate {A = List ℕ} n []) ≤ v
long_replicate n v past = let long : length (replicate {A = List ℕ} n []) ≡ n = length-replicate n [] in omega arith

no_row : (n v d : ℕ) → Among d (row (replicate n []) v) → ⊥
no_row n v d among =
    elim (cases_lt v n) [
      | inl below ↦ subst (λ r. Among d r) (get_or-replicate n v [] [] below) among
      | inr past ↦ subst (λ r. Among d r) (get_or_past (replicate n []) v [] (long_replicate n v past)) among
    ]

module _ (tasks : List Task) (table : List (List ℕ)) (waits : List (List ℕ)) (g : IsGraph tasks table waits) where
  pub graph_long : length waits ≡ length table
  graph_long = ap length g.waits_is ∙ fold_long table (replicate (length table) []) tasks ∙ length-replicate (length table) []

  -- a task's name is in the table, and nothing else is
  pub task_in : (t : Task) → Among t tasks → (v : ℕ) × (place table t.call.name ≡ Some v)
  task_in t among =
      place_found table t.call.name
      (subst (λ ns. Among t.call.name ns) (sym g.table_is) (all_added [] (names tasks) t.call.name (among_map (λ u. u.call.name) tasks t among)))

  table_in : (name : List ℕ) → Among name table → Among name (names tasks)
  table_in name among =
      elim (only [] (names tasks) name (subst (λ ns. Among name ns) g.table_is among)) [
        | inl none ↦ absurd none
        | inr there ↦ there
      ]

  pub name_in : (name : List ℕ) → Among name (names tasks) → (v : ℕ) × (place table name ≡ Some v)
  name_in name among = place_found table name (subst (λ ns. Among name ns) (sym g.table_is) (all_added [] (names tasks) name among))

  -- a place in a row is that of a name that a task of the row's name waits for
  pub edge : (t : Task) (v d : ℕ) (other : List ℕ) → Among t tasks → place table t.call.name ≡ Some v → Among other (waits_for t) → place table other ≡ Some d → Among d (row waits v)
  edge t v d other among at waits_ at_other =
      let more : Among d (places table (waited t)) = among_given (place table) (waited t) other d (once t.depends t.dependencies other waits_) at_other in
      subst (λ ws. Among d (row ws v)) (sym g.waits_is)
      (fold_new table (replicate (length table) []) tasks t v d (length-replicate (length table) []) among at more)

  pub edge_from : (v d : ℕ) → Among d (row waits v) → (t : Task) × (other : List ℕ) × Among t tasks × (place table t.call.name ≡ Some v) × Among other (waits_for t) × (place table other ≡ Some d)
  edge_from v d among =
      elim (fold_only table (replicate (length table) []) tasks v d (length-replicate (length table) []) (subst (λ ws. Among d (row ws v)) g.waits_is among)) [
        | inl none ↦ absurd (no_row (length table) v d none)
        | inr (t, in_tasks, at, more) ↦ by_name t in_tasks at (given_from (place table) (waited t) d more)
      ]
    where
      by_name : (t : Task) → Among t tasks → place table t.call.name ≡ Some v → ((other : List ℕ) × Among other (waited t) × (place table other ≡ Some d)) → (t : Task) × (other : List ℕ) × Among t tasks × (place table t.call.name ≡ Some v) × Among other (waits_for t) × (place table other ≡ Some d)
      by_name t in_tasks at (other, waits_, at_other) = (t, other, in_tasks, at, not_more t.depends t.dependencies other waits_, at_other)

  low_edge : (v d : ℕ) → Among d (row waits v) → d < length waits
  low_edge v d among =
      let (t, other, in_tasks, at, waits_, at_other) = edge_from v d among in
      let low : d < length table = (place_reads table other d at_other).0 in
      omega (arith, graph_long)

  pub graph_within : AreWithin waits
  graph_within = λ v r below. λ k e low.
      let d : ℕ = get_or (get_or waits v r) k e in
      let here : Among d (get_or waits v r) = among_from (get_or waits v r) d (Contains-get_or (get_or waits v r) k e low) in
      low_edge v d (subst (λ xs. Among d xs) (get_or_default waits v r [] below) here)

  -- ---- ancestors

  waits_edge : (other name : List ℕ) → Waits tasks other name → (v : ℕ) × (d : ℕ) × (place table name ≡ Some v) × (place table other ≡ Some d) × Among d (row waits v)
  waits_edge other name w =
      let in_tasks : Among w.task tasks = among_from tasks w.task w.among in
      let (v, at) = task_in w.task in_tasks in
      let (d, at_other) = name_in other (listed (names tasks) other w.there) in
      (v, d, ap (place table) (sym w.is) ∙ at, at_other, edge w.task v d other in_tasks at (among_from (waits_for w.task) other w.waits) at_other)

  edge_waits : (v d : ℕ) → Among d (row waits v) → (other : List ℕ) × (name : List ℕ) × Waits tasks other name × (place table name ≡ Some v) × (place table other ≡ Some d)
  edge_waits v d among =
      let (t, other, in_tasks, at, waits_, at_other) = edge_from v d among in (
        other,
        t.call.name,
        record {
          task = t;
          among = contains_from tasks t in_tasks;
          is = refl;
          waits = contains_from (waits_for t) other waits_;
          there = is_listed (names tasks) other (table_in other (place_in table other d at_other));
        },
        at,
        at_other,
      )

  pub ancestor_reached : (ancestor name : List ℕ) → IsAncestor tasks ancestor name → (v : ℕ) × (p : ℕ) × (place table name ≡ Some v) × (place table ancestor ≡ Some p) × Reaches waits p v
  ancestor_reached ancestor name (parent w) =
      let (v, p, at, at_other, among) = waits_edge ancestor name w in
      (v, p, at, at_other, at_once (contains_from (row waits v) p among))
  ancestor_reached ancestor name (above other w more) =
      let (v, d, at, at_other, among) = waits_edge other name w in
      let (u, p, at_u, at_p, reaches) = ancestor_reached ancestor other more in
      let same : u ≡ d = (let both : Some u ≡ Some d = sym at_u ∙ at_other in cc) in
      (v, p, at, at_p, over d (contains_from (row waits v) d among) (subst (λ x. Reaches waits p x) same reaches))

  same_name : (ancestor name other : List ℕ) → name ≡ other → IsAncestor tasks ancestor name → IsAncestor tasks ancestor other
  same_name ancestor name other same is = subst (λ n. IsAncestor tasks ancestor n) same is

  same_ancestor : (a b name : List ℕ) → a ≡ b → IsAncestor tasks a name → IsAncestor tasks b name
  same_ancestor a b name same is = subst (λ n. IsAncestor tasks n name) same is

  pub reached_ancestor : (p v : ℕ) (ancestor name : List ℕ) → place table ancestor ≡ Some p → place table name ≡ Some v → Reaches waits p v → IsAncestor tasks ancestor name
  reached_ancestor p v ancestor name at_p at_v (at_once among) =
      let (other, own, w, at, at_other) = edge_waits v p (among_from (row waits v) p among) in
      same_name ancestor own name (place_told table own name v at at_v)
      (same_ancestor other ancestor own (place_told table other ancestor p at_other at_p) (parent w))
  reached_ancestor p v ancestor name at_p at_v (over u among more) =
      let (other, own, w, at, at_other) = edge_waits v u (among_from (row waits v) u among) in
      same_name ancestor own name (place_told table own name v at at_v)
      (above other w (reached_ancestor p u ancestor other at_p at_other more))

  first_edge : (p v : ℕ) → Reaches waits p v → (u : ℕ) × Among u (row waits v)
  first_edge p v (at_once among) = (p, among_from (row waits v) p among)
  first_edge p v (over u among more) = (u, among_from (row waits v) u among)

  -- a place that reaches itself is that of a task that is its own ancestor
  pub own_ancestor : (v : ℕ) → Reaches waits v v → HasOwnAncestor tasks
  own_ancestor v reaches =
      let (u, among) = first_edge v v reaches in
      let (other, own, w, at, at_other) = edge_waits v u among in
      (own, reached_ancestor v v own own at at reaches)
