-- The tasks of a DAG, gone through in an order.
use Rattle.std.proofs.Common.{◌≡◌, ℕ, zero, suc, ◌+◌, ◌<◌, List, [], ◌∷◌, ◌++◌, length, map, get_or, set, take, Bool, true, false, cond, ◌&&◌, ◌||◌, not, refl, ap, sym, ◌∙◌, subst, arith}
use Rattle.std.proofs.Math.Logic.{inl, inr}
use Rattle.std.proofs.Math.Seq.{take-suc}
use Rattle.std.proofs.lemmas.Bool.Decides.{eqb_tells}
use Rattle.std.proofs.lemmas.List.{get_or-set_same, get_or-set_other}
use Rattle.std.proofs.lemmas.List.Elements.{All-append, All-contains, All-from_recursion, recursion_from_All}
use Rattle.std.specs.Prelude.{Option, Some, None, IfSome, option_map, slice_get, bytes_eq}
use Rattle.std.specs.List.{All, AllByRecursion, Contains, list_any}
use Rattle.depends_expr.specs.Expression.{Expression, bare, has, negation, both, either}
use Rattle.depends_expr.specs.Truth.{holds, bare_holds, truth, named, names_of, add_name, add_names}
use Rattle.wf_manifest.specs.declared.calls.Task.{Task}
use Rattle.wf_manifest.specs.declared.calls.Dag.{Dag}
use Rattle.wf_manifest.specs.Valid.{names_in, waits_for, HasRank}
use Rattle.meaning.specs.Lines.{numbered}
use Rattle.meaning.specs.Dags.{Names, is_meant, Standing, look, Standings, standing, with_standing}
use Rattle.growth.specs.Rounds.{RoundsSettle}
use Rattle.dag_template.specs.declared.states.TaskState.{TaskState}
use Rattle.dag_template.specs.declared.stands.Stand.{Stand}
use Rattle.dag_template.specs.States.{state_of, nowhere, as_stated, as_begun}
use Rattle.dag_template.specs.Step.{stand}
use Rattle.dag_template.specs.Stands.{sight, waits, stand_of, Sight, verdict_by, are_met, verdict_waiting, verdict, stand_by, stand_if}
use Rattle.dag_plan.specs.Order.{first, IsOrder}
use Rattle.dag_template.specs.Order.{sights}
use Rattle.dag_template.proofs.Awaiting.{Each, each_map, each_left, each_right}
use Rattle.dag_template.proofs.Solving.{solve}
use Rattle.dag_template.proofs.Seeing.{seen_as_it_stands}

-- the task at a position is seen as by the first list
abbrev pub Settled : List Stand → List Stand → ℕ → Type 0
Settled told stands p = get_or stands p waits ≡ get_or told p waits

-- ---- what becomes of a task depends only on the tasks that it waits for

module _ (Q : List ℕ → Type 0) where
  each_one : (ns : Names) (n : List ℕ) → Each Q ns → Q n → Each Q (ns ++ n ∷ [])
  each_one [] n h q = (q, tt)
  each_one (m ∷ ns) n h q = (h.0, each_one ns n h.1 q)

  each_name : (ns : Names) (n : List ℕ) → Each Q ns → Q n → Each Q (add_name ns n)
  each_name ns n h q = go (list_any (bytes_eq n) ns)
    where
      go : (b : Bool) → Each Q (cond b ns (ns ++ n ∷ []))
      go true = h
      go false = each_one ns n h q

  each_names : (ns ms : Names) → Each Q ns → Each Q ms → Each Q (add_names ns ms)
  each_names ns [] h k = h
  each_names ns (m ∷ ms) h k = each_names (add_name ns m) ms (each_name ns m h k.0) k.1

module _ (ts : List Task) (f g : Sight) where
  maps_same : (ns : Names) → Each (λ n. f n ≡ g n) ns → map f ns ≡ map g ns
  maps_same [] h = refl
  maps_same (n ∷ ns) h = λ i. h.0 i ∷ maps_same ns h.1 i

  truths_same : (e : Expression) → Each (λ n. f n ≡ g n) (named e) → truth (λ n. (f n).result) e ≡ truth (λ n. (g n).result) e
  truths_same (bare n) h = ap (λ (s : Stand). bare_holds s.result) h.0
  truths_same (has n w) h = ap (λ (s : Stand). holds s.result w) h.0
  truths_same (negation e) h = ap not (truths_same e h)
  truths_same (both d e) h =
      λ i. truths_same d (each_left (λ n. f n ≡ g n) (named d) (named e) h) i
      && truths_same e (each_right (λ n. f n ≡ g n) (named d) (named e) h) i
  truths_same (either d e) h =
      λ i. truths_same d (each_left (λ n. f n ≡ g n) (named d) (named e) h) i
      || truths_same e (each_right (λ n. f n ≡ g n) (named d) (named e) h) i

  waiting_same :
      (o : Option Expression) (dependencies : Option Names) → Each (λ n. f n ≡ g n) (names_in o dependencies) →
      verdict_waiting ts f o dependencies ≡ verdict_waiting ts g o dependencies
  waiting_same (Some e) dependencies h =
      λ i. verdict_by (maps_same (names_of e) (each_names (λ n. f n ≡ g n) [] (named e) tt h) i) (truths_same e h i)
  waiting_same None (Some ns) h = λ i. verdict_by (maps_same ns h i) (are_met ts ns (maps_same ns h i))
  waiting_same None None h = refl

  pub verdicts_same : (t : Task) → Each (λ n. f n ≡ g n) (waits_for t) → verdict ts f t ≡ verdict ts g t
  verdicts_same t h = waiting_same t.depends t.dependencies h

stands_same :
    (d : Dag) (f g : Sight) (t : Task) (s : TaskState) (meant : Bool) → Each (λ n. f n ≡ g n) (waits_for t) →
    stand_if d f t s meant ≡ stand_if d g t s meant
stands_same d f g t s true h = ap (stand_by d.fail_fast t.call.continue_on s) (verdicts_same d.tasks f g t h)
stands_same d f g t s false h = refl

-- ---- a name is looked up at its first position

later : (P : ℕ → Type 0) (o : Option ℕ) → IfSome (option_map suc o) P → IfSome o (λ q. P (suc q))
later P None h = tt
later P (Some q) h = h

first_same :
    (ts : List Task) (xs ys : List Stand) (n : List ℕ) → length ts ≡ length xs → length ts ≡ length ys →
    IfSome (first ts n) (λ q. get_or xs q waits ≡ get_or ys q waits) → stand_of ts xs n ≡ stand_of ts ys n
first_same [] xs ys n e f h = refl
first_same (t ∷ ts) [] ys n e f h = absurd (omega (arith, e))
first_same (t ∷ ts) (x ∷ xs) [] n e f h = absurd (omega (arith, f))
first_same (t ∷ ts) (x ∷ xs) (y ∷ ys) n e f h =
    go (bytes_eq t.call.name n) h (λ k. first_same ts xs ys n (omega (arith, e)) (omega (arith, f)) k)
  where
    go :
        (b : Bool) →
        IfSome (cond b (Some 0) (option_map suc (first ts n))) (λ q. get_or (x ∷ xs) q waits ≡ get_or (y ∷ ys) q waits) →
        (IfSome (first ts n) (λ q. get_or xs q waits ≡ get_or ys q waits) → stand_of ts xs n ≡ stand_of ts ys n) →
        cond b x (stand_of ts xs n) ≡ cond b y (stand_of ts ys n)
    go true k rest = k
    go false k rest = rest (later (λ q. get_or (x ∷ xs) q waits ≡ get_or (y ∷ ys) q waits) (first ts n) k)

module _ (d : Dag) (states : List TaskState) where
  abbrev pub ss : Standings
  ss = stand d states

  abbrev pub by_states : ℕ → Task → Standing
  by_states i t = standing (as_begun states) (as_stated states) nowhere [] d (look ss) i t

  abbrev pub rows : ℕ → List Task → Standings
  rows i us = numbered (with_standing (as_begun states) (as_stated states) nowhere [] d (look ss)) i us

  abbrev pub seen_rows : ℕ → List Task → List Stand
  seen_rows i us = map (λ s. sight s.1) (rows i us)

  rows_long : (i : ℕ) (us : List Task) → length us ≡ length (seen_rows i us)
  rows_long i [] = refl
  rows_long i (t ∷ us) = ap suc (rows_long (suc i) us)

  rows_looked : (i : ℕ) (us : List Task) (n : List ℕ) → stand_of us (seen_rows i us) n ≡ sight (look (rows i us) n)
  rows_looked i [] n = refl
  rows_looked i (t ∷ us) n = go (bytes_eq t.call.name n) (rows_looked (suc i) us n)
    where
      go :
          (b : Bool) → stand_of us (seen_rows (suc i) us) n ≡ sight (look (rows (suc i) us) n) →
          cond b (sight (by_states i t)) (stand_of us (seen_rows (suc i) us) n)
          ≡ sight (cond b (by_states i t) (look (rows (suc i) us) n))
      go true e = refl
      go false e = e

  rows_at :
      (i : ℕ) (us : List Task) (p : ℕ) (t : Task) → slice_get us p ≡ Some t →
      get_or (seen_rows i us) p waits ≡ sight (by_states (i + p) t)
  rows_at i [] p t e = absurd cc
  rows_at i (u ∷ us) zero t e =
      let same : u ≡ t = cc e in
      let place : i ≡ i + 0 = omega arith in
      λ j. sight (by_states (place j) (same j))
  rows_at i (u ∷ us) (suc p) t e =
      let place : suc i + p ≡ i + suc p = omega arith in
      rows_at (suc i) us p t e ∙ ap (λ (q : ℕ). sight (by_states q t)) place

  module _ (settle : RoundsSettle) (h : HasRank d.tasks) where
    pub told_is : sights d states ≡ seen_rows 0 d.tasks
    told_is = ap (λ (xs : Standings). map (λ s. sight s.1) xs) (solve (as_begun states) (as_stated states) nowhere [] d h settle)

    pub told_long : length d.tasks ≡ length (sights d states)
    told_long = rows_long 0 d.tasks ∙ sym (ap (λ (xs : List Stand). length xs) told_is)

    pub told_looked : (n : List ℕ) → stand_of d.tasks (sights d states) n ≡ sight (look ss n)
    told_looked n =
        ap (λ (xs : List Stand). stand_of d.tasks xs n) told_is ∙ rows_looked 0 d.tasks n
        ∙ sym (ap (λ (xs : Standings). sight (look xs n)) (solve (as_begun states) (as_stated states) nowhere [] d h settle))

    told_at : (p : ℕ) (t : Task) → slice_get d.tasks p ≡ Some t → get_or (sights d states) p waits ≡ sight (by_states p t)
    told_at p t e =
        let place : 0 + p ≡ p = omega arith in
        ap (λ (xs : List Stand). get_or xs p waits) told_is ∙ rows_at 0 d.tasks p t e ∙ ap (λ (q : ℕ). sight (by_states q t)) place

    module _ (order : List ℕ) (o : IsOrder d.tasks order) (stands : List Stand) (k : ℕ) (lt : k < length order) (long : length stands ≡ length d.tasks) (settled : All (Settled (sights d states) stands) (take k order)) where
      before_same : (n : List ℕ) (q : Option ℕ) → IfSome q (Contains (take k order)) → IfSome q (λ p. get_or stands p waits ≡ get_or (sights d states) p waits)
      before_same n None h = tt
      before_same n (Some q) h = All-contains (Settled (sights d states) stands) (take k order) q settled h

      looked_same : (n : List ℕ) → IfSome (first d.tasks n) (Contains (take k order)) → stand_of d.tasks stands n ≡ sight (look ss n)
      looked_same n f =
          first_same d.tasks stands (sights d states) n (sym long) told_long (before_same n (first d.tasks n) f) ∙ told_looked n

      -- the next task is seen as it stands
      pub next_settled :
          (t : Task) → slice_get d.tasks (get_or order k 0) ≡ Some t → (found : Stand) →
          found ≡ stand_if d (stand_of d.tasks stands) t (state_of states (get_or order k 0)) (is_meant d t) →
          found ≡ get_or (sights d states) (get_or order k 0) waits
      next_settled t is found e =
          let p : ℕ = get_or order k 0 in
          e
          ∙ stands_same d (stand_of d.tasks stands) (λ n. sight (look ss n)) t (state_of states p) (is_meant d t)
          (each_map (λ n. IfSome (first d.tasks n) (Contains (take k order))) (λ n. stand_of d.tasks stands n ≡ sight (look ss n))
          (waits_for t) looked_same (o.behind k t lt is))
          ∙ sym (seen_as_it_stands d states (look ss) p t) ∙ sym (told_at p t is)

      stays : (p q : ℕ) (found : Stand) → p < length stands → found ≡ get_or (sights d states) p waits → Settled (sights d states) stands q → Settled (sights d states) (set stands p found) q
      stays p q found below e h =
          elim (eqb_tells q p) [
            | inl same ↦
                subst (λ (x : ℕ). Settled (sights d states) (set stands p found) x) (sym same.1)
                (get_or-set_same stands p found waits below ∙ e)
            | inr other ↦ get_or-set_other stands p q found waits other.1 ∙ h
          ]

      all_stay : (p : ℕ) (found : Stand) → p < length stands → found ≡ get_or (sights d states) p waits → (qs : List ℕ) → AllByRecursion (Settled (sights d states) stands) qs → AllByRecursion (Settled (sights d states) (set stands p found)) qs
      all_stay p found below e [] h = tt
      all_stay p found below e (q ∷ qs) h = (stays p q found below e h.0, all_stay p found below e qs h.1)

      pub more_settled :
          (t : Task) → slice_get d.tasks (get_or order k 0) ≡ Some t → get_or order k 0 < length stands → (found : Stand) →
          found ≡ stand_if d (stand_of d.tasks stands) t (state_of states (get_or order k 0)) (is_meant d t) →
          All (Settled (sights d states) (set stands (get_or order k 0) found)) (take (suc k) order)
      more_settled t is below found e =
          let p : ℕ = get_or order k 0 in
          let right : found ≡ get_or (sights d states) p waits = next_settled t is found e in
          let new : List Stand = set stands p found in
          subst (λ (qs : List ℕ). All (Settled (sights d states) new) qs) (sym (take-suc order k 0 lt))
          (All-append (Settled (sights d states) new) (take k order) (p ∷ [])
          (All-from_recursion (Settled (sights d states) new) (take k order)
          (all_stay p found below right (take k order) (recursion_from_All (Settled (sights d states) stands) (take k order) settled)))
          (All-from_recursion (Settled (sights d states) new) (p ∷ []) (get_or-set_same stands p found waits below ∙ right, tt)))

-- ---- lists that are the same at each position

list_same : (xs ys : List Stand) → length xs ≡ length ys → ((q : ℕ) → q < length xs → get_or xs q waits ≡ get_or ys q waits) → xs ≡ ys
list_same [] [] e f = refl
list_same [] (y ∷ ys) e f = absurd (omega (arith, e))
list_same (x ∷ xs) [] e f = absurd (omega (arith, e))
list_same (x ∷ xs) (y ∷ ys) e f =
    let head = f zero (omega arith) in
    let rest = list_same xs ys (omega (arith, e)) (λ q l. f (suc q) (omega (arith, l))) in
    λ i. head i ∷ rest i

pub whole_settled :
    (order : List ℕ) (told stands : List Stand) → length stands ≡ length told →
    ((p : ℕ) → p < length stands → Contains order p) → All (Settled told stands) order → stands ≡ told
whole_settled order told stands long whole settled =
    list_same stands told long (λ q l. All-contains (Settled told stands) order q settled (whole q l))

pub meant_at :
    (f : Task → Bool) (ts : List Task) (p : ℕ) (t : Task) → slice_get ts p ≡ Some t → get_or (map f ts) p false ≡ f t
meant_at f [] p t e = absurd cc
meant_at f (u ∷ ts) zero t e = let same : u ≡ t = cc e in ap f same
meant_at f (u ∷ ts) (suc p) t e = meant_at f ts p t e

pub task_at : (ts : List Task) (p : ℕ) → p < length ts → (t : Task) × (slice_get ts p ≡ Some t)
task_at [] p low = absurd (omega (arith, low))
task_at (t ∷ ts) zero low = (t, refl)
task_at (t ∷ ts) (suc p) low = task_at ts p (omega (arith, low))
