-- A task of a DAG ends: the tasks that wait for it are looked at one by one, and the others stand as before.
use Rattle.std.proofs.Common.{◌≡◌, ℕ, zero, suc, ◌+◌, ◌<◌, List, [], ◌∷◌, ◌++◌, Bool, true, false, cond, not, ◌&&◌, ◌||◌, ◌==◌, length, map, Option, Some, None, codes, refl, sym, ap, ◌∙◌, subst, arith}
use Rattle.std.specs.Prelude.{slice_get, bytes_eq}
use Rattle.std.specs.List.{All, list_any, list_all, AllByRecursion}
use Rattle.std.proofs.lemmas.Bool.{eq-eqb, ne_eqb}
use Rattle.std.proofs.lemmas.Slice.Eq.{bytes_eq-Decides}
use Rattle.std.proofs.lemmas.List.Elements.{recursion_from_All, All-contains}
use Rattle.std.proofs.lemmas.Option.{slice_get_within, get_or_from_slice_get}
use Rattle.base_types.specs.Names.{is_among, all_differ}
use Rattle.tree_types.specs.declared.path.Sel.TheVariants.{Task as task_sel}
use Rattle.tree_types.specs.declared.phase.Phase.{Phase}
use Rattle.tree_types.specs.declared.phase.Phase.TheVariants.{Pending, Running, Succeeded, Failed, Error, Skipped, Omitted}
use Rattle.tree_types.specs.Phases.{is_succeeded, is_skipped}
use Rattle.depends_expr.specs.Expression.{Expression}
use Rattle.depends_expr.specs.Truth.{truth, named}
use Rattle.wf_manifest.specs.declared.calls.ContinueOn.{ContinueOn}
use Rattle.wf_manifest.specs.declared.calls.Task.{Task}
use Rattle.wf_manifest.specs.declared.calls.Dag.{Dag}
use Rattle.wf_manifest.specs.Valid.{HasRank, task_names, names_in, waits_for}
use Rattle.wf_manifest.specs.declared.manifest.Manifest.{Manifest}
use Rattle.scopes.specs.Substitution.{Scope}
use Rattle.meaning.specs.declared.lines.Place.{Place}
use Rattle.meaning.specs.Answers.{Sels, Answers}
use Rattle.meaning.specs.Lines.{Made}
use Rattle.meaning.specs.Steps.{Caller, covered}
use Rattle.meaning.specs.Dags.{awaited, named_by, result_of, tags_before, free_by, decided_by, parents, is_meant, Standing, waiting, ready, exists, is_over, Look, look, Standings, waits_by, meant, meant_by, standing, standings, branch_of, is_bad, has_failed, is_doomed, task_place}
use Rattle.meaning.specs.Calls.{calls}
use Rattle.growth.specs.Rounds.{RoundsSettle}
use Rattle.locality.specs.Answered.{SameBut}
use Rattle.task_order.specs.Orders.{waited_in}
use Rattle.dag_board.specs.Boards.{stood}
use Rattle.dag_board.proofs.Lookups.{rows_are, look_stood, stood_is}
use Rattle.dag_plan.specs.Order.{first}
use Rattle.dag_plan.proofs.Positions.{own_place}
use Rattle.dag_plan.proofs.Names.{once}
use Rattle.dag_stays.specs.Behind.{put, again, ended, standing_of, stands_behind, followed}
use Rattle.dag_stays.specs.Over.{IsOwn, AreOwn}
use Rattle.dag_stays.proofs.Found.{StandsHere, own_standing}
use Rattle.dag_stays.proofs.Naming.{parents_any}
use Rattle.dag_stays.proofs.RunsOn.{never, still_doomed, tasks_kept}
use Rattle.dag_stays.specs.Following.{IsGood}
use Rattle.dag_stays.proofs.Follows.{rows, rows_alike, not_all, neither}
use Rattle.dag_stays.proofs.Follows as by_name

-- ---- standings that are told task by task, of which one is put

put_row : (f h : ℕ → Task → Standing) (i k : ℕ) (ts : List Task) (y : Standing) → ((u : Task) → slice_get ts k ≡ Some u → y ≡ h (i + k) u) → put (rows f i ts) k y ≡ rows (λ q u. cond (i + k == q) (h q u) (f q u)) i ts
put_row f h i k [] y is = refl
put_row f h i zero (t ∷ ts) y is =
    let here : i + 0 ≡ i = omega arith in
    let test : (i + 0 == i) ≡ true = eq-eqb (i + 0) i here in
    let first : y ≡ cond (i + 0 == i) (h i t) (f i t) = is t refl ∙ ap (λ (q : ℕ). h q t) here ∙ ap (λ (b : Bool). cond b (h i t) (f i t)) (sym test) in
    let later = rows_alike f (λ q u. cond (i + 0 == q) (h q u) (f q u)) (suc i) ts (λ k u there. ap (λ (b : Bool). cond b (h (suc i + k) u) (f (suc i + k) u)) (sym (ne_eqb (i + 0) (suc i + k) (λ e. omega (arith, e))))) in
    λ p. (t, first p) ∷ later p
put_row f h i (suc k) (t ∷ ts) y is =
    let moved : i + suc k ≡ suc i + k = omega arith in
    let first : f i t ≡ cond (i + suc k == i) (h i t) (f i t) = ap (λ (b : Bool). cond b (h i t) (f i t)) (sym (ne_eqb (i + suc k) i (λ e. omega (arith, e)))) in
    let later = put_row f h (suc i) k ts y (λ u there. is u there ∙ ap (λ (q : ℕ). h q u) moved) in
    let whole = later ∙ (λ p. rows (λ q u. cond (sym moved p == q) (h q u) (f q u)) (suc i) ts) in
    λ p. (t, first p) ∷ whole p

either_or : {X : Type 0} (a b : Bool) (x y : X) → cond a x (cond b x y) ≡ cond (b || a) x y
either_or true true x y = refl
either_or true false x y = refl
either_or false true x y = refl
either_or false false x y = refl

module _ (A : Answers) (called : Caller) (place : Place) (scope : Scope) (d : Dag) (us : Standings) where
  abbrev behind_of : ℕ → Task → Standing
  behind_of q u = standing A called place scope d (look us) q u

  put_behind : (f : ℕ → Task → Standing) (k : ℕ) → put (rows f 0 d.tasks) k (stands_behind A called place scope d us k) ≡ rows (λ q u. cond (k == q) (behind_of q u) (f q u)) 0 d.tasks
  put_behind f k =
      let zeroth : 0 + k ≡ k = omega arith in
      put_row f behind_of 0 k d.tasks (stands_behind A called place scope d us k) (λ u there. ap (standing_of A called place scope d us k) there ∙ (λ i. behind_of (sym zeroth i) u))
      ∙ (λ i. rows (λ q u. cond (zeroth i == q) (behind_of q u) (f q u)) 0 d.tasks)

  -- all that were looked at
  pub followed_rows : (f : ℕ → Task → Standing) (ks : List ℕ) → followed A called place scope d us (rows f 0 d.tasks) ks ≡ rows (λ q u. cond (list_any (λ k. k == q) ks) (behind_of q u) (f q u)) 0 d.tasks
  followed_rows f [] = refl
  followed_rows f (k ∷ ks) =
      ap (λ (ss : Standings). followed A called place scope d us ss ks) (put_behind f k)
      ∙ followed_rows (λ q u. cond (k == q) (behind_of q u) (f q u)) ks
      ∙ rows_alike (λ q u. cond (list_any (λ m. m == q) ks) (behind_of q u) (cond (k == q) (behind_of q u) (f q u))) (λ q u. cond ((k == q) || list_any (λ m. m == q) ks) (behind_of q u) (f q u)) 0 d.tasks
      (λ q u there. either_or (list_any (λ m. m == 0 + q) ks) (k == 0 + q) (behind_of (0 + q) u) (f (0 + q) u))

  -- one more is looked at
  pub followed_more : (ss : Standings) (ks : List ℕ) (k : ℕ) → followed A called place scope d us ss (ks ++ k ∷ []) ≡ put (followed A called place scope d us ss ks) k (stands_behind A called place scope d us k)
  followed_more ss [] k = refl
  followed_more ss (m ∷ ks) k = followed_more (put ss m (stands_behind A called place scope d us m)) ks k

-- ---- a task does not wait for itself

below_not : (rank : List ℕ → ℕ) (name : List ℕ) (ns : List (List ℕ)) → AllByRecursion (λ (n : List ℕ). rank n < rank name) ns → list_any (bytes_eq name) ns ≡ false
below_not rank name [] all = refl
below_not rank name (n ∷ ns) all = one (bytes_eq name n) refl (below_not rank name ns all.1)
  where
    one : (b : Bool) → bytes_eq name n ≡ b → list_any (bytes_eq name) ns ≡ false → (b || list_any (bytes_eq name) ns) ≡ false
    one false is later = later
    one true is later = let same : rank name ≡ rank n = ap rank ((bytes_eq-Decides name n).0 is) in absurd (omega (arith, all.0, same))

waits_any : (q : List ℕ → Bool) (o : Option Expression) (ns : Option (List (List ℕ))) → list_any q (waited_in o ns) ≡ list_any q (names_in o ns)
waits_any q (Some e) ns = once e q
waits_any q None (Some ns) = refl
waits_any q None None = refl

pub task_apart : (ts : List Task) → HasRank ts → (j : ℕ) (t : Task) → slice_get ts j ≡ Some t → is_among (parents ts t) t.call.name ≡ false
task_apart ts h j t there =
    let name = t.call.name in
    let lower : All (λ n. h.rank n < h.rank name) (waits_for t) =
    All-contains (λ (u : Task). All (λ n. h.rank n < h.rank u.call.name) (waits_for u)) ts t h.higher (j, slice_get_within ts j t there, get_or_from_slice_get ts j t t there) in
    parents_any (bytes_eq name) ts t ∙ waits_any (bytes_eq name) t.depends t.dependencies
    ∙ below_not h.rank name (waits_for t) (recursion_from_All (λ n. h.rank n < h.rank name) (waits_for t) lower)

-- ---- all stand at their places

pub own_put : (at : Sels) (i p : ℕ) (ss : Standings) (y : Standing) → AreOwn at i ss → IsOwn at (i + p) y → AreOwn at i (put ss p y)
own_put at i p [] y own h = tt
own_put at i zero (s ∷ ss) y own h = (let here : i + 0 ≡ i = omega arith in subst (λ (q : ℕ). IsOwn at q y) here h, own.1)
own_put at i (suc p) (s ∷ ss) y own h = (own.0, own_put at (suc i) p ss y own.1 (let moved : i + suc p ≡ suc i + p = omega arith in subst (λ (q : ℕ). IsOwn at q y) moved h))

pub stood_put : (ss : Standings) (p q : ℕ) (y : Standing) → (p ≡ q → ⊥) → stood (put ss p y) q ≡ stood ss q
stood_put [] p q y apart = refl
stood_put (s ∷ ss) zero zero y apart = absurd (apart refl)
stood_put (s ∷ ss) zero (suc q) y apart = refl
stood_put (s ∷ ss) (suc p) zero y apart = refl
stood_put (s ∷ ss) (suc p) (suc q) y apart = stood_put ss p q y (λ e. apart (ap suc e))

pub put_long : (ss : Standings) (p : ℕ) (y : Standing) → length (put ss p y) ≡ length ss
put_long [] p y = refl
put_long (s ∷ ss) zero y = refl
put_long (s ∷ ss) (suc p) y = ap suc (put_long ss p y)

-- ---- a task that waits for one that is not over waits itself

module _ (A : Answers) (called : Caller) (place : Place) (scope : Scope) (d : Dag) (at : Look) (i : ℕ) (u : Task) (name : List ℕ) (off : is_over (at name) ≡ false) where
  waits_by_one : (w : Option Expression) → is_among (named_by w) name ≡ true → meant A called place scope d at i u w ≡ waiting
  waits_by_one None among = absurd (cc among)
  waits_by_one (Some e) among = ap (λ (b : Bool). waits_by A called place scope d at i u e b) (not_all at name off (named e) among)

  waits_if : (b : Bool) → is_among (parents d.tasks u) name ≡ true → meant_by A called place scope d at i u b ≡ waiting
  waits_if false among = refl
  waits_if true among = waits_by_one (awaited d.tasks u) among

  pub is_waiting : is_among (parents d.tasks u) name ≡ true → standing A called place scope d at i u ≡ waiting
  is_waiting among = waits_if (is_meant d u) among

-- ---- the tasks that were looked at, one after the other

over_put : (ss : Standings) (p q : ℕ) (y : Standing) → is_over y ≡ false → is_over (stood ss q) ≡ false → is_over (stood (put ss p y) q) ≡ false
over_put [] p q y new old = refl
over_put (s ∷ ss) zero zero y new old = new
over_put (s ∷ ss) zero (suc q) y new old = old
over_put (s ∷ ss) (suc p) zero y new old = old
over_put (s ∷ ss) (suc p) (suc q) y new old = over_put ss p q y new old

pub put_same : (ss : Standings) (p : ℕ) (y : Standing) → stood ss p ≡ y → put ss p y ≡ ss
put_same [] p y is = refl
put_same (s ∷ ss) zero y is = λ i. (s.0, sym is i) ∷ ss
put_same (s ∷ ss) (suc p) y is = ap (λ (us : Standings). s ∷ us) (put_same ss p y is)

not_failed : (s : Standing) → is_over s ≡ false → has_failed s ≡ false
not_failed s off = ap (λ (b : Bool). b && is_bad (branch_of s)) off

spared_so : (fast : Bool) (s : Standing) → is_over s ≡ false → (fast && has_failed s) ≡ false
spared_so fast s off = ap (λ (b : Bool). fast && b) (not_failed s off) ∙ never fast

module _ (A : Answers) (called : Caller) (place : Place) (scope : Scope) (d : Dag) (us : Standings) where
  abbrev Closed : List ℕ → Type 0
  Closed ks = AllByRecursion (λ (k : ℕ). is_over (stands_behind A called place scope d us k) ≡ false) ks

  abbrev Open : Standings → List ℕ → Type 0
  Open ss ks = AllByRecursion (λ (k : ℕ). is_over (stood ss k) ≡ false) ks

  open_put : (ss : Standings) (p : ℕ) (y : Standing) → is_over y ≡ false → (ks : List ℕ) → Open ss ks → Open (put ss p y) ks
  open_put ss p y new [] all = tt
  open_put ss p y new (k ∷ ks) all = (over_put ss p k y new all.0, open_put ss p y new ks all.1)

  -- none of them dooms the DAG
  pub followed_doomed : (ss : Standings) (ks : List ℕ) → Open ss ks → Closed ks → is_doomed d ss ≡ is_doomed d (followed A called place scope d us ss ks)
  followed_doomed ss [] before after = refl
  followed_doomed ss (k ∷ ks) before after =
      let y = stands_behind A called place scope d us k in
      still_doomed d ss k y (not_failed (stood ss k) before.0) (spared_so d.fail_fast y after.0)
      ∙ followed_doomed (put ss k y) ks (open_put ss k y after.0 ks before.1) after.1

  pub followed_long : (ss : Standings) (ks : List ℕ) → length (followed A called place scope d us ss ks) ≡ length ss
  followed_long ss [] = refl
  followed_long ss (k ∷ ks) = followed_long (put ss k (stands_behind A called place scope d us k)) ks ∙ put_long ss k (stands_behind A called place scope d us k)

  other_number : (k q : ℕ) → (k == q) ≡ false → k ≡ q → ⊥
  other_number k q off e = cc (eq-eqb k q e, off)

  -- those that were not looked at
  pub followed_stood : (ss : Standings) (ks : List ℕ) (q : ℕ) → list_any (λ k. k == q) ks ≡ false → stood (followed A called place scope d us ss ks) q ≡ stood ss q
  followed_stood ss [] q off = refl
  followed_stood ss (k ∷ ks) q off =
      let parts = neither (k == q) (list_any (λ m. m == q) ks) off in
      followed_stood (put ss k (stands_behind A called place scope d us k)) ks q parts.1
      ∙ stood_put ss k q (stands_behind A called place scope d us k) (other_number k q parts.0)

  module _ (here : StandsHere called) where
    own_behind : (k : ℕ) → IsOwn place.sels k (stands_behind A called place scope d us k)
    own_behind k = own_of (slice_get d.tasks k)
      where
        own_of : (o : Option Task) → IsOwn place.sels k (standing_of A called place scope d us k o)
        own_of None = tt
        own_of (Some u) = own_standing A called here place scope d (look us) k u

    pub followed_own : (ss : Standings) (ks : List ℕ) → AreOwn place.sels 0 ss → AreOwn place.sels 0 (followed A called place scope d us ss ks)
    followed_own ss [] own = own
    followed_own ss (k ∷ ks) own =
        followed_own (put ss k (stands_behind A called place scope d us k)) ks
        (own_put place.sels 0 k ss (stands_behind A called place scope d us k) own (let zeroth : 0 + k ≡ k = omega arith in subst (λ (q : ℕ). IsOwn place.sels q (stands_behind A called place scope d us k)) (sym zeroth) (own_behind k)))

-- ---- the law

module _ (m : Manifest) (A B : Answers) (changed : Sels) (same : SameBut A B changed) (g : Scope) (left : ℕ) (settle : RoundsSettle) (place : Place) (scope : Scope) (d : Dag) (ranked : HasRank d.tasks) (differ : all_differ (task_names d) ≡ true)
    (j : ℕ) (rest : Sels) (way : changed ≡ place.sels ++ task_sel j ∷ rest) (t : Task) (task : slice_get d.tasks j ≡ Some t) (z : Made) where
  abbrev called_now : Caller
  called_now = calls m A g left

  abbrev called_then : Caller
  called_then = calls m B g left

  abbrev before : Standings
  before = standings B called_then place scope d

  abbrev x : Standing
  x = again t z (stood before j)

  abbrev us : Standings
  us = ended before j t z

  abbrev stood_then : ℕ → Task → Standing
  stood_then q u = standing B called_then place scope d (look before) q u

  abbrev waits : Task → Bool
  waits u = is_among (parents d.tasks u) t.call.name

  abbrev is_it : Task → Bool
  is_it u = bytes_eq t.call.name u.call.name

  abbrev name_middle : Standings
  name_middle = rows (λ q u. cond (is_it u) x (stood_then q u)) 0 d.tasks

  before_is : before ≡ rows stood_then 0 d.tasks
  before_is = rows_are B called_then place scope d settle ranked

  us_rows : us ≡ rows (λ q u. cond (j == q) x (stood_then q u)) 0 d.tasks
  us_rows =
      let zeroth : 0 + j ≡ j = omega arith in
      ap (λ (ss : Standings). put ss j x) before_is
      ∙ put_row stood_then (λ q u. x) 0 j d.tasks x (λ u there. refl)
      ∙ (λ p. rows (λ q u. cond (zeroth p == q) x (stood_then q u)) 0 d.tasks)

  -- a task of its name is the task itself
  same_task : (k : ℕ) (u : Task) → slice_get d.tasks k ≡ Some u → t.call.name ≡ u.call.name → (k ≡ j) × (u ≡ t)
  same_task k u there names =
      let placed : Some k ≡ Some j = sym (own_place d.tasks differ k u there) ∙ ap (λ (n : List ℕ). first d.tasks n) (sym names) ∙ own_place d.tasks differ j t task in
      let number : k ≡ j = cc placed in
      let found : Some u ≡ Some t = sym there ∙ ap (λ (q : ℕ). slice_get d.tasks q) number ∙ task in
      (number, cc found)

  it_is : (k : ℕ) (u : Task) → slice_get d.tasks k ≡ Some u → is_it u ≡ (j == k)
  it_is k u there = by_test (is_it u) refl
    where
      itself : j ≡ k → is_it u ≡ true
      itself e =
          let found : Some u ≡ Some t = sym there ∙ ap (λ (q : ℕ). slice_get d.tasks q) (sym e) ∙ task in
          let one_task : u ≡ t = cc found in
          ap (λ (v : Task). bytes_eq t.call.name v.call.name) one_task ∙ (bytes_eq-Decides t.call.name t.call.name).1 refl

      by_test : (b : Bool) → is_it u ≡ b → b ≡ (j == k)
      by_test true is = sym (eq-eqb j k (sym (same_task k u there ((bytes_eq-Decides t.call.name u.call.name).0 is)).0))
      by_test false is = sym (ne_eqb j k (λ e. cc (itself e, is)))

  middle_is : name_middle ≡ us
  middle_is =
      rows_alike (λ q u. cond (is_it u) x (stood_then q u)) (λ q u. cond (j == q) x (stood_then q u)) 0 d.tasks
      (λ k u there. (let zeroth : 0 + k ≡ k = omega arith in ap (λ (b : Bool). cond b x (stood_then (0 + k) u)) (it_is (0 + k) u (ap (λ (q : ℕ). slice_get d.tasks q) zeroth ∙ there))))
      ∙ sym us_rows

  module _ (now : standing A called_now place scope d (look before) j t ≡ x) (before_not : is_over (stood before j) ≡ false) (ks : List ℕ) (who : (k : ℕ) (u : Task) → slice_get d.tasks k ≡ Some u → waits u ≡ list_any (λ n. n == k) ks) where
    -- a task that waits for it waited before
    pub waited_before : (k : ℕ) (u : Task) → slice_get d.tasks k ≡ Some u → list_any (λ n. n == k) ks ≡ true → stood before k ≡ waiting
    waited_before k u there among =
        let looked : is_over (look before t.call.name) ≡ false = ap is_over (look_stood B called_then place scope d settle ranked t.call.name j (own_place d.tasks differ j t task)) ∙ before_not in
        stood_is B called_then place scope d settle ranked k u there
        ∙ is_waiting B called_then place scope d (look before) k u t.call.name looked (who k u there ∙ among)

    apart : waits t ≡ false
    apart = task_apart d.tasks ranked j t task

    -- it is none of them
    pub not_itself : list_any (λ n. n == j) ks ≡ false
    not_itself = sym (who j t task) ∙ apart

    module _ (opened : (k : ℕ) (u : Task) → slice_get d.tasks k ≡ Some u → list_any (λ n. n == k) ks ≡ true → is_over (stands_behind A called_now place scope d us k) ≡ false) where
      opened_by : (k : ℕ) (u : Task) → slice_get d.tasks k ≡ Some u → is_it u ≡ false → waits u ≡ true → is_over (standing A called_now place scope d (look name_middle) k u) ≡ false
      opened_by k u there other w =
          ap (λ (ss : Standings). is_over (standing A called_now place scope d (look ss) k u)) middle_is
          ∙ ap (λ (o : Option Task). is_over (standing_of A called_now place scope d us k o)) (sym there)
          ∙ opened k u there (sym (who k u there) ∙ w)

      abbrev by_all : ℕ → Task → Standing
      by_all q u = cond (list_any (λ k. k == q) ks) (standing A called_now place scope d (look us) q u) (cond (j == q) x (stood_then q u))

      one_alike : (k : ℕ) (u : Task) → slice_get d.tasks k ≡ Some u → (b c : Bool) → is_it u ≡ b → waits u ≡ c → by_name.follows_by m A B changed same g left settle place scope d ranked differ j rest way t task x b c k u ≡ by_all k u
      one_alike k u there true c is w =
          let (number, one_task) = same_task k u there ((bytes_eq-Decides t.call.name u.call.name).0 is) in
          let none : list_any (λ n. n == k) ks ≡ false = sym (who k u there) ∙ ap waits one_task ∙ apart in
          ap (λ (b : Bool). cond b x (stood_then k u)) (sym (eq-eqb j k (sym number)))
          ∙ ap (λ (b : Bool). cond b (standing A called_now place scope d (look us) k u) (cond (j == k) x (stood_then k u))) (sym none)
      one_alike k u there false true is w =
          ap (λ (ss : Standings). standing A called_now place scope d (look ss) k u) middle_is
          ∙ ap (λ (b : Bool). cond b (standing A called_now place scope d (look us) k u) (cond (j == k) x (stood_then k u))) (sym (sym (who k u there) ∙ w))
      one_alike k u there false false is w =
          ap (λ (b : Bool). cond b x (stood_then k u)) (sym (sym (it_is k u there) ∙ is))
          ∙ ap (λ (b : Bool). cond b (standing A called_now place scope d (look us) k u) (cond (j == k) x (stood_then k u))) (sym (sym (who k u there) ∙ w))

      pub standings_followed : standings A called_now place scope d ≡ followed A called_now place scope d us us ks
      standings_followed =
          by_name.standings_follow m A B changed same g left settle place scope d ranked differ j rest way t task x now apart before_not opened_by
          ∙ rows_alike (λ q u. by_name.follows m A B changed same g left settle place scope d ranked differ j rest way t task x q u) by_all 0 d.tasks
          (λ k u there. (let zeroth : 0 + k ≡ k = omega arith in one_alike (0 + k) u (ap (λ (q : ℕ). slice_get d.tasks q) zeroth ∙ there) (is_it u) (waits u) refl refl))
          ∙ sym (followed_rows A called_now place scope d us (λ q u. cond (j == q) x (stood_then q u)) ks)
          ∙ ap (λ (ss : Standings). followed A called_now place scope d us ss ks) (sym us_rows)

-- ---- the tasks are the same, and each is good

put_tasks : (ss : Standings) (p : ℕ) (x : Standing) → map (λ (s : Task × Standing). s.0) (put ss p x) ≡ map (λ (s : Task × Standing). s.0) ss
put_tasks [] p x = refl
put_tasks (s ∷ ss) zero x = refl
put_tasks (s ∷ ss) (suc p) x = ap (λ (ts : List Task). s.0 ∷ ts) (put_tasks ss p x)

good_covered : (on : Option ContinueOn) (b : Bool) (p : Phase) → (not b || (is_succeeded p || is_skipped p)) ≡ true → (b && is_bad (covered on p)) ≡ false
good_covered on false p is = refl
good_covered on true Pending is = absurd (cc is)
good_covered on true Running is = absurd (cc is)
good_covered on true Succeeded is = refl
good_covered on true Failed is = absurd (cc is)
good_covered on true Error is = absurd (cc is)
good_covered on true Skipped is = refl
good_covered on true Omitted is = absurd (cc is)

good_again : (t : Task) (z : Made) (s : Standing) → IsGood s → IsGood (again t z s)
good_again t z waiting good is = good is
good_again t z ready good is = good is
good_again t z (exists m branch seen) good is = good_covered t.call.continue_on z.own.finished z.own.node.phase is

module _ (A : Answers) (called : Caller) (place : Place) (scope : Scope) (d : Dag) (at : Look) (i : ℕ) (t : Task) where
  good_free : (seen : Scope) (b : Bool) → IsGood (free_by A called place scope d seen i t b)
  good_free seen false is = refl
  good_free seen true is =
      let m = called (codes "tasks.") (task_place place i t) (seen ++ scope) t.call in
      good_covered t.call.continue_on m.own.finished m.own.node.phase is

  good_decided : (e : Expression) (b : Bool) → IsGood (decided_by A called place scope d at i t e b)
  good_decided e true is = good_free (tags_before at (named e)) (not d.fail_fast || A.begun (task_place place i t).sels) is
  good_decided e false is = absurd (cc is)

  good_waits : (e : Expression) (b : Bool) → IsGood (waits_by A called place scope d at i t e b)
  good_waits e false is = refl
  good_waits e true is = good_decided e (truth (λ n. result_of (at n)) e) is

  good_meant : (w : Option Expression) → IsGood (meant A called place scope d at i t w)
  good_meant None = good_free [] (not d.fail_fast || A.begun (task_place place i t).sels)
  good_meant (Some e) = good_waits e (list_all (λ n. is_over (at n)) (named e))

  good_by : (b : Bool) → IsGood (meant_by A called place scope d at i t b)
  good_by false is = refl
  good_by true is = good_meant (awaited d.tasks t) is

  good_standing : IsGood (standing A called place scope d at i t)
  good_standing = good_by (is_meant d t)

good_rows : (f : ℕ → Task → Standing) → ((k : ℕ) (u : Task) → IsGood (f k u)) → (i : ℕ) (ts : List Task) (p : ℕ) → IsGood (stood (rows f i ts) p)
good_rows f good i [] p is = refl
good_rows f good i (t ∷ ts) zero is = good i t is
good_rows f good i (t ∷ ts) (suc p) is = good_rows f good (suc i) ts p is

good_put : (ss : Standings) (p : ℕ) (y : Standing) → IsGood y → ((q : ℕ) → IsGood (stood ss q)) → (q : ℕ) → IsGood (stood (put ss p y) q)
good_put [] p y new old q is = refl
good_put (s ∷ ss) zero y new old zero is = new is
good_put (s ∷ ss) zero y new old (suc q) is = old (suc q) is
good_put (s ∷ ss) (suc p) y new old zero is = old zero is
good_put (s ∷ ss) (suc p) y new old (suc q) is = good_put ss p y new (λ r. old (suc r)) q is

module _ (B : Answers) (called : Caller) (place : Place) (scope : Scope) (d : Dag) (settle : RoundsSettle) (ranked : HasRank d.tasks) where
  abbrev was : Standings
  was = standings B called place scope d

  abbrev stood_so : ℕ → Task → Standing
  stood_so q u = standing B called place scope d (look was) q u

  pub tasks_are : map (λ (s : Task × Standing). s.0) was ≡ d.tasks
  tasks_are = ap (λ (ss : Standings). map (λ (s : Task × Standing). s.0) ss) (rows_are B called place scope d settle ranked) ∙ tasks_kept stood_so 0 d.tasks

  pub ended_tasks : (j : ℕ) (t : Task) (z : Made) → map (λ (s : Task × Standing). s.0) (ended was j t z) ≡ d.tasks
  ended_tasks j t z = put_tasks was j (again t z (stood was j)) ∙ tasks_are

  good_before : (q : ℕ) → IsGood (stood was q)
  good_before q =
      subst (λ (ss : Standings). IsGood (stood ss q)) (sym (rows_are B called place scope d settle ranked))
      (good_rows stood_so (λ k u. good_standing B called place scope d (look was) k u) 0 d.tasks q)

  pub ended_good : (j : ℕ) (t : Task) (z : Made) (q : ℕ) → IsGood (stood (ended was j t z) q)
  ended_good j t z = good_put was j (again t z (stood was j)) (good_again t z (stood was j) (good_before j)) good_before
