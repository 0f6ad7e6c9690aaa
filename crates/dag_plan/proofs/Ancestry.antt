-- The places that are found are those of the targets and their ancestors.
use Rattle.std.proofs.Common.{◌≡◌, ◌⊎◌, ℕ, zero, suc, ◌+◌, ◌-◌, ◌<◌, ◌≤◌, List, [], ◌∷◌, length, map, get_or, Bool, true, false, ◌||◌, cond, Option, Some, None, refl, sym, ap, ◌∙◌, subst, inl, inr, arith}
use Rattle.std.specs.Prelude.{bytes_eq, nat_lt, slice_get, flat_map}
use Rattle.std.specs.List.{All, Contains}
use Rattle.std.proofs.lemmas.Bool.{le-ltb, lt-ltb, ltb-true, ltb-false}
use Rattle.std.proofs.lemmas.Option.{slice_get_within, get_or_from_slice_get, slice_get_cases}
use Rattle.std.proofs.lemmas.List.{get_or_past}
use Rattle.std.proofs.lemmas.List.Elements.{All-contains}
use Rattle.base_types.specs.Names.{is_among}
use Rattle.wf_manifest.specs.declared.calls.Task.{Task}
use Rattle.wf_manifest.specs.Valid.{waits_for, HasRank}
use Rattle.task_order.specs.Orders.{row, waited}
use Rattle.task_order.proofs.Among.{Among, among_from, contains_from, among_left, among_right, among_either, listed, is_listed}
use Rattle.meaning.specs.Dags.{Names, task_named, parents, parents_found, parents_of, reaches}
use Rattle.dag_plan.specs.Order.{first}
use Rattle.dag_plan.specs.Plans.{AreAt}
use Rattle.dag_plan.specs.Inside.Marks.{Found, target, above}
use Rattle.dag_plan.proofs.Names.{Same}
use Rattle.dag_plan.proofs.Parents.{same_parents, same_waits}
use Rattle.dag_plan.proofs.Positions.{at_first, not_first}

or_cases : (a b : Bool) → (a || b) ≡ true → (a ≡ true) ⊎ (b ≡ true)
or_cases true b e = inl refl
or_cases false b e = inr e

or_left : (a b : Bool) → a ≡ true → (a || b) ≡ true
or_left true b e = refl
or_left false b e = absurd cc

or_right : (a b : Bool) → b ≡ true → (a || b) ≡ true
or_right true b e = refl
or_right false b e = e

-- ---- names at positions

pub name_at : (ts : List Task) (ns : Names) (ps : List ℕ) (p : ℕ) → AreAt ts ns ps → Among p ps → (n : List ℕ) × Among n ns × (first ts n ≡ Some p)
name_at ts [] [] p at among = absurd among
name_at ts [] (q ∷ qs) p at among = absurd cc
name_at ts (n ∷ ns) [] p at among = absurd cc
name_at ts (n ∷ ns) (q ∷ qs) p at (inl same) =
    (n, inl refl, (let here : first ts n ≡ Some q = cc at in here ∙ ap (λ (x : ℕ). Some x) same))
name_at ts (n ∷ ns) (q ∷ qs) p at (inr later) =
    let (m, among, is) = name_at ts ns qs p (let rest : map (first ts) ns ≡ map Some qs = cc at in rest) later in
    (m, inr among, is)

pub place_of : (ts : List Task) (ns : Names) (ps : List ℕ) (n : List ℕ) (p : ℕ) → AreAt ts ns ps → Among n ns → first ts n ≡ Some p → Among p ps
place_of ts [] ps n p at among is = absurd among
place_of ts (m ∷ ms) [] n p at among is = absurd cc
place_of ts (m ∷ ms) (q ∷ qs) n p at (inl same) is =
    let here : first ts m ≡ Some q = cc at in
    let both : Some q ≡ Some p = sym here ∙ ap (first ts) same ∙ is in
    inl (cc both)
place_of ts (m ∷ ms) (q ∷ qs) n p at (inr later) is =
    inr (place_of ts ms qs n p (let rest : map (first ts) ms ≡ map Some qs = cc at in rest) later is)

-- ---- rows of a DAG

abbrev pub AreRows : List Task → List (List ℕ) → Type 0
AreRows ts rows = (p : ℕ) (t : Task) → slice_get ts p ≡ Some t → AreAt ts (waited t) (get_or rows p [])

abbrev pub Own : List Task → Type 0
Own ts = (p : ℕ) (t : Task) → slice_get ts p ≡ Some t → first ts t.call.name ≡ Some p

pub among_same : (ns ms : Names) (n : List ℕ) → Same ns ms → Among n ns → Among n ms
among_same ns ms n h among = listed ms n (sym (h (bytes_eq n)) ∙ is_listed ns n among)

module _ (ts : List Task) (rows : List (List ℕ)) (are : AreRows ts rows) where
  -- a place in a row is that of a task that the row's task depends on
  pub parent_at : (p q : ℕ) (t : Task) → slice_get ts q ≡ Some t → Contains (row rows q) p → (n : List ℕ) × Among n (waited t) × (first ts n ≡ Some p)
  parent_at p q t at c = name_at ts (waited t) (row rows q) p (are q t at) (among_from (row rows q) p c)

  pub in_row : (p q : ℕ) (t : Task) (n : List ℕ) → slice_get ts q ≡ Some t → Among n (waited t) → first ts n ≡ Some p → Contains (row rows q) p
  in_row p q t n at among is = contains_from (row rows q) p (place_of ts (waited t) (row rows q) n p (are q t at) among is)

  module _ (targets : List ℕ) where
    -- ---- what is meant is found

    abbrev AllFound : Names → Type 0
    AllFound ns = (n : List ℕ) (p : ℕ) → Among n ns → first ts n ≡ Some p → Found rows targets p

    found_parents : (n m : List ℕ) (p : ℕ) (o : Option ℕ) → first ts n ≡ o → ((q : ℕ) → o ≡ Some q → Found rows targets q) → Among m (parents_of ts n) → first ts m ≡ Some p → Found rows targets p
    found_parents n m p None none found among is =
        absurd (subst (λ (o : Option Task). Among m (parents_found ts o)) (not_first ts n none) among)
    found_parents n m p (Some q) there found among is =
        let (t, at, same, named) = at_first ts n q there in
        let own : Among m (parents ts t) = subst (λ (o : Option Task). Among m (parents_found ts o)) named among in
        above q (found q refl) (in_row p q t m at (among_same (parents ts t) (waited t) m (same_parents ts t) own) is)

    all_parents : (ns : Names) → AllFound ns → AllFound (flat_map (parents_of ts) ns)
    all_parents [] h m p among is = absurd among
    all_parents (n ∷ ns) h m p among is =
        elim (among_either (parents_of ts n) (flat_map (parents_of ts) ns) m among) [
          | inl here ↦ found_parents n m p (first ts n) refl (λ q e. h n q (inl refl) e) here is
          | inr later ↦ all_parents ns (λ k q a e. h k q (inr a) e) m p later is
        ]

    pub meant_found : (k : ℕ) (ns : Names) → AllFound ns → (n : List ℕ) (p : ℕ) → reaches ts k ns n ≡ true → first ts n ≡ Some p → Found rows targets p
    meant_found zero ns h n p e is = h n p (listed ns n e) is
    meant_found (suc k) ns h n p e is =
        elim (or_cases (is_among ns n) (reaches ts k (flat_map (parents_of ts) ns) n) e) [
          | inl here ↦ h n p (listed ns n here) is
          | inr later ↦ meant_found k (flat_map (parents_of ts) ns) (all_parents ns h) n p later is
        ]

-- ---- more steps reach more

module _ (ts : List Task) where
  step_more : (k : ℕ) (ns : Names) (n : List ℕ) → reaches ts k ns n ≡ true → reaches ts (suc k) ns n ≡ true
  step_more zero ns n e = or_left (is_among ns n) (is_among (flat_map (parents_of ts) ns) n) e
  step_more (suc k) ns n e =
      elim (or_cases (is_among ns n) (reaches ts k (flat_map (parents_of ts) ns) n) e) [
        | inl here ↦ or_left (is_among ns n) (reaches ts (suc k) (flat_map (parents_of ts) ns) n) here
        | inr later ↦ or_right (is_among ns n) (reaches ts (suc k) (flat_map (parents_of ts) ns) n) (step_more k (flat_map (parents_of ts) ns) n later)
      ]

  steps_more : (more k : ℕ) (ns : Names) (n : List ℕ) → reaches ts k ns n ≡ true → reaches ts (more + k) ns n ≡ true
  steps_more zero k ns n e = subst (λ (x : ℕ). reaches ts x ns n ≡ true) (let same : k ≡ 0 + k = omega arith in same) e
  steps_more (suc more) k ns n e =
      subst (λ (x : ℕ). reaches ts x ns n ≡ true) (let same : suc (more + k) ≡ suc more + k = omega arith in same)
      (step_more (more + k) ns n (steps_more more k ns n e))

  parent_among : (ns : Names) (u n : List ℕ) → Among u ns → Among n (parents_of ts u) → Among n (flat_map (parents_of ts) ns)
  parent_among [] u n among parent = absurd among
  parent_among (m ∷ ms) u n (inl same) parent = among_left (parents_of ts m) (flat_map (parents_of ts) ms) n (subst (λ (x : List ℕ). Among n (parents_of ts x)) (sym same) parent)
  parent_among (m ∷ ms) u n (inr later) parent = among_right (parents_of ts m) (flat_map (parents_of ts) ms) n (parent_among ms u n later parent)

  -- a parent of what is reached is reached in one more step
  parent_reached : (k : ℕ) (ns : Names) (u n : List ℕ) → reaches ts k ns u ≡ true → Among n (parents_of ts u) → reaches ts (suc k) ns n ≡ true
  parent_reached zero ns u n e parent =
      or_right (is_among ns n) (is_among (flat_map (parents_of ts) ns) n)
      (is_listed (flat_map (parents_of ts) ns) n (parent_among ns u n (listed ns u e) parent))
  parent_reached (suc k) ns u n e parent =
      or_right (is_among ns n) (reaches ts (suc k) (flat_map (parents_of ts) ns) n)
      (elim (or_cases (is_among ns u) (reaches ts k (flat_map (parents_of ts) ns) u) e) [
        | inl here ↦ at_once (suc k) (is_listed (flat_map (parents_of ts) ns) n (parent_among ns u n (listed ns u here) parent))
        | inr later ↦ parent_reached k (flat_map (parents_of ts) ns) u n later parent
      ])
    where
      at_once : (j : ℕ) → is_among (flat_map (parents_of ts) ns) n ≡ true → reaches ts j (flat_map (parents_of ts) ns) n ≡ true
      at_once zero f = f
      at_once (suc j) f = or_left (is_among (flat_map (parents_of ts) ns) n) (reaches ts j (flat_map (parents_of ts) (flat_map (parents_of ts) ns)) n) f

  reached_at_once : (j : ℕ) (ns : Names) (n : List ℕ) → is_among ns n ≡ true → reaches ts j ns n ≡ true
  reached_at_once zero ns n f = f
  reached_at_once (suc j) ns n f = or_left (is_among ns n) (reaches ts j (flat_map (parents_of ts) ns) n) f

-- ---- how many tasks rank above a number

module _ (rank : List ℕ → ℕ) where
  abbrev add_if : Bool → ℕ → ℕ
  add_if b n = cond b (suc n) n

  abbrev count_above : ℕ → List Task → ℕ
  count_above r [] = 0
  count_above r (t ∷ ts) = add_if (nat_lt r (rank t.call.name)) (count_above r ts)

  fewer : (x r s a b : ℕ) → r ≤ s → a ≤ b → add_if (nat_lt s x) a ≤ add_if (nat_lt r x) b
  fewer x r s a b h k = go (nat_lt s x) (nat_lt r x) refl refl
    where
      go : (c d : Bool) → nat_lt s x ≡ c → nat_lt r x ≡ d → add_if c a ≤ add_if d b
      go true true e f = omega arith
      go true false e f = let p = ltb-true s x e in let q = ltb-false r x f in omega arith
      go false true e f = omega arith
      go false false e f = omega arith

  fewer_above : (r s : ℕ) (ts : List Task) → r ≤ s → count_above s ts ≤ count_above r ts
  fewer_above r s [] h = omega arith
  fewer_above r s (t ∷ ts) h = fewer (rank t.call.name) r s (count_above s ts) (count_above r ts) h (fewer_above r s ts h)

  less_more : (x r s a b : ℕ) → r ≤ s → a < b → add_if (nat_lt s x) a < add_if (nat_lt r x) b
  less_more x r s a b h k = go (nat_lt s x) (nat_lt r x) refl refl
    where
      go : (c d : Bool) → nat_lt s x ≡ c → nat_lt r x ≡ d → add_if c a < add_if d b
      go true true e f = omega arith
      go true false e f = let p = ltb-true s x e in let q = ltb-false r x f in omega arith
      go false true e f = omega arith
      go false false e f = omega arith

  -- above a lower rank stands one more task, the one of the higher rank
  less_above : (r : ℕ) (ts : List Task) (p : ℕ) (t : Task) → slice_get ts p ≡ Some t → r < rank t.call.name → count_above (rank t.call.name) ts < count_above r ts
  less_above r [] p t at lt = absurd cc
  less_above r (u ∷ us) zero t at lt =
      let same : u ≡ t = cc at in
      let x : ℕ = rank t.call.name in
      let not_own : nat_lt x (rank u.call.name) ≡ false = ap (λ (v : Task). nat_lt x (rank v.call.name)) same ∙ le-ltb x x (omega arith) in
      let own : nat_lt r (rank u.call.name) ≡ true = ap (λ (v : Task). nat_lt r (rank v.call.name)) same ∙ lt-ltb r x lt in
      let most : count_above x us ≤ count_above r us = fewer_above r x us (omega arith) in
      let left : add_if (nat_lt x (rank u.call.name)) (count_above x us) ≡ count_above x us = ap (λ (b : Bool). add_if b (count_above x us)) not_own in
      let right : add_if (nat_lt r (rank u.call.name)) (count_above r us) ≡ suc (count_above r us) = ap (λ (b : Bool). add_if b (count_above r us)) own in
      omega arith
  less_above r (u ∷ us) (suc p) t at lt =
      less_more (rank u.call.name) r (rank t.call.name) (count_above (rank t.call.name) us) (count_above r us) (omega arith) (less_above r us p t at lt)

  at_most : (b : Bool) (n l : ℕ) → n ≤ l → add_if b n ≤ suc l
  at_most true n l h = omega arith
  at_most false n l h = omega arith

  count_most : (r : ℕ) (ts : List Task) → count_above r ts ≤ length ts
  count_most r [] = omega arith
  count_most r (t ∷ ts) = at_most (nat_lt r (rank t.call.name)) (count_above r ts) (length ts) (count_most r ts)

-- ---- what is found is meant

module _ (ts : List Task) (rows : List (List ℕ)) (are : AreRows ts rows) (own : Own ts) (h : HasRank ts) (long : length rows ≡ length ts) where
  pub task_lower : (q : ℕ) (t : Task) (n : List ℕ) → slice_get ts q ≡ Some t → Among n (waited t) → h.rank n < h.rank t.call.name
  task_lower q t n at among =
      let there : Contains ts t = (q, slice_get_within ts q t at, get_or_from_slice_get ts q t t at) in
      let all : All (λ m. h.rank m < h.rank t.call.name) (waits_for t) =
      All-contains (λ (u : Task). All (λ m. h.rank m < h.rank u.call.name) (waits_for u)) ts t h.higher there in
      All-contains (λ m. h.rank m < h.rank t.call.name) (waits_for t) n all
      (contains_from (waits_for t) n (among_same (waited t) (waits_for t) n (same_waits t) among))

  module _ (goals : Names) (targets : List ℕ) (targets_at : AreAt ts goals targets) where
    -- within as many steps as tasks rank above it
    abbrev Reached : List ℕ → Type 0
    Reached n = reaches ts (count_above h.rank (h.rank n) ts) goals n ≡ true

    same_at : (n m : List ℕ) (p : ℕ) → first ts n ≡ Some p → first ts m ≡ Some p → n ≡ m
    same_at n m p at_n at_m =
        let (t, t_at, t_name, t_found) = at_first ts n p at_n in
        let (u, u_at, u_name, u_found) = at_first ts m p at_m in
        let same : t ≡ u = (let both : Some t ≡ Some u = sym t_at ∙ u_at in cc both) in
        sym t_name ∙ ap (λ (x : Task). x.call.name) same ∙ u_name

    more_steps : (k c : ℕ) (n : List ℕ) → k ≤ c → reaches ts k goals n ≡ true → reaches ts c goals n ≡ true
    more_steps k c n le e =
        subst (λ (x : ℕ). reaches ts x goals n ≡ true) (let same : (c - k) + k ≡ c = omega arith in same) (steps_more ts (c - k) k goals n e)

    -- a parent of a task that is reached
    above_reached : (p q : ℕ) (t : Task) → slice_get ts q ≡ Some t → Reached t.call.name → Contains (row rows q) p → (n : List ℕ) → first ts n ≡ Some p → Reached n
    above_reached p q t at reached c n is =
        let (m, among, m_at) = parent_at ts rows are p q t at c in
        let (u, u_at, u_name, u_found) = at_first ts t.call.name q (own q t at) in
        let same : u ≡ t = (let both : Some u ≡ Some t = sym u_at ∙ at in cc both) in
        let found : task_named ts t.call.name ≡ Some t = u_found ∙ ap (λ (x : Task). Some x) same in
        let parent : Among m (parents_of ts t.call.name) =
        subst (λ (o : Option Task). Among m (parents_found ts o)) (sym found)
        (among_same (waited t) (parents ts t) m (λ test. sym (same_parents ts t test)) among) in
        let less : count_above h.rank (h.rank t.call.name) ts < count_above h.rank (h.rank m) ts =
        less_above h.rank (h.rank m) ts q t at (task_lower q t m at among) in
        subst Reached (same_at m n p m_at is)
        (more_steps (suc (count_above h.rank (h.rank t.call.name) ts)) (count_above h.rank (h.rank m) ts) m (omega arith)
        (parent_reached ts (count_above h.rank (h.rank t.call.name) ts) goals t.call.name m reached parent))

    no_row : (q p : ℕ) → length ts ≤ q → Contains (row rows q) p → ⊥
    no_row q p past c = among_from [] p (subst (λ r. Contains r p) (get_or_past rows q [] (omega arith)) c)

    reached_by : (p : ℕ) → Found rows targets p → (n : List ℕ) → first ts n ≡ Some p → Reached n
    reached_by p (target c) n is =
        let (m, among, at) = name_at ts goals targets p targets_at (among_from targets p c) in
        subst Reached (same_at m n p at is) (reached_at_once ts (count_above h.rank (h.rank m) ts) goals m (is_listed goals m among))
    reached_by p (above q f c) n is =
        elim (slice_get_cases ts q).1 [
          | inl (t, low, at, read) ↦ above_reached p q t at (reached_by q f t.call.name (own q t at)) c n is
          | inr (past, none) ↦ absurd (no_row q p past c)
        ]

    targets_found : (n : List ℕ) (p : ℕ) → Among n goals → first ts n ≡ Some p → Found rows targets p
    targets_found n p among is = target (contains_from targets p (place_of ts goals targets n p targets_at among is))

    -- what is found is reached within as many steps as there are tasks, and nothing else is
    pub found_reached : (p : ℕ) (t : Task) → slice_get ts p ≡ Some t → Found rows targets p → reaches ts (length ts) goals t.call.name ≡ true
    found_reached p t at f =
        more_steps (count_above h.rank (h.rank t.call.name) ts) (length ts) t.call.name (count_most h.rank (h.rank t.call.name) ts)
        (reached_by p f t.call.name (own p t at))

    pub reached_found : (p : ℕ) (t : Task) → slice_get ts p ≡ Some t → reaches ts (length ts) goals t.call.name ≡ true → Found rows targets p
    reached_found p t at e = meant_found ts rows are targets (length ts) goals targets_found t.call.name p e (own p t at)
