-- A task of a DAG changes, and others wait for it: each of these stands as it does behind the task's change, and the rest as before.
use Rattle.std.proofs.Common.{◌≡◌, inl, inr, ℕ, zero, suc, ◌+◌, List, [], ◌∷◌, ◌++◌, Bool, true, false, cond, ◌&&◌, ◌||◌, Option, Some, None, refl, sym, ap, ◌∙◌, subst, arith}
use Rattle.std.specs.Prelude.{slice_get, bytes_eq}
use Rattle.std.proofs.lemmas.Slice.Eq.{bytes_eq-Decides}
use Rattle.base_types.specs.Names.{is_among, all_differ}
use Rattle.std.specs.List.{list_all}
use Rattle.std.proofs.lemmas.Bool.{ne_eqb}
use Rattle.tree_types.specs.declared.path.Sel.TheVariants.{Task as task_sel}
use Rattle.depends_expr.specs.Expression.{Expression}
use Rattle.depends_expr.specs.Truth.{named}
use Rattle.wf_manifest.specs.declared.calls.Task.{Task}
use Rattle.wf_manifest.specs.declared.calls.Dag.{Dag}
use Rattle.wf_manifest.specs.Valid.{HasRank, task_names}
use Rattle.wf_manifest.specs.declared.manifest.Manifest.{Manifest}
use Rattle.scopes.specs.Substitution.{Scope}
use Rattle.meaning.specs.declared.lines.Place.{Place}
use Rattle.meaning.specs.Answers.{Sels, Answers}
use Rattle.meaning.specs.Lines.{numbered}
use Rattle.meaning.specs.Steps.{Caller}
use Rattle.meaning.specs.Dags.{Names, awaited, named_by, parents, is_meant, Standing, waiting, is_over, Look, Standings, look, waits_by, meant, meant_by, standing, standings_by, standings}
use Rattle.meaning.specs.Calls.{calls}
use Rattle.growth.specs.Rounds.{RoundsSettle}
use Rattle.locality.specs.Paths.{IsOff}
use Rattle.locality.specs.Answered.{SameBut}
use Rattle.locality.proofs.Paths.{off_other_child}
use Rattle.locality.proofs.OffPath.{task_stays}
use Rattle.dag_board.specs.Boards.{stood}
use Rattle.dag_board.proofs.Lookups.{rows_are, stood_is}
use Rattle.dag_plan.specs.Order.{first}
use Rattle.dag_plan.proofs.Positions.{own_place}
use Rattle.dag_stays.proofs.RunsOn.{never, Near, AgreeOrWait, agree_or_wait, standing_alike}

-- ---- standings that are told task by task

abbrev pub rows : (ℕ → Task → Standing) → ℕ → List Task → Standings
rows f i ts = numbered (λ k u. (u, f k u)) i ts

-- the same of each task
pub rows_alike : (f h : ℕ → Task → Standing) (i : ℕ) (ts : List Task) → ((k : ℕ) (u : Task) → slice_get ts k ≡ Some u → f (i + k) u ≡ h (i + k) u) → rows f i ts ≡ rows h i ts
rows_alike f h i [] each = refl
rows_alike f h i (t ∷ ts) each =
    let here : i + 0 ≡ i = omega arith in
    let first : f i t ≡ h i t = subst (λ (q : ℕ). f q t ≡ h q t) here (each zero t refl) in
    let later = rows_alike f h (suc i) ts (λ k u there. (let next : i + suc k ≡ suc i + k = omega arith in subst (λ (q : ℕ). f q u ≡ h q u) next (each (suc k) u there))) in
    λ p. (t, first p) ∷ later p

-- looks that are related for the tasks of a name
looks_related : (R : Standing → Standing → Type 0) → R waiting waiting → (f h : ℕ → Task → Standing) (i : ℕ) (ts : List Task) (n : List ℕ) →
    ((k : ℕ) (u : Task) → slice_get ts k ≡ Some u → bytes_eq u.call.name n ≡ true → R (f (i + k) u) (h (i + k) u)) → R (look (rows f i ts) n) (look (rows h i ts) n)
looks_related R self f h i [] n each = self
looks_related R self f h i (t ∷ ts) n each =
    one (bytes_eq t.call.name n) refl
    (looks_related R self f h (suc i) ts n (λ k u there named. (let next : i + suc k ≡ suc i + k = omega arith in subst (λ (q : ℕ). R (f q u) (h q u)) next (each (suc k) u there named))))
  where
    one : (b : Bool) → bytes_eq t.call.name n ≡ b → R (look (rows f (suc i) ts) n) (look (rows h (suc i) ts) n) → R (cond b (f i t) (look (rows f (suc i) ts) n)) (cond b (h i t) (look (rows h (suc i) ts) n))
    one true is later =
        let here : i + 0 ≡ i = omega arith in
        subst (λ (q : ℕ). R (f q t) (h q t)) here (each zero t refl is)
    one false is later = later

-- ---- looks that are near for all names but one

pub neither : (a b : Bool) → (a || b) ≡ false → (a ≡ false) × (b ≡ false)
neither true b e = absurd (cc e)
neither false b e = (refl, e)

-- a name that is not among these
agree_or_wait_but : (at by : Look) (name : List ℕ) → ((n : List ℕ) → bytes_eq name n ≡ false → Near (at n) (by n)) → (ns : Names) → is_among ns name ≡ false → AgreeOrWait at by ns
agree_or_wait_but at by name near [] off = inl tt
agree_or_wait_but at by name near (n ∷ ns) off =
    let parts = neither (bytes_eq name n) (is_among ns name) off in
    both (near n parts.0) (agree_or_wait_but at by name near ns parts.1)
  where
    both : Near (at n) (by n) → AgreeOrWait at by ns → AgreeOrWait at by (n ∷ ns)
    both (inl same) (inl others) = inl (same, others)
    both (inl same) (inr off) = inr (ap (λ (b : Bool). is_over (at n) && b) off.0 ∙ never (is_over (at n)), ap (λ (b : Bool). is_over (by n) && b) off.1 ∙ never (is_over (by n)))
    both (inr run) others = inr (ap (λ (b : Bool). b && list_all (λ k. is_over (at k)) ns) run.0, ap (λ (b : Bool). b && list_all (λ k. is_over (by k)) ns) run.1)

-- ---- a task that waits for one that is not over

pub not_all : (at : Look) (name : List ℕ) → is_over (at name) ≡ false → (ns : Names) → is_among ns name ≡ true → list_all (λ n. is_over (at n)) ns ≡ false
not_all at name off [] among = absurd (cc among)
not_all at name off (n ∷ ns) among = one (bytes_eq name n) refl (λ later. not_all at name off ns later) among
  where
    one : (b : Bool) → bytes_eq name n ≡ b → (is_among ns name ≡ true → list_all (λ k. is_over (at k)) ns ≡ false) → (b || is_among ns name) ≡ true → (is_over (at n) && list_all (λ k. is_over (at k)) ns) ≡ false
    one true is later e =
        let same : name ≡ n = (bytes_eq-Decides name n).0 is in
        ap (λ (b : Bool). b && list_all (λ k. is_over (at k)) ns) (ap (λ (k : List ℕ). is_over (at k)) (sym same) ∙ off)
    one false is later e = ap (λ (b : Bool). is_over (at n) && b) (later e) ∙ never (is_over (at n))

module _ (A : Answers) (called : Caller) (place : Place) (scope : Scope) (d : Dag) (at : Look) (i : ℕ) (u : Task) (name : List ℕ) (off : is_over (at name) ≡ false) where
  waits_by_one : (w : Option Expression) → is_among (named_by w) name ≡ true → is_over (meant A called place scope d at i u w) ≡ false
  waits_by_one None among = absurd (cc among)
  waits_by_one (Some e) among = ap (λ (b : Bool). is_over (waits_by A called place scope d at i u e b)) (not_all at name off (named e) among)

  waits_if : (b : Bool) → is_among (parents d.tasks u) name ≡ true → is_over (meant_by A called place scope d at i u b) ≡ false
  waits_if false among = refl
  waits_if true among = waits_by_one (awaited d.tasks u) among

  pub waits_for_one : is_among (parents d.tasks u) name ≡ true → is_over (standing A called place scope d at i u) ≡ false
  waits_for_one among = waits_if (is_meant d u) among

-- ---- the law

module _ (m : Manifest) (A B : Answers) (changed : Sels) (same : SameBut A B changed) (g : Scope) (left : ℕ) (settle : RoundsSettle) (place : Place) (scope : Scope) (d : Dag) (ranked : HasRank d.tasks) (differ : all_differ (task_names d) ≡ true)
    (j : ℕ) (rest : Sels) (way : changed ≡ place.sels ++ task_sel j ∷ rest) (t : Task) (task : slice_get d.tasks j ≡ Some t) (x : Standing) where
  abbrev called_now : Caller
  called_now = calls m A g left

  abbrev called_then : Caller
  called_then = calls m B g left

  abbrev before : Standings
  before = standings B called_then place scope d

  abbrev is_it : Task → Bool
  is_it u = bytes_eq t.call.name u.call.name

  abbrev waits : Task → Bool
  waits u = is_among (parents d.tasks u) t.call.name

  abbrev stood_then : ℕ → Task → Standing
  stood_then k u = standing B called_then place scope d (look before) k u

  -- the task itself stands so, and each other as before
  abbrev ended : ℕ → Task → Standing
  ended k u = cond (is_it u) x (stood_then k u)

  abbrev pub middle : Look
  middle = look (rows ended 0 d.tasks)

  abbrev pub follows_by : Bool → Bool → ℕ → Task → Standing
  follows_by true w k u = x
  follows_by false true k u = standing A called_now place scope d middle k u
  follows_by false false k u = stood_then k u

  -- and each that waits for it as it does behind this
  abbrev pub follows : ℕ → Task → Standing
  follows k u = follows_by (is_it u) (waits u) k u

  abbrev pub after : Standings
  after = rows follows 0 d.tasks

  module _ (now : standing A called_now place scope d (look before) j t ≡ x) (apart : waits t ≡ false) (before_not : is_over (stood before j) ≡ false)
      (opened : (k : ℕ) (u : Task) → slice_get d.tasks k ≡ Some u → is_it u ≡ false → waits u ≡ true → is_over (standing A called_now place scope d middle k u) ≡ false) where
    before_is : before ≡ rows stood_then 0 d.tasks
    before_is = rows_are B called_then place scope d settle ranked

    -- a task of its name is the task itself
    same_task : (k : ℕ) (u : Task) → slice_get d.tasks k ≡ Some u → t.call.name ≡ u.call.name → (k ≡ j) × (u ≡ t)
    same_task k u there names =
        let placed : Some k ≡ Some j = sym (own_place d.tasks differ k u there) ∙ ap (λ (n : List ℕ). first d.tasks n) (sym names) ∙ own_place d.tasks differ j t task in
        let number : k ≡ j = cc placed in
        let found : Some u ≡ Some t = sym there ∙ ap (λ (q : ℕ). slice_get d.tasks q) number ∙ task in
        (number, cc found)

    looked : is_over (look before t.call.name) ≡ false
    looked =
        ap (λ (ss : Standings). is_over (look ss t.call.name)) before_is
        ∙ looks_related (λ (s u : Standing). is_over s ≡ false) refl stood_then stood_then 0 d.tasks t.call.name
        (λ k u there named.
        (let zeroth : 0 + k ≡ k = omega arith in
        let (number, one_task) = same_task k u there (sym ((bytes_eq-Decides u.call.name t.call.name).0 named)) in
        (λ p. is_over (stood_then ((zeroth ∙ number) p) (one_task p))) ∙ ap is_over (sym (stood_is B called_then place scope d settle ranked j t task)) ∙ before_not))

    waited_then : (k : ℕ) (u : Task) → waits u ≡ true → is_over (stood_then k u) ≡ false
    waited_then k u w = waits_for_one B called_then place scope d (look before) k u t.call.name looked w

    self : (s : Standing) → Near s s
    self s = inl refl

    -- another task, before and after
    one_near : (k : ℕ) (u : Task) → slice_get d.tasks k ≡ Some u → is_it u ≡ false → (w : Bool) → waits u ≡ w → Near (stood_then k u) (follows_by false w k u)
    one_near k u there other true w = inr (waited_then k u w, opened k u there other w)
    one_near k u there other false w = inl refl

    near_before : (n : List ℕ) → bytes_eq t.call.name n ≡ false → Near (look before n) (look after n)
    near_before n off =
        subst (λ (ss : Standings). Near (look ss n) (look after n)) (sym before_is)
        (looks_related Near (self waiting) stood_then follows 0 d.tasks n (λ k u there named.
        (let of : is_it u ≡ false = ap (λ (name : List ℕ). bytes_eq t.call.name name) ((bytes_eq-Decides u.call.name n).0 named) ∙ off in
        subst (λ (b : Bool). Near (stood_then (0 + k) u) (follows_by b (waits u) (0 + k) u)) (sym of) (one_near (0 + k) u (let zeroth : 0 + k ≡ k = omega arith in ap (λ (q : ℕ). slice_get d.tasks q) zeroth ∙ there) of (waits u) refl))))

    by_it : (k : ℕ) (u : Task) → slice_get d.tasks k ≡ Some u → (b : Bool) → is_it u ≡ b → Near (cond b x (stood_then k u)) (follows_by b (waits u) k u)
    by_it k u there true is = inl refl
    by_it k u there false is = one_near k u there is (waits u) refl

    near_middle : (n : List ℕ) → Near (middle n) (look after n)
    near_middle n =
        looks_related Near (self waiting) ended follows 0 d.tasks n (λ k u there named. by_it (0 + k) u (let zeroth : 0 + k ≡ k = omega arith in ap (λ (q : ℕ). slice_get d.tasks q) zeroth ∙ there) (is_it u) refl)

    off_it : (k : ℕ) (u : Task) → slice_get d.tasks k ≡ Some u → is_it u ≡ false → k ≡ j → ⊥
    off_it k u there other e =
        let found : Some u ≡ Some t = sym there ∙ ap (λ (q : ℕ). slice_get d.tasks q) e ∙ task in
        let one_task : u ≡ t = cc found in
        let itself : is_it u ≡ true = ap (λ (v : Task). bytes_eq t.call.name v.call.name) one_task ∙ (bytes_eq-Decides t.call.name t.call.name).1 refl in
        cc (itself, other)

    stays : (k : ℕ) (u : Task) → slice_get d.tasks k ≡ Some u → is_it u ≡ false → waits u ≡ false → stood_then k u ≡ standing A called_now place scope d (look after) k u
    stays k u there other none =
        sym (task_stays A B changed same m g left place scope d (look before) (look before) k u
        (subst (λ (p : Sels). IsOff p (place.sels ++ task_sel k ∷ [])) (sym way) (off_other_child place.sels rest [] (task_sel j) (task_sel k) (ne_eqb j k (λ e. off_it k u there other (sym e)))))
        (λ a b c. refl))
        ∙ standing_alike (look before) (look after) A called_now place scope d k u (agree_or_wait_but (look before) (look after) t.call.name near_before (parents d.tasks u) none)

    by_waits : (k : ℕ) (u : Task) → slice_get d.tasks k ≡ Some u → is_it u ≡ false → (w : Bool) → waits u ≡ w → follows_by false w k u ≡ standing A called_now place scope d (look after) k u
    by_waits k u there other true w = standing_alike middle (look after) A called_now place scope d k u (agree_or_wait middle (look after) near_middle (parents d.tasks u))
    by_waits k u there other false w = stays k u there other w

    itself : x ≡ standing A called_now place scope d (look after) j t
    itself = sym now ∙ standing_alike (look before) (look after) A called_now place scope d j t (agree_or_wait_but (look before) (look after) t.call.name near_before (parents d.tasks t) apart)

    each : (k : ℕ) (u : Task) → slice_get d.tasks k ≡ Some u → (b : Bool) → is_it u ≡ b → follows_by b (waits u) k u ≡ standing A called_now place scope d (look after) k u
    each k u there false other = by_waits k u there other (waits u) refl
    each k u there true is =
        let (number, one_task) = same_task k u there ((bytes_eq-Decides t.call.name u.call.name).0 is) in
        itself ∙ (λ p. standing A called_now place scope d (look after) (sym number p) (sym one_task p))

    solves : after ≡ standings_by A called_now place scope d (look after)
    solves = rows_alike follows (λ k u. standing A called_now place scope d (look after) k u) 0 d.tasks (λ k u there. each (0 + k) u (let zeroth : 0 + k ≡ k = omega arith in ap (λ (q : ℕ). slice_get d.tasks q) zeroth ∙ there) (is_it u) refl)

    -- the standings by the new answers
    pub standings_follow : standings A called_now place scope d ≡ after
    standings_follow = sym (settle A called_now place scope d after ranked solves)
