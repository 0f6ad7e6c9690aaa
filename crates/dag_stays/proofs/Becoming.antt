-- What becomes of a task is told by the calls that stand below the DAG's node.
use Rattle.std.proofs.Common.{◌≡◌, ℕ, zero, suc, ◌+◌, ◌<◌, ◌^◌, List, [], ◌∷◌, ◌++◌, Bool, true, false, cond, ◌&&◌, ◌||◌, length, take, map, Option, Some, None, refl, sym, ap, ◌∙◌, subst, arith}
use Rattle.std.proofs.lemmas.List.{take_more}
use Rattle.std.proofs.lemmas.Option.{slice_get_within, get_or_from_slice_get}
use Rattle.std.specs.Prelude.{slice_get, bytes_eq, option_map, get_or}
use Rattle.std.specs.List.{All, list_any, filter, AllByRecursion}
use Rattle.std.proofs.lemmas.List.Elements.{All-weaker}
use Rattle.tree_types.specs.declared.phase.Phase.{Phase}
use Rattle.wf_manifest.specs.declared.calls.Task.{Task}
use Rattle.wf_manifest.specs.declared.calls.Dag.{Dag}
use Rattle.scopes.specs.Substitution.{Scope}
use Rattle.meaning.specs.declared.lines.Place.{Place}
use Rattle.meaning.specs.Answers.{Answers}
use Rattle.meaning.specs.Lines.{Made}
use Rattle.meaning.specs.Steps.{Caller}
use Rattle.meaning.specs.Dags.{Names, is_meant, Standing, waiting, ready, exists, has_failed, is_existing, look, Standings, target_names, is_doomed, standing}
use Rattle.task_order.specs.Orders.{waited}
use Rattle.dag_plan.specs.declared.plan.DagPlan.{DagPlan}
use Rattle.dag_plan.specs.Order.{first}
use Rattle.dag_plan.specs.Plans.{AreAt, IsPlan}
use Rattle.dag_template.specs.declared.stands.Stand.{Stand}
use Rattle.dag_template.specs.declared.judging.Verdict.{Verdict}
use Rattle.dag_template.specs.declared.judging.Verdict.TheVariants.{Waits as waits_for, Holds as holds, Denied as denied}
use Rattle.dag_template.specs.Stands.{Sight, sight, verdict}
use Rattle.dag_template.specs.Verdicts.{stands_by}
use Rattle.dag_template.proofs.Seeing.{by_verdict}
use Rattle.dag_template.proofs.Places.{places_low}
use Rattle.dag_template.proofs.VerdictsAlike.{verdicts_alike}
use Rattle.dag_board.specs.Boards.{stood}
use Rattle.dag_stays.specs.declared.following.Following.TheVariants.{Waits, Freed, Omitted}
use Rattle.dag_stays.specs.Following.{seen, is_spared, IsGood, TellsFollowing}
use Rattle.dag_stays.specs.Over.{StandsOver}

-- ---- tasks by their names and by their positions

later_of : (o : Option ℕ) (p : ℕ) → option_map suc o ≡ Some p → (q : ℕ) × (p ≡ suc q) × (o ≡ Some q)
later_of None p e = absurd (cc e)
later_of (Some q) p e = (q, (let same : suc q ≡ p = cc e in sym same), refl)

abbrev tasks_of : Standings → List Task
tasks_of ss = map (λ (s : Task × Standing). s.0) ss

pub look_at : (ss : Standings) (n : List ℕ) (p : ℕ) → first (tasks_of ss) n ≡ Some p → look ss n ≡ stood ss p
look_at [] n p e = absurd (cc e)
look_at (s ∷ ss) n p e = by_name (bytes_eq s.0.call.name n) (look_at ss n) e
  where
    by_name : (b : Bool) → ((q : ℕ) → first (tasks_of ss) n ≡ Some q → look ss n ≡ stood ss q) → cond b (Some 0) (option_map suc (first (tasks_of ss) n)) ≡ Some p → cond b s.1 (look ss n) ≡ stood (s ∷ ss) p
    by_name true rest k = let here : 0 ≡ p = cc k in ap (stood (s ∷ ss)) here
    by_name false rest k =
        let (q, is, later) = later_of (first (tasks_of ss) n) p k in
        rest q later ∙ ap (stood (s ∷ ss)) (sym is)

-- what is seen of the tasks of these names, and of those at these positions
pub seen_at : {X : Type 0} (f : Standing → X) (ss : Standings) (ts : List Task) → tasks_of ss ≡ ts → (ns : Names) (ps : List ℕ) → AreAt ts ns ps → map (λ n. f (look ss n)) ns ≡ map (λ p. f (stood ss p)) ps
seen_at f ss ts are [] [] at = refl
seen_at f ss ts are [] (p ∷ ps) at = absurd (cc at)
seen_at f ss ts are (n ∷ ns) [] at = absurd (cc at)
seen_at f ss ts are (n ∷ ns) (p ∷ ps) at =
    let here : first ts n ≡ Some p = cc at in
    let later : map (first ts) ns ≡ map Some ps = cc at in
    let one : look ss n ≡ stood ss p = look_at ss n p (ap (λ (us : List Task). first us n) are ∙ here) in
    λ i. f (one i) ∷ seen_at f ss ts are ns ps later i

seen_over : (s : Standing) → (seen s).over ≡ (sight s).over
seen_over waiting = refl
seen_over ready = refl
seen_over (exists m branch tags) = refl

seen_result : (s : Standing) → (seen s).result ≡ (sight s).result
seen_result waiting = refl
seen_result ready = refl
seen_result (exists m branch tags) = refl

-- ---- what becomes of a task

pub not_meant : (d : Dag) (k : ℕ) (b : Made) → ((t : Task) → slice_get d.tasks k ≡ Some t → is_meant d t ≡ false) → TellsFollowing d k b Waits
not_meant d k b off doomed A called place scope ss t over are there =
    by_verdict A called place scope d (look ss) k t ∙ ap (λ (m : Bool). stands_by A called place scope d (look ss) k t m (verdict d.tasks (λ n. sight (look ss n)) t)) (off t there)

module _ (d : Dag) (k : ℕ) (b : Made) (row : List ℕ) (found : List Stand) (v : Verdict)
    (meant : (t : Task) → slice_get d.tasks k ≡ Some t → is_meant d t ≡ true)
    (at : (t : Task) → slice_get d.tasks k ≡ Some t → AreAt d.tasks (waited t) row)
    (stands : (doomed : Bool) (place : Place) (ss : Standings) → StandsOver doomed place ss b → found ≡ map (λ p. seen (stood ss p)) row)
    (judged : (t : Task) → slice_get d.tasks k ≡ Some t → (of : Sight) → map of (waited t) ≡ found → v ≡ verdict d.tasks of t) where
  module _ (doomed : Bool) (A : Answers) (called : Caller) (place : Place) (scope : Scope) (ss : Standings) (t : Task) (over : StandsOver doomed place ss b) (are : map (λ (s : Task × Standing). s.0) ss ≡ d.tasks) (there : slice_get d.tasks k ≡ Some t) where
    abbrev of : Sight
    of n = seen (look ss n)

    abbrev by : Sight
    by n = sight (look ss n)

    told : v ≡ verdict d.tasks of t
    told = judged t there of (seen_at seen ss d.tasks are (waited t) row (at t there) ∙ sym (stands doomed place ss over))

    alike : (n : List ℕ) → ((of n).over ≡ (by n).over) × ((of n).result ≡ (by n).result)
    alike n = (seen_over (look ss n), seen_result (look ss n))

    stands_is : (w : Verdict) → verdict d.tasks by t ≡ w → standing A called place scope d (look ss) k t ≡ stands_by A called place scope d (look ss) k t true w
    stands_is w is =
        by_verdict A called place scope d (look ss) k t
        ∙ (λ i. stands_by A called place scope d (look ss) k t (meant t there i) (is i))

  pub told_waits : v ≡ waits_for → TellsFollowing d k b Waits
  told_waits is doomed A called place scope ss t over are there =
      stands_is doomed A called place scope ss t over are there waits_for
      ((verdicts_alike d.tasks (of doomed A called place scope ss t over are there) (by doomed A called place scope ss t over are there) t (alike doomed A called place scope ss t over are there)).1 (sym (told doomed A called place scope ss t over are there) ∙ is))

  pub told_freed : v ≡ holds → TellsFollowing d k b Freed
  told_freed is doomed A called place scope ss t over are there =
      stands_is doomed A called place scope ss t over are there holds
      ((verdicts_alike d.tasks (of doomed A called place scope ss t over are there) (by doomed A called place scope ss t over are there) t (alike doomed A called place scope ss t over are there)).0 (sym (told doomed A called place scope ss t over are there) ∙ is))

  -- by either it is Omitted, though with another branch phase
  denied_so : (of by : Sight) (t : Task) (branch : Phase) → ((n : List ℕ) → ((of n).over ≡ (by n).over) × ((of n).result ≡ (by n).result)) → verdict d.tasks of t ≡ denied branch → (w : Verdict) → verdict d.tasks by t ≡ w → (b : Phase) × (w ≡ denied b)
  denied_so of by t branch same is waits_for by_is =
      let both : waits_for ≡ denied branch = sym ((verdicts_alike d.tasks by of t (λ n. (sym (same n).0, sym (same n).1))).1 by_is) ∙ is in
      absurd (cc both)
  denied_so of by t branch same is holds by_is =
      let both : holds ≡ denied branch = sym ((verdicts_alike d.tasks by of t (λ n. (sym (same n).0, sym (same n).1))).0 by_is) ∙ is in
      absurd (cc both)
  denied_so of by t branch same is (denied b) by_is = (b, refl)

  pub told_omitted : (branch : Phase) → v ≡ denied branch → TellsFollowing d k b Omitted
  told_omitted branch is doomed A called place scope ss t over are there =
      let w = verdict d.tasks (by doomed A called place scope ss t over are there) t in
      let (other, so) = denied_so (of doomed A called place scope ss t over are there) (by doomed A called place scope ss t over are there) t branch (alike doomed A called place scope ss t over are there) (sym (told doomed A called place scope ss t over are there) ∙ is) w refl in
      (other, stands_is doomed A called place scope ss t over are there (denied other) so)

-- ---- whether the DAG is doomed

none_fails : (ss : Standings) (ts : List Task) → map (λ (s : Task × Standing). s.0) ss ≡ ts → (ns : Names) (ps : List ℕ) → AreAt ts ns ps → ((p : ℕ) → IsGood (stood ss p)) → AllByRecursion (λ (p : ℕ). is_spared (stood ss p) ≡ true) ps →
    list_any has_failed (filter is_existing (map (look ss) ns)) ≡ false
none_fails ss ts are [] [] at good all = refl
none_fails ss ts are [] (p ∷ ps) at good all = refl
none_fails ss ts are (n ∷ ns) [] at good all = absurd (cc at)
none_fails ss ts are (n ∷ ns) (p ∷ ps) at good all =
    let here : first ts n ≡ Some p = cc at in
    let later : map (first ts) ns ≡ map Some ps = cc at in
    let one : look ss n ≡ stood ss p = look_at ss n p (ap (λ (us : List Task). first us n) are ∙ here) in
    let off : has_failed (look ss n) ≡ false = ap has_failed one ∙ good p all.0 in
    by_existing (is_existing (look ss n)) off (none_fails ss ts are ns ps later good all.1)
  where
    by_existing : (b : Bool) → has_failed (look ss n) ≡ false → list_any has_failed (filter is_existing (map (look ss) ns)) ≡ false →
        list_any has_failed (cond b (look ss n ∷ filter is_existing (map (look ss) ns)) (filter is_existing (map (look ss) ns))) ≡ false
    by_existing true off rest = ap (λ (c : Bool). c || list_any has_failed (filter is_existing (map (look ss) ns))) off ∙ rest
    by_existing false off rest = rest

never_false : (b : Bool) → (b && false) ≡ false
never_false true = refl
never_false false = refl

pub not_doomed : (d : Dag) (plan : DagPlan) (ss : Standings) → map (λ (s : Task × Standing). s.0) ss ≡ d.tasks → IsPlan d plan → ((p : ℕ) → IsGood (stood ss p)) → AllByRecursion (λ (p : ℕ). is_spared (stood ss p) ≡ true) plan.targets → is_doomed d ss ≡ false
not_doomed d plan ss are plans good all =
    ap (λ (b : Bool). d.fail_fast && b) (none_fails ss d.tasks are (target_names d) plan.targets plans.targets good all) ∙ never_false d.fail_fast

-- ---- one place more

map_then : {X : Type 0} (f : ℕ → X) (xs : List ℕ) (x : ℕ) → map f (xs ++ x ∷ []) ≡ map f xs ++ f x ∷ []
map_then f [] x = refl
map_then f (y ∷ xs) x = ap (λ zs. f y ∷ zs) (map_then f xs x)

pub map_more : {X : Type 0} (f : ℕ → X) (ps : List ℕ) (i : ℕ) → i < length ps → map f (take (i + 1) ps) ≡ map f (take i ps) ++ f (get_or ps i 0) ∷ []
map_more f ps i lt = ap (λ (xs : List ℕ). map f xs) (take_more ps i 0 lt) ∙ map_then f (take i ps) (get_or ps i 0)

each_then : (P : ℕ → Type 0) (xs : List ℕ) (x : ℕ) → AllByRecursion P xs → P x → AllByRecursion P (xs ++ x ∷ [])
each_then P [] x all here = (here, tt)
each_then P (y ∷ xs) x all here = (all.0, each_then P xs x all.1 here)

pub each_more : (P : ℕ → Type 0) (ps : List ℕ) (i p : ℕ) → slice_get ps i ≡ Some p → AllByRecursion P (take i ps) → P p → AllByRecursion P (take (i + 1) ps)
each_more P ps i p there all here =
    subst (λ (xs : List ℕ). AllByRecursion P xs) (sym (take_more ps i p (slice_get_within ps i p there) ∙ ap (λ (x : ℕ). take i ps ++ x ∷ []) (get_or_from_slice_get ps i p p there)))
    (each_then P (take i ps) p all here)

-- ---- what a plan has at a position

mapped_at : {X Y : Type 0} (f : X → Y) (xs : List X) (k : ℕ) (x : X) (y : Y) → slice_get xs k ≡ Some x → slice_get (map f xs) k ≡ Some y → y ≡ f x
mapped_at f [] k x y there is = absurd (cc there)
mapped_at f (z ∷ xs) zero x y there is =
    let same : z ≡ x = cc there in
    let found : f z ≡ y = cc is in
    sym found ∙ ap f same
mapped_at f (z ∷ xs) (suc k) x y there is = mapped_at f xs k x y there is

module _ (d : Dag) (plan : DagPlan) (plans : IsPlan d plan) (k : ℕ) (t : Task) (there : slice_get d.tasks k ≡ Some t) where
  pub row_at : (row : List ℕ) → slice_get plan.rows k ≡ Some row → AreAt d.tasks (waited t) row
  row_at row is = subst (λ (ps : List ℕ). AreAt d.tasks (waited t) ps) (get_or_from_slice_get plan.rows k row [] is) (plans.rows k t there)

  pub meant_at : (b : Bool) → slice_get plan.meant k ≡ Some b → is_meant d t ≡ b
  meant_at b is = sym (mapped_at (is_meant d) d.tasks k t b there (ap (λ (bs : List Bool). slice_get bs k) (sym plans.meant) ∙ is))

-- positions of tasks, as numbers of 32 bits
pub low_places : (d : Dag) (ns : Names) (ps : List ℕ) → length d.tasks < 2 ^ 32 → AreAt d.tasks ns ps → record { few : All (λ p. p < 2 ^ 32) ps }
low_places d ns ps few at = record { few = All-weaker (λ p. p < length d.tasks) (λ p. p < 2 ^ 32) (λ p low. omega (arith, low, few)) ps (places_low d.tasks ns ps at) }
