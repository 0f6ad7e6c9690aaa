-- What follows by the states of the tasks is what follows by all that they make.
use Rattle.std.proofs.Common.{◌≡◌, refl, sym, ap, subst, ◌∙◌, ◌+◌, ◌<◌, arith}
use Rattle.std.proofs.lemmas.Slice.Eq.{bytes_eq-Decides}
use Rattle.std.proofs.lemmas.List.Elements.{recursion_from_All}
use Rattle.std.specs.Prelude.{ℕ, zero, suc, List, [], ◌∷◌, Bool, true, false, cond, not, ◌&&◌, ◌||◌, Option, Some, None, bytes_eq, map, filter}
use Rattle.std.specs.List.{All, AllByRecursion, list_all, list_any}
use Rattle.tree_types.specs.declared.phase.Phase.TheVariants.{Running}
use Rattle.tree_types.specs.Phases.{worst_of}
use Rattle.depends_expr.specs.Expression.{Expression}
use Rattle.depends_expr.specs.Truth.{named}
use Rattle.wf_manifest.specs.declared.calls.Task.{Task}
use Rattle.wf_manifest.specs.declared.calls.Dag.{Dag}
use Rattle.wf_manifest.specs.Valid.{waits_for, HasRank}
use Rattle.scopes.specs.Substitution.{Scope}
use Rattle.meaning.specs.declared.lines.Place.{Place}
use Rattle.meaning.specs.Answers.{Answers}
use Rattle.meaning.specs.Lines.{numbered}
use Rattle.meaning.specs.Steps.{Caller}
use Rattle.meaning.specs.Dags.{Names, awaited, is_meant, is_bad, Standing, waiting, branch_of, is_existing, is_ready, is_at_rest, has_failed, targets, target_names, is_doomed, dag_over, Look, look, Standings, task_place, standing, with_standing, standings}
use Rattle.growth.specs.Rounds.{Solves, RoundsSettle}
use Rattle.dag_template.specs.declared.states.TaskState.{TaskState}
use Rattle.dag_template.specs.States.{state_of, nowhere, as_stated, as_begun}
use Rattle.dag_template.specs.Step.{places_from, denies, is_left_out, step_by, stand}
use Rattle.dag_template.specs.Seen.{SolvesByStates, seen, state_seen, states_seen, StatesSuffice}
use Rattle.dag_template.proofs.Awaiting.{Each, each_map, awaited_each}
use Rattle.dag_template.proofs.Solving.{solve}
use Rattle.dag_template.proofs.Alike.{Alike, alike_refl, AlikeAt, over_same, truth_same, standing_alike}

each_all : (Q : List ℕ → Type 0) → ((n : List ℕ) → Q n) → (ns : Names) → Each Q ns
each_all Q f [] = tt
each_all Q f (n ∷ ns) = (f n, each_all Q f ns)

-- ---- what is read of the standings of targets

abbrev AlikeLists : List Standing → List Standing → Type 0
AlikeLists [] [] = Unit {0}
AlikeLists [] (y ∷ ys) = ⊥
AlikeLists (x ∷ xs) [] = ⊥
AlikeLists (x ∷ xs) (y ∷ ys) = Alike x y × AlikeLists xs ys

kept_alike :
    (b c : Bool) (x y : Standing) (xs ys : List Standing) → b ≡ c → Alike x y → AlikeLists xs ys →
    AlikeLists (cond b (x ∷ xs) xs) (cond c (y ∷ ys) ys)
kept_alike true true x y xs ys e h k = (h, k)
kept_alike true false x y xs ys e h k = absurd (cc e)
kept_alike false true x y xs ys e h k = absurd (cc e)
kept_alike false false x y xs ys e h k = k

existing_alike :
    (a b : Look) → ((n : List ℕ) → Alike (a n) (b n)) → (ns : Names) →
    AlikeLists (filter is_existing (map a ns)) (filter is_existing (map b ns))
existing_alike a b alike [] = tt
existing_alike a b alike (n ∷ ns) =
    kept_alike (is_existing (a n)) (is_existing (b n)) (a n) (b n) (filter is_existing (map a ns)) (filter is_existing (map b ns))
    (alike n).existing (alike n) (existing_alike a b alike ns)

any_failed : (xs ys : List Standing) → AlikeLists xs ys → list_any has_failed xs ≡ list_any has_failed ys
any_failed [] [] h = refl
any_failed [] (y ∷ ys) h = absurd h
any_failed (x ∷ xs) [] h = absurd h
any_failed (x ∷ xs) (y ∷ ys) h = λ i. (h.0.over i && is_bad (h.0.branch i)) || any_failed xs ys h.1 i

branches : (xs ys : List Standing) → AlikeLists xs ys → map branch_of xs ≡ map branch_of ys
branches [] [] h = refl
branches [] (y ∷ ys) h = absurd h
branches (x ∷ xs) [] h = absurd h
branches (x ∷ xs) (y ∷ ys) h = λ i. h.0.branch i ∷ branches xs ys h.1 i

found_alike :
    (c : Bool) (x y : Standing) (xs ys : Standings) (n : List ℕ) → (c ≡ true → Alike x y) → Alike (look xs n) (look ys n) →
    Alike (cond c x (look xs n)) (cond c y (look ys n))
found_alike true x y xs ys n f h = f refl
found_alike false x y xs ys n f h = h

module _ (A : Answers) (called : Caller) (place : Place) (scope : Scope) (d : Dag) (ss ts : Standings) where
  abbrev states : List TaskState
  states = states_seen A place ss

  abbrev by_all : ℕ → Task → Standing
  by_all i t = standing A called place scope d (look ss) i t

  abbrev by_states : ℕ → Task → Standing
  by_states i t = standing (as_begun states) (as_stated states) nowhere [] d (look ts) i t

  abbrev rows : ℕ → List Task → Standings
  rows i us = numbered (with_standing A called place scope d (look ss)) i us

  abbrev rows_told : ℕ → List Task → Standings
  rows_told i us = numbered (with_standing (as_begun states) (as_stated states) nowhere [] d (look ts)) i us

  -- the state of each task tells how it stands
  abbrev Tell : ℕ → List Task → Type 0
  Tell i [] = Unit {0}
  Tell i (t ∷ us) = (state_of states i ≡ seen (A.begun (task_place place i t).sels) (by_all i t)) × Tell (suc i) us

  tell_from :
      (i : ℕ) (us : List Task) →
      ((k : ℕ) → state_of states (i + k) ≡ state_of (numbered (state_seen A place) i (rows i us)) k) → Tell i us
  tell_from i [] f = tt
  tell_from i (t ∷ us) f =
      let here : i ≡ i + zero = omega arith in (
        ap (state_of states) here ∙ f zero,
        tell_from (suc i) us (λ k. (let next : suc i + k ≡ i + suc k = omega arith in ap (state_of states) next ∙ f (suc k))),
      )

  abbrev RowsAlike : ℕ → List Task → Type 0
  RowsAlike i [] = Unit {0}
  RowsAlike i (t ∷ us) = Alike (by_all i t) (by_states i t) × RowsAlike (suc i) us

  places_same :
      (p q : Task × Standing → Bool) → ((t : Task) (x y : Standing) → Alike x y → p (t, x) ≡ q (t, y)) → (k i : ℕ) (us : List Task) →
      RowsAlike i us → places_from k p (rows i us) ≡ places_from k q (rows_told i us)
  places_same p q f k i [] h = refl
  places_same p q f k i (t ∷ us) h =
      λ j. cond (f t (by_all i t) (by_states i t) h.0 j) (k ∷ places_same p q f (suc k) (suc i) us h.1 j) (places_same p q f (suc k) (suc i) us h.1 j)

  rests_same :
      (i : ℕ) (us : List Task) → RowsAlike i us →
      list_all (λ s. is_at_rest s.1) (rows i us) ≡ list_all (λ s. is_at_rest s.1) (rows_told i us)
  rests_same i [] h = refl
  rests_same i (t ∷ us) h = λ j. h.0.rest j && rests_same (suc i) us h.1 j

  readies_same :
      (i : ℕ) (us : List Task) → RowsAlike i us →
      list_any (λ s. is_ready s.1) (rows i us) ≡ list_any (λ s. is_ready s.1) (rows_told i us)
  readies_same i [] h = refl
  readies_same i (t ∷ us) h = λ j. h.0.ready j || readies_same (suc i) us h.1 j

  module _ (h : HasRank d.tasks) (solves : Solves A called place scope d ss) (told : SolvesByStates d states ts) where
    -- each task of these stands higher than those that it waits for
    abbrev Higher : List Task → Type 0
    Higher us = AllByRecursion (λ (t : Task). Each (λ n. h.rank n < h.rank t.call.name) (waits_for t)) us

    higher_of : (us : List Task) → AllByRecursion (λ (t : Task). All (λ n. h.rank n < h.rank t.call.name) (waits_for t)) us → Higher us
    higher_of [] x = tt
    higher_of (t ∷ us) x = (recursion_from_All (λ n. h.rank n < h.rank t.call.name) (waits_for t) x.0, higher_of us x.1)

    higher : Higher d.tasks
    higher = higher_of d.tasks (recursion_from_All (λ (t : Task). All (λ n. h.rank n < h.rank t.call.name) (waits_for t)) d.tasks h.higher)

    tell : Tell 0 d.tasks
    tell = tell_from 0 d.tasks (λ k. (let same : 0 + k ≡ k = omega arith in
        ap (state_of states) same ∙ ap (λ (xs : Standings). state_of (numbered (state_seen A place) 0 xs) k) solves))

    task_alike :
        (r : ℕ) → ((n : List ℕ) → h.rank n < r → Alike (look ss n) (look ts n)) → (i : ℕ) (t : Task) →
        Each (λ n. h.rank n < h.rank t.call.name) (waits_for t) → h.rank t.call.name < suc r →
        state_of states i ≡ seen (A.begun (task_place place i t).sels) (by_all i t) → Alike (by_all i t) (by_states i t)
    task_alike r before i t lower few tells =
        standing_alike A called place scope d states (look ss) (look ts) i t
        (awaited_each (AlikeAt (look ss) (look ts)) d.tasks t
        (each_map (λ n. h.rank n < h.rank t.call.name) (AlikeAt (look ss) (look ts)) (waits_for t)
        (λ n l. before n (omega (arith, l, few))) lower))
        tells

    rows_alike :
        (r : ℕ) → ((n : List ℕ) → h.rank n < r → Alike (look ss n) (look ts n)) → (n : List ℕ) → h.rank n < suc r →
        (i : ℕ) (us : List Task) → Higher us → Tell i us → Alike (look (rows i us) n) (look (rows_told i us) n)
    rows_alike r before n few i [] lower tells = alike_refl waiting
    rows_alike r before n few i (t ∷ us) lower tells =
        found_alike (bytes_eq t.call.name n) (by_all i t) (by_states i t) (rows (suc i) us) (rows_told (suc i) us) n
        (λ e. (let same : t.call.name ≡ n = (bytes_eq-Decides t.call.name n).0 e in
        task_alike r before i t lower.0 (subst (λ (m : List ℕ). h.rank m < suc r) (sym same) few) tells.0))
        (rows_alike r before n few (suc i) us lower.1 tells.1)

    alike_below : (r : ℕ) (n : List ℕ) → h.rank n < r → Alike (look ss n) (look ts n)
    alike_below zero n few = absurd (omega (arith, few))
    alike_below (suc r) n few =
        subst (λ (x : Standing). Alike x (look ts n)) (sym (ap (λ (xs : Standings). look xs n) solves))
        (subst (λ (y : Standing). Alike (look (rows 0 d.tasks) n) y) (sym (ap (λ (xs : Standings). look xs n) told))
        (rows_alike r (alike_below r) n few 0 d.tasks higher tell))

    alike : (n : List ℕ) → Alike (look ss n) (look ts n)
    alike n = alike_below (suc (h.rank n)) n (omega arith)

    all_alike : (i : ℕ) (us : List Task) → Higher us → Tell i us → RowsAlike i us
    all_alike i [] lower tells = tt
    all_alike i (t ∷ us) lower tells =
        (task_alike (h.rank t.call.name) (λ n l. alike n) i t lower.0 (omega arith) tells.0, all_alike (suc i) us lower.1 tells.1)

    each_alike : RowsAlike 0 d.tasks
    each_alike = all_alike 0 d.tasks higher tell

    carried : {X : Type 0} (f g : Standings → X) → f (rows 0 d.tasks) ≡ g (rows_told 0 d.tasks) → f ss ≡ g ts
    carried f g e = ap f solves ∙ e ∙ sym (ap g told)

    denies_same : (t : Task) (o : Option Expression) → denies (look ss) o ≡ denies (look ts) o
    denies_same t None = refl
    denies_same t (Some e) =
        let at = each_all (AlikeAt (look ss) (look ts)) alike (named e) in
        λ i. over_same (look ss) (look ts) (named e) at i && not (truth_same (look ss) (look ts) e at i)

    left_out_same : (t : Task) → is_left_out d ss t ≡ is_left_out d ts t
    left_out_same t = ap (λ (b : Bool). is_meant d t && b) (denies_same t (awaited d.tasks t))

    targets_alike : AlikeLists (targets d ss) (targets d ts)
    targets_alike = existing_alike (look ss) (look ts) alike (target_names d)

    doomed_same : is_doomed d ss ≡ is_doomed d ts
    doomed_same = ap (λ (b : Bool). d.fail_fast && b) (any_failed (targets d ss) (targets d ts) targets_alike)

    over : dag_over d ss ≡ dag_over d ts
    over =
        let rests = carried (list_all (λ s. is_at_rest s.1)) (list_all (λ s. is_at_rest s.1)) (rests_same 0 d.tasks each_alike) in
        let readies = carried (list_any (λ s. is_ready s.1)) (list_any (λ s. is_ready s.1)) (readies_same 0 d.tasks each_alike) in
        λ i. rests i && not (not (doomed_same i) && readies i)

    worst_same : worst_of (map branch_of (targets d ss)) ≡ worst_of (map branch_of (targets d ts))
    worst_same = ap worst_of (branches (targets d ss) (targets d ts) targets_alike)

    exist_same : (step_by d ss).exist ≡ (step_by d ts).exist
    exist_same =
        carried (places_from 0 (λ s. is_existing s.1)) (places_from 0 (λ s. is_existing s.1))
        (places_same (λ s. is_existing s.1) (λ s. is_existing s.1) (λ t x y e. e.existing) 0 0 d.tasks each_alike)

    omit_same : (step_by d ss).omit ≡ (step_by d ts).omit
    omit_same =
        carried (places_from 0 (λ s. is_left_out d ss s.0)) (places_from 0 (λ s. is_left_out d ts s.0))
        (places_same (λ s. is_left_out d ss s.0) (λ s. is_left_out d ts s.0) (λ t x y e. left_out_same t) 0 0 d.tasks each_alike)

    begin_same : (step_by d ss).begin ≡ (step_by d ts).begin
    begin_same =
        carried (places_from 0 (λ s. not (is_doomed d ss) && is_ready s.1)) (places_from 0 (λ s. not (is_doomed d ts) && is_ready s.1))
        (places_same (λ s. not (is_doomed d ss) && is_ready s.1) (λ s. not (is_doomed d ts) && is_ready s.1)
        (λ t x y e i. not (doomed_same i) && e.ready i) 0 0 d.tasks each_alike)

    phase_same : (step_by d ss).phase ≡ (step_by d ts).phase
    phase_same = λ i. cond (over i) (Some (cond (over i) (worst_same i) Running)) None

    same : step_by d ss ≡ step_by d ts
    same = λ i. record { exist = exist_same i; omit = omit_same i; begin = begin_same i; phase = phase_same i }

pub suffice : RoundsSettle → StatesSuffice
suffice settle A called place scope d h =
    let ss : Standings = standings A called place scope d in
    let states : List TaskState = states_seen A place ss in
    sym (same A called place scope d ss (stand d states) h (solve A called place scope d h settle)
    (solve (as_begun states) (as_stated states) nowhere [] d h settle))
