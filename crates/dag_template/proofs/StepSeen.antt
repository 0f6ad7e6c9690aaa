-- What follows the tasks as they are seen is what follows.
use Rattle.std.proofs.Common.{◌≡◌, ℕ, suc, List, [], ◌∷◌, map, Bool, true, false, cond, not, ◌&&◌, ◌||◌, Option, Some, None, refl, ap, sym, ◌∙◌}
use Rattle.std.specs.Prelude.{filter, if◌then◌else◌}
use Rattle.std.specs.List.{list_any, list_all}
use Rattle.tree_types.specs.declared.phase.Phase.{Phase}
use Rattle.tree_types.specs.declared.phase.Phase.TheVariants.{Running}
use Rattle.tree_types.specs.Phases.{worst, worst_of}
use Rattle.depends_expr.specs.Expression.{Expression}
use Rattle.depends_expr.specs.Truth.{truth, named}
use Rattle.wf_manifest.specs.declared.calls.Task.{Task}
use Rattle.wf_manifest.specs.declared.calls.Dag.{Dag}
use Rattle.wf_manifest.specs.Valid.{HasRank}
use Rattle.scopes.specs.Substitution.{Scope}
use Rattle.meaning.specs.Dags as dags
use Rattle.meaning.specs.Dags.{Names, Standing, waiting, ready, exists, is_over, result_of, branch_of, is_existing, is_ready, is_bad, awaited, is_meant, target_names, targets, tags_before, free_by, free, decided_by, waits_by, meant, meant_by, dag_over, dag_phase, look, Standings}
use Rattle.growth.specs.Rounds.{RoundsSettle}
use Rattle.dag_template.specs.declared.states.TaskState.{TaskState}
use Rattle.dag_template.specs.declared.stands.Stand.{Stand}
use Rattle.dag_template.specs.declared.next.Asked.TheVariants.{Existing, Denied, Ready}
use Rattle.dag_template.specs.States.{nowhere, as_stated, as_begun}
use Rattle.dag_template.specs.Step.{places_from, denies, is_left_out, stand, step}
use Rattle.dag_template.specs.Stands.{is_denied, sight, stand_of}
use Rattle.dag_template.specs.Order.{sights}
use Rattle.dag_template.specs.Following.{places_seen, has_failed, is_at_rest, worst_target, is_doomed, is_over as seen_over, step_seen}
use Rattle.dag_template.proofs.Solving.{solve}
use Rattle.dag_template.proofs.Ordered.{by_states, rows, seen_rows, told_is, told_looked}

-- ---- targets

pub failed_seen :
    (xs : List Standing) → list_any has_failed (map sight xs) ≡ list_any dags.has_failed (filter is_existing xs)
failed_seen [] = refl
failed_seen (x ∷ xs) = go (is_existing x) (failed_seen xs)
  where
    go :
        (b : Bool) → list_any has_failed (map sight xs) ≡ list_any dags.has_failed (filter is_existing xs) →
        ((b && (is_over x && is_bad (branch_of x))) || list_any has_failed (map sight xs))
        ≡ list_any dags.has_failed (cond b (x ∷ filter is_existing xs) (filter is_existing xs))
    go true e = ap (λ (c : Bool). (is_over x && is_bad (branch_of x)) || c) e
    go false e = e

pub worst_seen : (xs : List Standing) → worst_target (map sight xs) ≡ worst_of (map branch_of (filter is_existing xs))
worst_seen [] = refl
worst_seen (x ∷ xs) = go (is_existing x) (worst_seen xs)
  where
    go :
        (b : Bool) → worst_target (map sight xs) ≡ worst_of (map branch_of (filter is_existing xs)) →
        cond b (worst (branch_of x) (worst_target (map sight xs))) (worst_target (map sight xs))
        ≡ worst_of (map branch_of (cond b (x ∷ filter is_existing xs) (filter is_existing xs)))
    go true e = ap (worst (branch_of x)) e
    go false e = e

-- ---- all tasks

pub rest_seen : (x : Standing) → is_at_rest (sight x) ≡ dags.is_at_rest x
rest_seen waiting = refl
rest_seen ready = refl
rest_seen (exists m branch tags) = refl

pub rests_seen : (xs : Standings) → list_all is_at_rest (map (λ s. sight s.1) xs) ≡ list_all (λ s. dags.is_at_rest s.1) xs
rests_seen [] = refl
rests_seen (x ∷ xs) = λ i. rest_seen x.1 i && rests_seen xs i

pub readies_seen : (xs : Standings) → list_any (λ (s : Stand). s.ready) (map (λ s. sight s.1) xs) ≡ list_any (λ s. is_ready s.1) xs
readies_seen [] = refl
readies_seen (x ∷ xs) = ap (λ (b : Bool). is_ready x.1 || b) (readies_seen xs)

existing_seen : (k : ℕ) (xs : Standings) → places_seen k Existing (map (λ s. sight s.1) xs) ≡ places_from k (λ s. is_existing s.1) xs
existing_seen k [] = refl
existing_seen k (x ∷ xs) = λ i. cond (is_existing x.1) (k ∷ existing_seen (suc k) xs i) (existing_seen (suc k) xs i)

ready_seen : (k : ℕ) (xs : Standings) → places_seen k Ready (map (λ s. sight s.1) xs) ≡ places_from k (λ s. is_ready s.1) xs
ready_seen k [] = refl
ready_seen k (x ∷ xs) = λ i. cond (is_ready x.1) (k ∷ ready_seen (suc k) xs i) (ready_seen (suc k) xs i)

no_places : (k : ℕ) (xs : Standings) → places_from k (λ s. false) xs ≡ []
no_places k [] = refl
no_places k (x ∷ xs) = no_places (suc k) xs

begins : (doomed : Bool) (xs : Standings) →
    (if doomed then [] else places_seen 0 Ready (map (λ s. sight s.1) xs)) ≡ places_from 0 (λ s. not doomed && is_ready s.1) xs
begins true xs = sym (no_places 0 xs)
begins false xs = ready_seen 0 xs

told_once : (over : Bool) (p : Phase) → (if over then Some p else None) ≡ (if over then Some (if over then p else Running) else None)
told_once true p = refl
told_once false p = refl

module _ (d : Dag) (states : List TaskState) where
  abbrev ss : Standings
  ss = stand d states

  -- ---- Omitted tasks

  module _ (i : ℕ) (t : Task) where
    free_not : (tags : Scope) (b : Bool) → is_denied (free_by (as_begun states) (as_stated states) nowhere [] d tags i t b) ≡ false
    free_not tags true = refl
    free_not tags false = refl

    decided_denied :
        (e : Expression) (h : Bool) → is_denied (decided_by (as_begun states) (as_stated states) nowhere [] d (look ss) i t e h) ≡ not h
    decided_denied e true = free_not (tags_before (look ss) (named e)) (not d.fail_fast || (as_begun states).begun (dags.task_place nowhere i t).sels)
    decided_denied e false = refl

    waits_denied :
        (e : Expression) (over : Bool) →
        is_denied (waits_by (as_begun states) (as_stated states) nowhere [] d (look ss) i t e over)
        ≡ (over && not (truth (λ n. result_of (look ss n)) e))
    waits_denied e true = decided_denied e (truth (λ n. result_of (look ss n)) e)
    waits_denied e false = refl

    meant_denied :
        (o : Option Expression) →
        is_denied (meant (as_begun states) (as_stated states) nowhere [] d (look ss) i t o) ≡ denies (look ss) o
    meant_denied None = free_not [] (not d.fail_fast || (as_begun states).begun (dags.task_place nowhere i t).sels)
    meant_denied (Some e) = waits_denied e (list_all (λ n. is_over (look ss n)) (named e))

    denied_by :
        (b : Bool) →
        is_denied (meant_by (as_begun states) (as_stated states) nowhere [] d (look ss) i t b)
        ≡ (b && denies (look ss) (awaited d.tasks t))
    denied_by true = meant_denied (awaited d.tasks t)
    denied_by false = refl

    denied : is_denied (by_states d states i t) ≡ is_left_out d ss t
    denied = denied_by (is_meant d t)

  denied_seen :
      (k i : ℕ) (us : List Task) →
      places_seen k Denied (seen_rows d states i us) ≡ places_from k (λ s. is_left_out d ss s.0) (rows d states i us)
  denied_seen k i [] = refl
  denied_seen k i (t ∷ us) =
      λ j. cond (denied i t j) (k ∷ denied_seen (suc k) (suc i) us j) (denied_seen (suc k) (suc i) us j)

  module _ (settle : RoundsSettle) (h : HasRank d.tasks) where
    denied_told : places_seen 0 Denied (sights d states) ≡ places_from 0 (λ s. is_left_out d ss s.0) ss
    denied_told =
        ap (places_seen 0 Denied) (told_is d states settle h) ∙ denied_seen 0 0 d.tasks
        ∙ sym (ap (places_from 0 (λ s. is_left_out d ss s.0)) (solve (as_begun states) (as_stated states) nowhere [] d h settle))

    targets_seen : (ns : Names) → map (stand_of d.tasks (sights d states)) ns ≡ map sight (map (look ss) ns)
    targets_seen [] = refl
    targets_seen (n ∷ ns) = λ i. told_looked d states settle h n i ∷ targets_seen ns i

    pub step_told : step_seen d.fail_fast (sights d states) (map (stand_of d.tasks (sights d states)) (target_names d)) ≡ step d states
    step_told =
        let xs : List Standing = map (look ss) (target_names d) in
        let found = targets_seen (target_names d) in
        let doomed : is_doomed d.fail_fast (map sight xs) ≡ dags.is_doomed d ss = ap (λ (b : Bool). d.fail_fast && b) (failed_seen xs) in
        let over : seen_over (is_doomed d.fail_fast (map sight xs)) (sights d states) ≡ dag_over d ss =
        λ i. rests_seen ss i && not (not (doomed i) && readies_seen ss i) in
        let phase : (if seen_over (is_doomed d.fail_fast (map sight xs)) (sights d states) then Some (worst_target (map sight xs)) else None)
        ≡ (if dag_over d ss then Some (dag_phase d ss) else None) =
        (λ i. if over i then Some (worst_seen xs i) else None) ∙ told_once (dag_over d ss) (worst_of (map branch_of (targets d ss))) in
        let begin : (if is_doomed d.fail_fast (map sight xs) then [] else places_seen 0 Ready (sights d states))
        ≡ places_from 0 (λ s. not (dags.is_doomed d ss) && is_ready s.1) ss =
        ap (λ (b : Bool). if b then [] else places_seen 0 Ready (sights d states)) doomed ∙ begins (dags.is_doomed d ss) ss in
        ap (step_seen d.fail_fast (sights d states)) found
        ∙ (λ i. record { exist = existing_seen 0 ss i; omit = denied_told i; begin = begin i; phase = phase i })
