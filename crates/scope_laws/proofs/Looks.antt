-- Tasks that stand the same, behind tags with the same values: those that wait for them stand the same, and so does their DAG.
use Rattle.std.proofs.Common.{◌≡◌, ℕ, suc, List, [], ◌∷◌, ◌++◌, Bool, true, false, cond, not, ◌&&◌, ◌||◌, Option, Some, None, refl, sym, ap, ◌∙◌, subst}
use Rattle.std.specs.Prelude.{codes, bytes_eq, map, filter}
use Rattle.std.specs.List.{list_any, list_all}
use Rattle.tree_types.specs.declared.phase.Phase.{Phase}
use Rattle.tree_types.specs.declared.phase.Phase.TheVariants.{Running}
use Rattle.tree_types.specs.declared.node.Kind.TheVariants as kind
use Rattle.tree_types.specs.declared.node.Note.TheVariants as note
use Rattle.tree_types.specs.Phases.{worst_of}
use Rattle.depends_expr.specs.Expression.{Expression}
use Rattle.depends_expr.specs.Truth.{truth, named}
use Rattle.wf_manifest.specs.declared.templates.OutputDecl.{OutputDecl}
use Rattle.wf_manifest.specs.declared.calls.Task.{Task}
use Rattle.wf_manifest.specs.declared.calls.Dag.{Dag}
use Rattle.scopes.specs.Substitution.{Scope, value_in}
use Rattle.scopes.specs.Values.{HasValuesOf}
use Rattle.scopes.proofs.ValueIn.{append_alike, over_alike}
use Rattle.meaning.specs.declared.lines.Place.{Place}
use Rattle.meaning.specs.Answers.{Answers}
use Rattle.meaning.specs.Lines.{numbered, Made, Parts, no_outputs, made, tags_of}
use Rattle.meaning.specs.Outputs.{computed, ended_node}
use Rattle.meaning.specs.Steps.{Caller}
use Rattle.meaning.specs.Dags.{Names, awaited, is_meant, target_names, Standing, waiting, ready, exists, is_over, result_of, branch_of, own_tags, tags_up_to, Look, Standings, look, task_place, tags_before, worst_branch, free_by, free, decided_by, waits_by, meant, meant_by, standing, with_standing, standings_by, is_existing, is_ready, targets, has_failed, is_doomed, is_at_rest, dag_over, dag_phase, task_then, tasks_below, dag_tags, dag_by}
use Rattle.scope_laws.specs.Agreeing.{Agree, StandAlike, LooksAlike, StandingsAlike}
use Rattle.scope_laws.proofs.Dags.{begun_tasks_agree, dag_by_agrees}

-- ---- one task

-- what does not look at the tags before a task is the same
pub alike_by : {X : Type 0} (f : Standing → X) → ((m : Made) (branch : Phase) (seen before : Scope) → f (exists m branch seen) ≡ f (exists m branch before)) → (s u : Standing) → StandAlike s u → f s ≡ f u
alike_by f e waiting waiting h = refl
alike_by f e ready ready h = refl
alike_by f e (exists m branch seen) (exists n other before) h = (λ i. f (exists (h.0 i) (h.1 i) seen)) ∙ e n other seen before
alike_by f e waiting ready h = absurd h
alike_by f e waiting (exists n other before) h = absurd h
alike_by f e ready waiting h = absurd h
alike_by f e ready (exists n other before) h = absurd h
alike_by f e (exists m branch seen) waiting h = absurd h
alike_by f e (exists m branch seen) ready h = absurd h

tags_up_to_alike : (n : List ℕ) (s u : Standing) → StandAlike s u → HasValuesOf (tags_up_to n s) (tags_up_to n u)
tags_up_to_alike n waiting waiting h = λ tag. refl
tags_up_to_alike n ready ready h = λ tag. refl
tags_up_to_alike n (exists m branch seen) (exists k other before) h =
    λ tag. ap (λ (x : Made). value_in (tags_of (codes "tasks." ++ n) x ++ seen) tag) h.0 ∙ append_alike (tags_of (codes "tasks." ++ n) k) seen before h.2 tag
tags_up_to_alike n waiting ready h = absurd h
tags_up_to_alike n waiting (exists k other before) h = absurd h
tags_up_to_alike n ready waiting h = absurd h
tags_up_to_alike n ready (exists k other before) h = absurd h
tags_up_to_alike n (exists m branch seen) waiting h = absurd h
tags_up_to_alike n (exists m branch seen) ready h = absurd h

-- ---- the tasks of some names

module _ (at by : Look) (alike : LooksAlike at by) where
  pub tags_before_alike : (ns : Names) → HasValuesOf (tags_before at ns) (tags_before by ns)
  tags_before_alike [] = λ tag. refl
  tags_before_alike (n ∷ ns) =
      over_alike (tags_up_to n (by n)) (tags_before by ns) (tags_up_to n (at n)) (tags_before at ns) (tags_up_to_alike n (at n) (by n) (alike n)) (tags_before_alike ns)

  pub branches_alike : (ns : Names) → worst_branch at ns ≡ worst_branch by ns
  branches_alike ns = λ i. worst_of (map (λ n. alike_by branch_of (λ m b s u. refl) (at n) (by n) (alike n) i) ns)

  pub overs_alike : (ns : Names) → list_all (λ n. is_over (at n)) ns ≡ list_all (λ n. is_over (by n)) ns
  overs_alike ns = λ i. list_all (λ n. alike_by is_over (λ m b s u. refl) (at n) (by n) (alike n) i) ns

  pub truths_alike : (e : Expression) → truth (λ n. result_of (at n)) e ≡ truth (λ n. result_of (by n)) e
  truths_alike e = λ i. truth (λ n. alike_by result_of (λ m b s u. refl) (at n) (by n) (alike n) i) e

  -- what those of them are that exist
  existing_alike : {X : Type 0} (f : Standing → X) → ((m : Made) (branch : Phase) (seen before : Scope) → f (exists m branch seen) ≡ f (exists m branch before)) → (ns : Names)
      → map f (filter is_existing (map at ns)) ≡ map f (filter is_existing (map by ns))
  existing_alike f e [] = refl
  existing_alike f e (n ∷ ns) =
      more (existing_alike f e ns) (at n) ∙ alike_by (λ s. map f (filter is_existing (s ∷ map by ns))) (λ m b s u i. e m b s u i ∷ map f (filter is_existing (map by ns))) (at n) (by n) (alike n)
    where
      more : map f (filter is_existing (map at ns)) ≡ map f (filter is_existing (map by ns)) → (s : Standing) → map f (filter is_existing (s ∷ map at ns)) ≡ map f (filter is_existing (s ∷ map by ns))
      more rest waiting = rest
      more rest ready = rest
      more rest (exists m b s) = λ i. f (exists m b s) ∷ rest i

-- ---- a task that waits for them

module _ (A : Answers) (called other : Caller) (agree : Agree called other) (place : Place) (scope around : Scope) (same : HasValuesOf scope around) (d : Dag) where
  free_by_alike : (seen before : Scope) (i : ℕ) (t : Task) (b : Bool) → HasValuesOf seen before → StandAlike (free_by A called place scope d seen i t b) (free_by A other place around d before i t b)
  free_by_alike seen before i t false like = tt
  free_by_alike seen before i t true like = begun_tasks_agree A called other place scope around d seen before i t agree same like

  free_alike : (seen before : Scope) (i : ℕ) (t : Task) → HasValuesOf seen before → StandAlike (free A called place scope d seen i t) (free A other place around d before i t)
  free_alike seen before i t like = free_by_alike seen before i t (not d.fail_fast || A.begun (task_place place i t).sels) like

  module _ (at by : Look) (alike : LooksAlike at by) where
    decided_alike : (i : ℕ) (t : Task) (e : Expression) (b : Bool) → StandAlike (decided_by A called place scope d at i t e b) (decided_by A other place around d by i t e b)
    decided_alike i t e false = (refl, branches_alike at by alike (named e), tags_before_alike at by alike (named e))
    decided_alike i t e true = free_alike (tags_before at (named e)) (tags_before by (named e)) i t (tags_before_alike at by alike (named e))

    waits_alike : (i : ℕ) (t : Task) (e : Expression) (b : Bool) → StandAlike (waits_by A called place scope d at i t e b) (waits_by A other place around d by i t e b)
    waits_alike i t e false = tt
    waits_alike i t e true =
        let holds : Bool = truth (λ n. result_of (at n)) e in
        subst (λ (b : Bool). StandAlike (decided_by A called place scope d at i t e holds) (decided_by A other place around d by i t e b)) (truths_alike at by alike e) (decided_alike i t e holds)

    meant_alike : (i : ℕ) (t : Task) (e : Option Expression) → StandAlike (meant A called place scope d at i t e) (meant A other place around d by i t e)
    meant_alike i t None = free_alike [] [] i t (λ tag. refl)
    meant_alike i t (Some e) =
        let over : Bool = list_all (λ n. is_over (at n)) (named e) in
        subst (λ (b : Bool). StandAlike (waits_by A called place scope d at i t e over) (waits_by A other place around d by i t e b)) (overs_alike at by alike (named e)) (waits_alike i t e over)

    meant_by_alike : (i : ℕ) (t : Task) (b : Bool) → StandAlike (meant_by A called place scope d at i t b) (meant_by A other place around d by i t b)
    meant_by_alike i t false = tt
    meant_by_alike i t true = meant_alike i t (awaited d.tasks t)

    pub standing_alike : (i : ℕ) (t : Task) → StandAlike (standing A called place scope d at i t) (standing A other place around d by i t)
    standing_alike i t = meant_by_alike i t (is_meant d t)

    tasks_alike : (i : ℕ) (ts : List Task) → StandingsAlike (numbered (with_standing A called place scope d at) i ts) (numbered (with_standing A other place around d by) i ts)
    tasks_alike i [] = tt
    tasks_alike i (t ∷ ts) = (refl, standing_alike i t, tasks_alike (suc i) ts)

    pub standings_by_alike : StandingsAlike (standings_by A called place scope d at) (standings_by A other place around d by)
    standings_by_alike = tasks_alike 0 d.tasks

-- ---- the DAG's node

pub looks_alike : (ss us : Standings) → StandingsAlike ss us → LooksAlike (look ss) (look us)
looks_alike [] [] h n = tt
looks_alike [] (u ∷ us) h n = absurd h
looks_alike (s ∷ ss) [] h n = absurd h
looks_alike (s ∷ ss) (u ∷ us) h n =
    subst (λ (t : Task). StandAlike (look (s ∷ ss) n) (cond (bytes_eq t.call.name n) u.1 (look us n))) h.0 (picked (looks_alike ss us h.2 n) (bytes_eq s.0.call.name n))
  where
    picked : StandAlike (look ss n) (look us n) → (b : Bool) → StandAlike (cond b s.1 (look ss n)) (cond b u.1 (look us n))
    picked rest true = h.1
    picked rest false = rest

any_mapped : {X : Type 0} (f : X → Bool) (xs : List X) → list_any f xs ≡ list_any (λ b. b) (map f xs)
any_mapped f [] = refl
any_mapped f (x ∷ xs) = ap (λ (b : Bool). f x || b) (any_mapped f xs)

rests_alike : (ss us : Standings) → StandingsAlike ss us → list_all (λ s. is_at_rest s.1) ss ≡ list_all (λ s. is_at_rest s.1) us
rests_alike [] [] h = refl
rests_alike [] (u ∷ us) h = absurd h
rests_alike (s ∷ ss) [] h = absurd h
rests_alike (s ∷ ss) (u ∷ us) h = λ i. alike_by is_at_rest (λ m b s u. refl) s.1 u.1 h.1 i && rests_alike ss us h.2 i

readies_alike : (ss us : Standings) → StandingsAlike ss us → list_any (λ s. is_ready s.1) ss ≡ list_any (λ s. is_ready s.1) us
readies_alike [] [] h = refl
readies_alike [] (u ∷ us) h = absurd h
readies_alike (s ∷ ss) [] h = absurd h
readies_alike (s ∷ ss) (u ∷ us) h = λ i. alike_by is_ready (λ m b s u. refl) s.1 u.1 h.1 i || readies_alike ss us h.2 i

-- the tags of the tasks are the same lists: each task's own are those of what it made
pub dag_tags_alike : (ss us : Standings) → StandingsAlike ss us → dag_tags ss ≡ dag_tags us
dag_tags_alike [] [] h = refl
dag_tags_alike [] (u ∷ us) h = absurd h
dag_tags_alike (s ∷ ss) [] h = absurd h
dag_tags_alike (s ∷ ss) (u ∷ us) h =
    let own = ap (λ (t : Task). own_tags t.call.name s.1) h.0 ∙ alike_by (own_tags u.0.call.name) (λ m b s u. refl) s.1 u.1 h.1 in
    λ i. own i ++ dag_tags_alike ss us h.2 i

pub tasks_below_alike : (doomed : Bool) (place : Place) (i : ℕ) (ss us : Standings) → StandingsAlike ss us → tasks_below doomed place i ss ≡ tasks_below doomed place i us
tasks_below_alike doomed place i [] [] h = refl
tasks_below_alike doomed place i [] (u ∷ us) h = absurd h
tasks_below_alike doomed place i (s ∷ ss) [] h = absurd h
tasks_below_alike doomed place i (s ∷ ss) (u ∷ us) h =
    (λ j. task_then doomed (task_place place i (h.0 j)) s.1 (tasks_below_alike doomed place (suc i) ss us h.2 j))
    ∙ alike_by (λ x. task_then doomed (task_place place i u.0) x (tasks_below doomed place (suc i) us)) (λ m b s u. refl) s.1 u.1 h.1

module _ (d : Dag) (ss us : Standings) (alike : StandingsAlike ss us) where
  pub doomed_alike : is_doomed d ss ≡ is_doomed d us
  doomed_alike =
      ap (λ (b : Bool). d.fail_fast && b) (any_mapped has_failed (targets d ss) ∙ ap (list_any (λ b. b)) (existing_alike (look ss) (look us) (looks_alike ss us alike) has_failed (λ m b s u. refl) (target_names d)) ∙ sym (any_mapped has_failed (targets d us)))

  pub dag_over_alike : dag_over d ss ≡ dag_over d us
  dag_over_alike = λ i. rests_alike ss us alike i && not (not (doomed_alike i) && readies_alike ss us alike i)

  pub phase_alike : dag_phase d ss ≡ dag_phase d us
  phase_alike =
      λ i. cond (dag_over_alike i) (worst_of (existing_alike (look ss) (look us) (looks_alike ss us alike) branch_of (λ m b s u. refl) (target_names d) i)) Running

  -- with what is around the DAG
  pub dag_by_alike : (place : Place) (scope around : Scope) (declared : List OutputDecl) → HasValuesOf scope around → dag_by place scope declared d ss ≡ dag_by place around declared d us
  dag_by_alike place scope around declared same =
      dag_by_agrees place scope around declared d ss same
      ∙ (λ i. made (ended_node place kind.DAG (phase_alike i) note.None no_outputs (computed (dag_tags_alike ss us alike i ++ around) declared)) [] (tasks_below (doomed_alike i) place 0 ss))
      ∙ ap (λ (below : Parts). made (ended_node place kind.DAG (dag_phase d us) note.None no_outputs (computed (dag_tags us ++ around) declared)) [] below) (tasks_below_alike (is_doomed d us) place 0 ss us alike)
