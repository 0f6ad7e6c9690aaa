-- Each task is seen as it stands.
use Rattle.std.proofs.Common.{◌≡◌, ℕ, List, [], ◌∷◌, map, Bool, true, false, cond, not, ◌&&◌, ◌||◌, refl, ap, sym, ◌∙◌, subst}
use Rattle.std.specs.Prelude.{Option, Some, None, bytes_eq, if◌then◌else◌}
use Rattle.std.specs.List.{list_all}
use Rattle.tree_types.specs.declared.phase.Phase.{Phase}
use Rattle.tree_types.specs.Phases.{worst_of}
use Rattle.depends_expr.specs.declared.results.TaskResult.{TaskResult}
use Rattle.depends_expr.specs.Expression.{Expression, bare, both, failed, errored}
use Rattle.depends_expr.specs.Truth.{bare_holds, truth, named, names_of}
use Rattle.wf_manifest.specs.declared.calls.ContinueOn.{ContinueOn}
use Rattle.wf_manifest.specs.declared.calls.Task.{Task}
use Rattle.wf_manifest.specs.declared.calls.Dag.{Dag}
use Rattle.scopes.specs.Substitution.{Scope}
use Rattle.meaning.specs.declared.lines.Place.{Place}
use Rattle.meaning.specs.Answers.{Answers}
use Rattle.meaning.specs.Steps.{Caller, covers_failed, covers_error}
use Rattle.meaning.specs.Dags.{Names, task_named, or_covered, dependency_by, dependency, and_all, all_dependencies, awaited_by, named_by, parents, is_meant, Standing, is_over, result_of, branch_of, worst_branch, tags_before, Look, free_by, decided_by, waits_by, meant, meant_by}
use Rattle.dag_template.specs.declared.states.TaskState.{TaskState}
use Rattle.dag_template.specs.declared.stands.Stand.{Stand}
use Rattle.dag_template.specs.declared.judging.Verdict.{Verdict}
use Rattle.dag_template.specs.declared.judging.Verdict.TheVariants.{Waits, Holds, Denied}
use Rattle.dag_template.specs.States.{state_of, nowhere, as_stated, as_begun}
use Rattle.dag_template.specs.Stands.{sight, Sight, verdict_by, covers, covers_of, is_met, are_met, verdict_listed, verdict_waiting, verdict, freed, stand_by, stand_if, SeenAsItStands}
use Rattle.dag_template.specs.Verdicts.{stands_as, stands_if, stands_by, StandsByVerdict}
use Rattle.dag_plan.proofs.Parents.{same_dependency}
use Rattle.dag_plan.proofs.Names.{Same, same_append, once, same_all, same_worst}

-- ---- dependencies

abbrev covers_found : Option Task → ContinueOn
covers_found None = covers None
covers_found (Some t) = covers t.call.continue_on

covers_named : (ts : List Task) (n : List ℕ) → covers_of ts n ≡ covers_found (task_named ts n)
covers_named [] n = refl
covers_named (t ∷ ts) n = go (bytes_eq t.call.name n) (covers_named ts n)
  where
    go :
        (b : Bool) → covers_of ts n ≡ covers_found (task_named ts n) →
        cond b (covers t.call.continue_on) (covers_of ts n) ≡ covers_found (cond b (Some t) (task_named ts n))
    go true e = refl
    go false e = e

or_false : (a : Bool) → (a || false) ≡ a
or_false true = refl
or_false false = refl

module _ (res : List ℕ → TaskResult) (n : List ℕ) where
  bare_is : bare_holds (res n) ≡ ((res n).succeeded || (res n).skipped)
  bare_is = or_false ((res n).succeeded || (res n).skipped)

  covered_true :
      (cf ce : Bool) →
      truth res (or_covered ce n errored (or_covered cf n failed (bare n)))
      ≡ ((((res n).succeeded || (res n).skipped) || (cf && (res n).failed)) || (ce && (res n).errored))
  covered_true true true = ap (λ (b : Bool). (b || (res n).failed) || (res n).errored) bare_is
  covered_true true false = ap (λ (b : Bool). b || (res n).failed) bare_is ∙ sym (or_false _)
  covered_true false true = ap (λ (b : Bool). b || (res n).errored) (bare_is ∙ sym (or_false _))
  covered_true false false = bare_is ∙ sym (or_false _) ∙ sym (or_false _)

  dependency_true_by : (o : Option Task) → truth res (dependency_by n o) ≡ is_met (covers_found o) (res n)
  dependency_true_by None = covered_true false false
  dependency_true_by (Some t) = covered_true (covers_failed t.call.continue_on) (covers_error t.call.continue_on)

  dependency_true : (ts : List Task) → truth res (dependency ts n) ≡ is_met (covers_of ts n) (res n)
  dependency_true ts =
      dependency_true_by (task_named ts n) ∙ ap (λ (on : ContinueOn). is_met on (res n)) (sym (covers_named ts n))

-- what is awaited says what these dependencies say
record Says (ts : List Task) (res : List ℕ → TaskResult) (ns : Names) (e : Expression) : Type 0 where
  names : Same (named e) ns
  true_is : truth res e ≡ list_all (λ n. is_met (covers_of ts n) (res n)) ns

and_true : (a : Bool) → a ≡ (a && true)
and_true true = refl
and_true false = refl

module _ (ts : List Task) (res : List ℕ → TaskResult) where
  says_more :
      (n : List ℕ) (ns : Names) (o : Option Expression) → all_dependencies ts ns ≡ o →
      ((f : Expression) → o ≡ Some f → Says ts res ns f) → (o ≡ None → ns ≡ []) → (e : Expression) →
      and_all (dependency ts n) o ≡ Some e → Says ts res (n ∷ ns) e
  says_more n ns None is later none e i =
      let same : dependency ts n ≡ e = cc i in
      subst (λ (x : Expression). Says ts res (n ∷ ns) x) same
      (subst (λ (ms : Names). Says ts res (n ∷ ms) (dependency ts n)) (sym (none refl))
      (record {
        names = same_dependency n (task_named ts n);
        true_is = dependency_true res n ts ∙ and_true (is_met (covers_of ts n) (res n));
      }))
  says_more n ns (Some f) is later none e i =
      let same : both (dependency ts n) f ≡ e = cc i in
      let rest = later f refl in
      subst (λ (x : Expression). Says ts res (n ∷ ns) x) same
      (record {
        names = same_append (named (dependency ts n)) (named f) (n ∷ []) ns (same_dependency n (task_named ts n)) rest.names;
        true_is =
            ap (λ (b : Bool). b && truth res f) (dependency_true res n ts)
            ∙ ap (λ (b : Bool). is_met (covers_of ts n) (res n) && b) rest.true_is;
      })

  none_awaited : (ns : Names) → all_dependencies ts ns ≡ None → ns ≡ []
  none_awaited [] e = refl
  none_awaited (n ∷ ns) e = go (all_dependencies ts ns) e
    where
      go : (o : Option Expression) → and_all (dependency ts n) o ≡ None → (n ∷ ns) ≡ []
      go None i = absurd (cc i)
      go (Some f) i = absurd (cc i)

  says : (ns : Names) (e : Expression) → all_dependencies ts ns ≡ Some e → Says ts res ns e
  says [] e i = absurd (cc i)
  says (n ∷ ns) e i = says_more n ns (all_dependencies ts ns) refl (λ f j. says ns f j) (none_awaited ns) e i

-- ---- one task

met_found :
    (ts : List Task) (of : Sight) (ns : Names) →
    are_met ts ns (map of ns) ≡ list_all (λ n. is_met (covers_of ts n) (of n).result) ns
met_found ts of [] = refl
met_found ts of (n ∷ ns) = ap (λ (b : Bool). is_met (covers_of ts n) (of n).result && b) (met_found ts of ns)

over_found : (of : Sight) (ns : Names) → list_all (λ (s : Stand). s.over) (map of ns) ≡ list_all (λ n. (of n).over) ns
over_found of [] = refl
over_found of (n ∷ ns) = ap (λ (b : Bool). (of n).over && b) (over_found of ns)

branches_found : (of : Sight) (ns : Names) → map (λ (s : Stand). s.branch) (map of ns) ≡ map (λ n. (of n).branch) ns
branches_found of [] = refl
branches_found of (n ∷ ns) = ap (λ (ps : List Phase). (of n).branch ∷ ps) (branches_found of ns)

-- ---- any task, by its verdict

module _ (A : Answers) (called : Caller) (place : Place) (scope : Scope) (d : Dag) (at : Look) (i : ℕ) (t : Task) where
  abbrev of : Sight
  of n = sight (at n)

  -- how it stands by a verdict, where it depends on the tasks of these names
  abbrev by : Names → Verdict → Standing
  by ns v = stands_as A called place scope d (tags_before at ns) i t v

  decided_by_verdict :
      (e : Expression) (h : Bool) →
      decided_by A called place scope d at i t e h
      ≡ by (named e) (if h then Holds else Denied (worst_branch at (named e)))
  decided_by_verdict e true = refl
  decided_by_verdict e false = refl

  waits_by_verdict :
      (e : Expression) (over : Bool) →
      waits_by A called place scope d at i t e over
      ≡ by (named e) (if over then (if truth (λ n. result_of (at n)) e then Holds else Denied (worst_branch at (named e))) else Waits)
  waits_by_verdict e true = decided_by_verdict e (truth (λ n. result_of (at n)) e)
  waits_by_verdict e false = refl

  -- by names that are the same, and a truth that is
  awaited_by_verdict :
      (e : Expression) (ns : Names) (holds : Bool) → Same (named e) ns → truth (λ n. result_of (at n)) e ≡ holds →
      meant A called place scope d at i t (Some e) ≡ by (named e) (verdict_by (map of ns) holds)
  awaited_by_verdict e ns holds same true_is =
      let over : list_all (λ n. is_over (at n)) (named e) ≡ list_all (λ (s : Stand). s.over) (map of ns) =
      same_all (named e) ns same (λ n. is_over (at n)) ∙ sym (over_found of ns) in
      let worst_is : worst_branch at (named e) ≡ worst_of (map (λ (s : Stand). s.branch) (map of ns)) =
      same_worst (named e) ns same (λ n. branch_of (at n)) ∙ sym (ap worst_of (branches_found of ns)) in
      waits_by_verdict e (list_all (λ n. is_over (at n)) (named e))
      ∙ (λ j. by (named e) (if over j then (if true_is j then Holds else Denied (worst_is j)) else Waits))

  listed_by_verdict :
      (ns : Names) (o : Option Expression) → all_dependencies d.tasks ns ≡ o →
      meant A called place scope d at i t o ≡ by (named_by o) (verdict_listed d.tasks of ns)
  listed_by_verdict ns None e =
      ap (λ (ms : Names). by [] (verdict_listed d.tasks of ms)) (sym (none_awaited d.tasks (λ n. result_of (at n)) ns e))
  listed_by_verdict ns (Some w) e =
      let said = says d.tasks (λ n. result_of (at n)) ns w e in
      awaited_by_verdict w ns (are_met d.tasks ns (map of ns)) said.names (said.true_is ∙ sym (met_found d.tasks of ns))

  waiting_by_verdict :
      (o : Option Expression) (dependencies : Option Names) →
      meant A called place scope d at i t (awaited_by d.tasks o dependencies)
      ≡ by (named_by (awaited_by d.tasks o dependencies)) (verdict_waiting d.tasks of o dependencies)
  waiting_by_verdict (Some e) dependencies =
      awaited_by_verdict e (names_of e) (truth (λ n. result_of (at n)) e) (λ q. sym (once e q)) refl
  waiting_by_verdict None (Some ns) = listed_by_verdict ns (all_dependencies d.tasks ns) refl
  waiting_by_verdict None None = refl

  if_by_verdict :
      (b : Bool) →
      meant_by A called place scope d at i t b
      ≡ stands_by A called place scope d at i t b (verdict d.tasks of t)
  if_by_verdict true = waiting_by_verdict t.depends t.dependencies
  if_by_verdict false = refl

pub by_verdict : StandsByVerdict
by_verdict A called place scope d at i t = if_by_verdict A called place scope d at i t (is_meant d t)

-- ---- a task whose state is known

module _ (d : Dag) (states : List TaskState) (i : ℕ) (t : Task) where
  freed_by : (tags : Scope) (b : Bool) → sight (free_by (as_begun states) (as_stated states) nowhere [] d tags i t b) ≡ freed t.call.continue_on (state_of states i) b
  freed_by tags true = refl
  freed_by tags false = refl

  stands_seen :
      (tags : Scope) (v : Verdict) →
      sight (stands_as (as_begun states) (as_stated states) nowhere [] d tags i t v)
      ≡ stand_by d.fail_fast t.call.continue_on (state_of states i) v
  stands_seen tags Waits = refl
  stands_seen tags Holds = freed_by tags (not d.fail_fast || (state_of states i).begun)
  stands_seen tags (Denied branch) = refl

  seen_if :
      (of : Sight) (tags : Scope) (b : Bool) →
      sight (stands_if (as_begun states) (as_stated states) nowhere [] d tags i t b (verdict d.tasks of t))
      ≡ stand_if d of t (state_of states i) b
  seen_if how tags true = stands_seen tags (verdict d.tasks how t)
  seen_if how tags false = refl

pub seen_as_it_stands : SeenAsItStands
seen_as_it_stands d states at i t =
    ap sight (by_verdict (as_begun states) (as_stated states) nowhere [] d at i t)
    ∙ seen_if d states i t (λ n. sight (at n)) (tags_before at (parents d.tasks t)) (is_meant d t)
