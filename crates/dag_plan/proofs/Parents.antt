-- A task depends on the tasks that it waits for.
use Rattle.std.proofs.Common.{◌≡◌, List, ℕ, [], ◌∷◌, Bool, true, false, ◌||◌, Option, Some, None, refl, sym, ap, ◌∙◌}
use Rattle.depends_expr.specs.Expression.{Expression, failed, errored, bare}
use Rattle.depends_expr.specs.Truth.{named}
use Rattle.wf_manifest.specs.declared.calls.Task.{Task}
use Rattle.wf_manifest.specs.Valid.{names_in, waits_for}
use Rattle.task_order.specs.Orders.{waited_in, waited}
use Rattle.meaning.specs.Steps.{covers_failed, covers_error}
use Rattle.meaning.specs.Dags.{Names, task_named, or_covered, dependency_by, dependency, and_all, all_dependencies, awaited_by, named_by, parents}
use Rattle.dag_plan.proofs.Names.{Same, same_append, once}

again : (a : Bool) → (a || (a || false)) ≡ (a || false)
again true = refl
again false = refl

and_again : (a : Bool) → (a || (a || (a || false))) ≡ (a || false)
and_again true = refl
and_again false = refl

same_covered : (n : List ℕ) (cf ce : Bool) → Same (named (or_covered ce n errored (or_covered cf n failed (bare n)))) (n ∷ [])
same_covered n true true q = and_again (q n)
same_covered n true false q = again (q n)
same_covered n false true q = again (q n)
same_covered n false false q = refl

pub same_dependency : (n : List ℕ) (o : Option Task) → Same (named (dependency_by n o)) (n ∷ [])
same_dependency n None q = refl
same_dependency n (Some t) q = same_covered n (covers_failed t.call.continue_on) (covers_error t.call.continue_on) q

module _ (ts : List Task) where
  same_more : (n : List ℕ) (ns : Names) (o : Option Expression) → Same (named_by o) ns → Same (named_by (and_all (dependency ts n) o)) (n ∷ ns)
  same_more n ns None h q = same_dependency n (task_named ts n) q ∙ ap (λ (b : Bool). q n || b) (h q)
  same_more n ns (Some f) h q = same_append (named (dependency ts n)) (named f) (n ∷ []) ns (same_dependency n (task_named ts n)) h q

  pub same_dependencies : (ns : Names) → Same (named_by (all_dependencies ts ns)) ns
  same_dependencies [] q = refl
  same_dependencies (n ∷ ns) q = same_more n ns (all_dependencies ts ns) (same_dependencies ns) q

  same_awaited : (o : Option Expression) (dependencies : Option Names) → Same (named_by (awaited_by ts o dependencies)) (waited_in o dependencies)
  same_awaited (Some e) dependencies q = sym (once e q)
  same_awaited None (Some ns) q = same_dependencies ns q
  same_awaited None None q = refl

  -- by its expression, and by its own names
  pub same_parents : (t : Task) → Same (parents ts t) (waited t)
  same_parents t = same_awaited t.depends t.dependencies

same_waited : (o : Option Expression) (dependencies : Option Names) → Same (waited_in o dependencies) (names_in o dependencies)
same_waited (Some e) dependencies q = once e q
same_waited None (Some ns) q = refl
same_waited None None q = refl

-- each name once, and with its repeats
pub same_waits : (t : Task) → Same (waited t) (waits_for t)
same_waits t = same_waited t.depends t.dependencies
