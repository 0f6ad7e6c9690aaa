-- A DAG over its tasks.
use Rattle.std.proofs.Common.{◌≡◌, ℕ, zero, suc, ◌+◌, ◌<◌, ◌≤◌, ◌^◌, List, [], ◌∷◌, length, Some, Ok, Err, refl, ap, subst, arith}
use Rattle.std.specs.Prelude.{slice_get, IsTrue, All}
use Rattle.std.proofs.lemmas.Bool.{leb-true}
use Rattle.std.proofs.lemmas.List.Elements.{All-head, All-tail}
use Rattle.base_types.specs.Limits.{most_members}
use Rattle.node_names.specs.Names.{is_step_name}
use Rattle.wf_manifest.specs.declared.calls.Task.{Task}
use Rattle.wf_manifest.specs.declared.calls.Dag.{Dag}
use Rattle.wf_manifest.specs.declared.templates.OutputDecl.{OutputDecl}
use Rattle.scopes.specs.Substitution.{Scope}
use Rattle.meaning.specs.declared.lines.Place.{Place}
use Rattle.meaning.specs.Answers.{Answers}
use Rattle.meaning.specs.Lines.{Made, numbered}
use Rattle.meaning.specs.Steps.{Caller}
use Rattle.meaning.specs.Dags.{Standings, standings, rounds, look, with_standing, is_doomed, dag_made}
use Rattle.tree_state.specs.declared.refused.TreeRefused.{TreeRefused}
use Rattle.tree_state.specs.declared.refused.TreeRefused.TheVariants.{TooLarge, Memory}
use Rattle.tree_state.specs.Counting.{count, Gives}
use Rattle.dag_plan.specs.declared.plan.DagPlan.{DagPlan}
use Rattle.dag_plan.specs.Plans.{IsPlan}
use Rattle.dag_board.specs.declared.board.Board.{Board}
use Rattle.dag_board.specs.Ends.{Makes}
use Rattle.tree_walk.specs.Walkable.{IsNamed, IsWalkableDag}
use Rattle.tree_walk.specs.Tasks.{count_at, GivesBoard}
use Rattle.tree_walk.proofs.Sums.{counted_in_order}

pub named_at : (ts : List Task) → All (λ t. IsNamed t.call) ts → (i : ℕ) (t : Task) → slice_get ts i ≡ Some t → IsTrue (is_step_name t.call.name)
named_at [] all i t is = absurd (cc)
named_at (u ∷ ts) all zero t is = let same : u ≡ t = cc in subst (λ (x : Task). IsTrue (is_step_name x.call.name)) same (All-head (λ t. IsNamed t.call) u ts all)
named_at (u ∷ ts) all (suc i) t is = named_at ts (All-tail (λ t. IsNamed t.call) u ts all) i t is

pub few_tasks : (d : Dag) → IsWalkableDag d → length d.tasks < 2 ^ 32
few_tasks d w = let short : length d.tasks ≤ most_members = leb-true (length d.tasks) most_members w.short in omega (arith, short)

-- as many standings as tasks, at the most
long_numbered : {X Y : Type 0} (f : ℕ → X → Y) (i : ℕ) (xs : List X) → length (numbered f i xs) ≡ length xs
long_numbered f i [] = refl
long_numbered f i (x ∷ xs) = ap suc (long_numbered f (suc i) xs)

module _ (A : Answers) (called : Caller) (place : Place) (scope : Scope) (d : Dag) where
  long_rounds : (n : ℕ) → length (rounds A called place scope d n) ≤ length d.tasks
  long_rounds zero = omega arith
  long_rounds (suc n) = omega (arith, long_numbered (with_standing A called place scope d (look (rounds A called place scope d n))) 0 d.tasks)

  abbrev ss : Standings
  ss = standings A called place scope d

  counted : (declared : List OutputDecl) (plan : DagPlan) → IsPlan d plan → count (dag_made A called place scope declared d) ≡ suc (count_at ss plan.order)
  counted declared plan is =
      ap suc (counted_in_order (is_doomed d ss) place ss plan.order is.order.once (λ p low. is.order.whole p (omega (arith, low, long_rounds (length d.tasks)))))

  pub dag_fails : (declared : List OutputDecl) (plan : DagPlan) (before mid after : ℕ) (e : TreeRefused) → IsPlan d plan → before ≡ suc mid → GivesBoard A called place scope d plan.order mid after (Err e) →
      Gives before after (Err e) (dag_made A called place scope declared d)
  dag_fails declared plan before mid after TooLarge is taken fails = omega (arith, counted declared plan is, taken, fails)
  dag_fails declared plan before mid after Memory is taken fails = tt

  pub dag_done : (declared : List OutputDecl) (plan : DagPlan) (b : Board) (before mid after : ℕ) (state : Made) → IsPlan d plan → before ≡ suc mid → GivesBoard A called place scope d plan.order mid after (Ok b) →
      Makes d plan b place scope declared state → (state ≡ dag_made A called place scope declared d) × (after + count (dag_made A called place scope declared d) ≡ before)
  dag_done declared plan b before mid after state is taken given makes =
      (makes A called given.0, omega (arith, counted declared plan is, taken, given.1))
