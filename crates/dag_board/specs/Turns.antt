-- What is told of the task whose turn is next, whatever the calls of the tasks make.
use Rattle.std.specs.Prelude.{◌≡◌, ℕ, suc, [], ◌++◌, take}
use Rattle.tree_types.specs.declared.phase.Phase.{Phase}
use Rattle.wf_manifest.specs.declared.calls.Task.{Task}
use Rattle.wf_manifest.specs.declared.calls.Dag.{Dag}
use Rattle.scopes.specs.Substitution.{Scope}
use Rattle.scopes.specs.Values.{HasValuesOf}
use Rattle.meaning.specs.declared.lines.Place.{Place}
use Rattle.meaning.specs.Answers.{Answers}
use Rattle.meaning.specs.Lines.{Made}
use Rattle.meaning.specs.Steps.{Caller, covered}
use Rattle.meaning.specs.Dags.{Standing, waiting, ready, exists, omitted}
use Rattle.dag_plan.specs.declared.plan.DagPlan.{DagPlan}
use Rattle.dag_plan.specs.Plans.{IsPlan}
use Rattle.dag_template.specs.declared.judging.Verdict.{Verdict}
use Rattle.dag_template.specs.Verdicts.{stands_as}
use Rattle.dag_board.specs.declared.board.Board.{Board}
use Rattle.dag_board.specs.Boards.{IsBoard, stands_at, seen_by, IsTurn}

-- nothing is done yet
abbrev pub IsNew : Dag → Board → Type 0
IsNew d b = (A : Answers) (called : Caller) (place : Place) (scope : Scope) → IsBoard A called place scope d [] b

module _ (d : Dag) (plan : DagPlan) (b : Board) (i : ℕ) where
  -- the verdict tells how the task stands
  abbrev pub Tells : Verdict → Type 0
  Tells v =
      (A : Answers) (called : Caller) (place : Place) (scope : Scope) (k : ℕ) (t : Task) →
      IsBoard A called place scope d (take k plan.order) b → IsTurn d plan k i t →
      stands_at A called place scope d i ≡ stands_as A called place scope d (seen_by A called place scope d t) i t v

  -- an inner scope has the values of the tags of the tasks that it depends on and of their ancestors, and of those around
  abbrev pub Sees : Scope → Scope → Type 0
  Sees around inner =
      (A : Answers) (called : Caller) (place : Place) (scope : Scope) (k : ℕ) (t : Task) →
      IsBoard A called place scope d (take k plan.order) b → IsTurn d plan k i t →
      HasValuesOf inner (seen_by A called place scope d t ++ around)

-- ---- one task more is done

module _ (d : Dag) (plan : DagPlan) (old new : Board) (i : ℕ) where
  -- where the task stands so, the board shows it as well as those before
  abbrev pub Records : (Answers → Caller → Place → Scope → Task → Standing) → Type 0
  Records stands =
      (A : Answers) (called : Caller) (place : Place) (scope : Scope) (k : ℕ) (t : Task) →
      IsBoard A called place scope d (take k plan.order) old → IsTurn d plan k i t →
      stands_at A called place scope d i ≡ stands A called place scope t →
      IsBoard A called place scope d (take (suc k) plan.order) new

  -- the task exists with this branch phase, and its call made this
  abbrev pub Exists : Phase → Made → Type 0
  Exists branch m = Records (λ A called place scope t. exists m branch (seen_by A called place scope d t))

  -- it begins, and its call made this
  abbrev pub Begins : Made → Type 0
  Begins m =
      Records (λ A called place scope t.
      exists m (covered t.call.continue_on m.own.node.phase) (seen_by A called place scope d t))

  -- below a place it is Omitted, with this branch phase
  abbrev pub Omits : Place → Phase → Type 0
  Omits at branch =
      (A : Answers) (called : Caller) (scope : Scope) (k : ℕ) (t : Task) →
      IsBoard A called at scope d (take k plan.order) old → IsTurn d plan k i t →
      stands_at A called at scope d i ≡ omitted A called at scope d branch (seen_by A called at scope d t) i t →
      IsBoard A called at scope d (take (suc k) plan.order) new

  -- it is ready
  abbrev pub IsReady : Type 0
  IsReady = Records (λ A called place scope t. ready)

-- a board shows a task that waits as it shows one that is not done
abbrev pub WaitingIsShown : Type 0
WaitingIsShown =
    (d : Dag) (plan : DagPlan) (b : Board) (i : ℕ) → IsPlan d plan →
    Records d plan b b i (λ A called place scope t. waiting)
