-- Templates with the plans of their tasks.
use Rattle.std.specs.Prelude.{◌≡◌, ℕ, List, Option, Some, None, option_and_then, option_copied, slice_get}
use Rattle.wf_manifest.specs.declared.calls.Dag.{Dag}
use Rattle.wf_manifest.specs.declared.templates.Body.{Body}
use Rattle.wf_manifest.specs.declared.templates.Body.TheVariants as body
use Rattle.wf_manifest.specs.declared.templates.Template.{Template}
use Rattle.dag_plan.specs.declared.plan.DagPlan.{DagPlan}
use Rattle.dag_plan.specs.Plans.{IsPlan}
use Rattle.tree_walk.specs.declared.templates.Named.{Named}
use Rattle.tree_walk.specs.Walkable.{IsWalkable}

abbrev pub HasPlan : Dag → Option DagPlan → Type 0
HasPlan d None = ⊥
HasPlan d (Some plan) = IsPlan d plan

-- a DAG has its plan
abbrev pub IsPlannedBody : Body → Option DagPlan → Type 0
IsPlannedBody (body.Dag d) plan = HasPlan d plan
IsPlannedBody _ plan = Unit {0}

abbrev pub IsPlanned : Template → Option DagPlan → Type 0
IsPlanned t plan = IsPlannedBody t.body plan

-- the plan that is kept for the template at a position
abbrev pub plan_at : List (Option DagPlan) → ℕ → Option DagPlan
plan_at plans i = option_and_then (λ plan. plan) (slice_get plans i)

-- each template's plan is kept at its position
abbrev pub ArePlanned : List Template → List (Option DagPlan) → Type 0
ArePlanned ts plans = (i : ℕ) (t : Template) → slice_get ts i ≡ Some t → IsPlanned t (plan_at plans i)

-- a template that may be walked over, by its plan
pub record MayWalk (named : Named) : Type 0 where
  pub walkable : IsWalkable named.template.now
  pub planned : IsPlanned named.template.now (option_copied named.plan)
