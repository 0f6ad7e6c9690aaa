-- The plans of the templates, one after the other.
use Rattle.std.proofs.Common.{◌≡◌, ℕ, zero, suc, ◌<◌, List, [], ◌∷◌, ◌++◌, length, Some, subst, arith}
use Rattle.std.specs.Prelude.{Option, slice_get}
use Rattle.std.proofs.lemmas.Option.{slice_get_within, get_or_from_slice_get}
use Rattle.std.proofs.lemmas.List.Elements.{All-get_or}
use Rattle.wf_manifest.specs.declared.templates.Template.{Template}
use Rattle.wf_manifest.specs.declared.manifest.Manifest.{Manifest}
use Rattle.wf_manifest.specs.Valid.{Valid}
use Rattle.dag_plan.specs.declared.plan.DagPlan.{DagPlan}
use Rattle.tree_walk.specs.Walkable.{IsWalkable}
use Rattle.tree_walk.specs.Planned.{IsPlanned, ArePlanned, plan_at}
use Rattle.tree_walk.proofs.Walkable.{walkable_templates}

pub walkable_at : (m : Manifest) → Valid m → (i : ℕ) (t : Template) → slice_get m.templates i ≡ Some t → IsWalkable t
walkable_at m valid i t is =
    subst (λ (x : Template). IsWalkable x) (get_or_from_slice_get m.templates i t t is)
    (All-get_or IsWalkable m.templates i t (slice_get_within m.templates i t is) (walkable_templates m valid))

-- the templates whose plans are kept so far
abbrev pub FirstPlanned : List Template → List (Option DagPlan) → Type 0
FirstPlanned ts plans = (i : ℕ) (t : Template) → i < length plans → slice_get ts i ≡ Some t → IsPlanned t (plan_at plans i)

pub planned_more : (ts : List Template) (plans : List (Option DagPlan)) (t : Template) (plan : Option DagPlan) → slice_get ts (length plans) ≡ Some t → IsPlanned t plan → FirstPlanned ts plans → FirstPlanned ts (plans ++ plan ∷ [])
planned_more [] plans t plan here planned first i u low is = absurd (cc)
planned_more (x ∷ ts) [] t plan here planned first zero u low is = let same : t ≡ u = cc in subst (λ (v : Template). IsPlanned v plan) same planned
planned_more (x ∷ ts) [] t plan here planned first (suc i) u low is = absurd (omega (arith, low))
planned_more (x ∷ ts) (p ∷ plans) t plan here planned first zero u low is = first zero u (omega arith) is
planned_more (x ∷ ts) (p ∷ plans) t plan here planned first (suc i) u low is =
    planned_more ts plans t plan here planned (λ k v less at. first (suc k) v (omega (arith, less)) at) i u (omega (arith, low)) is

pub all_planned : (ts : List Template) (plans : List (Option DagPlan)) → length plans ≡ length ts → FirstPlanned ts plans → ArePlanned ts plans
all_planned ts plans long first i t is = first i t (omega (arith, long, slice_get_within ts i t is)) is
