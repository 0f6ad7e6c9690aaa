-- What a walk over places keeps.
use Rattle.std.specs.Prelude.{◌≡◌, ◌≢◌, ℕ, ◌<◌, ◌≤◌, ◌+◌, List, [], length, get_or, Bool, true, false}
use Rattle.std.specs.List.{All, AllPairs, Contains, sum_by}
use Rattle.task_order.specs.declared.stage.Stage.{Stage}
use Rattle.task_order.specs.declared.stage.Stage.TheVariants.{New, Open, Done}
use Rattle.task_order.specs.declared.walk.Walk.{Walk}
use Rattle.task_order.specs.Orders.{row, Reaches, StandsBehind}

abbrev pub stage : List Stage → ℕ → Stage
stage stages v = get_or stages v New

-- those that were passed are done, those that are done stand once in order, those that are open stand once on the trail, and
-- the later ones of these reach the earlier ones
pub record Sound (waits : List (List ℕ)) (stages : List Stage) (passed order trail : List ℕ) : Type 0 where
  pub stages_long : length stages ≡ length waits
  pub passed_long : length passed ≡ length waits
  pub order_within : All (λ v. v < length waits) order
  pub trail_within : All (λ v. v < length waits) trail
  pub passed_within : (v : ℕ) → get_or passed v 0 ≤ length (row waits v)
  pub passed_done : (v k : ℕ) → k < get_or passed v 0 → stage stages (get_or (row waits v) k 0) ≡ Done
  pub done_ordered : (v : ℕ) → stage stages v ≡ Done → Contains order v
  pub order_done : All (λ v. stage stages v ≡ Done) order
  pub order_once : AllPairs ◌≢◌ order
  pub behind : StandsBehind waits order
  pub open_met : (v : ℕ) → stage stages v ≡ Open → Contains trail v
  pub trail_open : All (λ v. stage stages v ≡ Open) trail
  pub trail_once : AllPairs ◌≢◌ trail
  pub path : (i j : ℕ) → i < j → j < length trail → Reaches waits (get_or trail j 0) (get_or trail i 0)

abbrev pub IsSound : List (List ℕ) → Walk → Type 0
IsSound waits walk = Sound waits walk.stages.items walk.passed.items walk.order.items walk.trail.items

-- what is still to do
abbrev pub weight : Stage → ℕ
weight New = 2
weight Open = 0
weight Done = 0

abbrev pub work : Walk → ℕ
work walk = sum_by weight walk.stages.items + length walk.trail.items

-- no place becomes new again
abbrev pub KeepsMet : Walk → Walk → Type 0
KeepsMet old new = (v : ℕ) → stage new.stages.items v ≡ New → stage old.stages.items v ≡ New

pub record GoesOn (waits : List (List ℕ)) (old new : Walk) : Type 0 where
  pub sound : IsSound waits new
  pub met : KeepsMet old new
  pub less : work new < work old

-- a step goes on, or meets a circle
abbrev pub Goes : List (List ℕ) → Walk → Walk → Bool → Type 0
Goes waits old new true = GoesOn waits old new
Goes waits old new false = (v : ℕ) × Reaches waits v v

pub record Ended (waits : List (List ℕ)) (old new : Walk) : Type 0 where
  pub sound : IsSound waits new
  pub met : KeepsMet old new
  pub trail : new.trail.items ≡ []

abbrev pub Ends : List (List ℕ) → Walk → Walk → Bool → Type 0
Ends waits old new true = Ended waits old new
Ends waits old new false = (v : ℕ) × Reaches waits v v
