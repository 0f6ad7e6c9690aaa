-- The tasks before a task, and their tags.
use Rattle.std.specs.Prelude.{ℕ, zero, suc, ◌<◌, ◌==◌, List, [], ◌∷◌, ◌++◌, length, flat_map, Option, Some, None, codes, if◌then◌else◌}
use Rattle.std.specs.List.{Contains}
use Rattle.wf_manifest.specs.declared.calls.Task.{Task}
use Rattle.scopes.specs.Substitution.{Scope}
use Rattle.task_order.specs.Orders.{row}
use Rattle.meaning.specs.Lines.{Made, tags_of}
use Rattle.dag_plan.specs.declared.plan.DagPlan.{DagPlan}
use Rattle.dag_board.specs.declared.board.Board.{Board}
use Rattle.dag_board.specs.Boards.{name_at, stand_at, state_at}
use Rattle.dag_board.specs.Inside.Firsts.{firsts}

-- how many positions stand before this one
abbrev pub place_in : List ℕ → ℕ → ℕ
place_in [] p = 0
place_in (q ∷ qs) p = if p == q then 0 else suc (place_in qs p)

-- the positions that a task waited for which exists
abbrev pub parents_at : DagPlan → Board → ℕ → List ℕ
parents_at plan b p = if (stand_at b p).existing then row plan.rows p else []

-- a position, and those of the ancestors of its task, as far as so many steps lead
abbrev pub up_in : DagPlan → Board → ℕ → ℕ → List ℕ
up_in plan b zero p = []
up_in plan b (suc n) p = p ∷ flat_map (up_in plan b n) (parents_at plan b p)

-- a position, and those of the ancestors of its task
abbrev pub up_to : DagPlan → Board → ℕ → List ℕ
up_to plan b p = up_in plan b (length plan.order) p

-- the ancestors of a task that waits for these
abbrev pub ancestors : DagPlan → Board → List ℕ → List ℕ
ancestors plan b ps = firsts [] (flat_map (up_to plan b) ps)

-- with each of these positions that stands so early in the order, those that its task waited for
abbrev pub IsClosed : DagPlan → Board → ℕ → List ℕ → Type 0
IsClosed plan b k ps =
    (p q : ℕ) → Contains ps p → place_in plan.order p < k → Contains (parents_at plan b p) q → Contains ps q

abbrev pub made_tags : List ℕ → Option Made → Scope
made_tags n None = []
made_tags n (Some m) = tags_of (codes "tasks." ++ n) m

-- the tags of what the tasks at these positions made
abbrev pub board_tags : List Task → Board → List ℕ → Scope
board_tags ts b ps = flat_map (λ p. made_tags (name_at ts p) (state_at b p)) ps
