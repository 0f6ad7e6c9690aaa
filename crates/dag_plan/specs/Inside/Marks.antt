-- Marks on positions.
use Rattle.std.specs.Prelude.{◌≡◌, ◌↔◌, ℕ, suc, List, [], ◌∷◌, length, Bool, true, false, IsTrue, if◌then◌else◌, get_or, slice_set, fold, replicate}
use Rattle.std.specs.List.{Contains}
use Rattle.task_order.specs.Orders.{row, places}

abbrev pub is_marked : List Bool → ℕ → Bool
is_marked marks p = get_or marks p false

-- the marks, with these positions marked
abbrev pub marked : List Bool → List ℕ → List Bool
marked marks ps = fold (λ bs p. slice_set bs p true) marks ps

-- the positions, the first of which is i, that have no mark
abbrev pub unmarked : ℕ → List Bool → List ℕ
unmarked i [] = []
unmarked i (b ∷ bs) = if b then unmarked (suc i) bs else i ∷ unmarked (suc i) bs

-- the marks, with the row of a place marked where the place is
abbrev pub spread : List (List ℕ) → List Bool → ℕ → List Bool
spread rows marks p = if is_marked marks p then marked marks (row rows p) else marks

-- a place that is a target, or stands in the row of one that is found
pub data Found (rows : List (List ℕ)) (targets : List ℕ) : ℕ → Type 0 where
  target : {p : ℕ} → Contains targets p → Found rows targets p
  above : {p : ℕ} (q : ℕ) → Found rows targets q → Contains (row rows q) p → Found rows targets p

-- exactly the places that are found are marked
pub record AreFound (rows : List (List ℕ)) (targets : List ℕ) (marks : List Bool) : Type 0 where
  pub long : length marks ≡ length rows
  pub exact : (p : ℕ) → IsTrue (is_marked marks p) ↔ Found rows targets p

-- the places that stand in no row
abbrev pub last_places : List (List ℕ) → List ℕ
last_places rows = unmarked 0 (fold marked (replicate (length rows) false) rows)

-- the places of the names, else those that stand in no row
abbrev pub target_places : List (List ℕ) → List (List ℕ) → List (List ℕ) → List ℕ
target_places table rows [] = last_places rows
target_places table rows (n ∷ ns) = places table (n ∷ ns)
