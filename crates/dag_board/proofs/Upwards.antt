-- The ancestors of tasks, by the rows of a plan.
use Rattle.std.proofs.Common.{◌≡◌, ◌⊎◌, ℕ, zero, suc, ◌<◌, ◌≤◌, List, [], ◌∷◌, length, get_or, take, Bool, true, false, cond, ◌==◌, refl, sym, ap, subst, inl, inr, arith}
use Rattle.std.specs.Prelude.{flat_map}
use Rattle.std.specs.List.{All, Contains}
use Rattle.std.proofs.lemmas.Bool.{eqb-true, eqb-false}
use Rattle.std.proofs.lemmas.List.Elements.{All-contains, All-get_or}
use Rattle.task_order.specs.Orders.{row, AreWithin, IsOrder}
use Rattle.task_order.proofs.Among.{Among, among_from, contains_from}
use Rattle.dag_plan.specs.declared.plan.DagPlan.{DagPlan}
use Rattle.dag_board.specs.declared.board.Board.{Board}
use Rattle.dag_board.specs.Boards.{stand_at}
use Rattle.dag_board.specs.Inside.Firsts.{add_first, firsts}
use Rattle.dag_board.specs.Inside.Befores.{place_in, parents_at, up_in, up_to, ancestors, IsClosed}
use Rattle.dag_board.proofs.Once.{among_flat, flat_among, flat_same, add_keeps, add_cases, firsts_from, firsts_keep, firsts_have, firsts_again}

-- ---- places in an order

place_found : (xs : List ℕ) (p : ℕ) → Among p xs → (place_in xs p < length xs) × (get_or xs (place_in xs p) 0 ≡ p)
place_found [] p a = absurd a
place_found (x ∷ xs) p a = go (p == x) refl (place_found xs p) a
  where
    go :
        (b : Bool) → (p == x) ≡ b → (Among p xs → (place_in xs p < length xs) × (get_or xs (place_in xs p) 0 ≡ p)) → Among p (x ∷ xs) →
        (cond b 0 (suc (place_in xs p)) < suc (length xs)) × (get_or (x ∷ xs) (cond b 0 (suc (place_in xs p))) 0 ≡ p)
    go true e rest a = (omega arith, sym (eqb-true p x e))
    go false e rest (inl same) = absurd (eqb-false p x e (sym same))
    go false e rest (inr later) =
        let (low, is) = rest later in
        (omega arith, is)

pub place_low : (k : ℕ) (xs : List ℕ) (p : ℕ) → Among p (take k xs) → place_in xs p < k
place_low zero xs p a = absurd a
place_low (suc k) [] p a = absurd a
place_low (suc k) (x ∷ xs) p a = go (p == x) refl (place_low k xs p) a
  where
    go : (b : Bool) → (p == x) ≡ b → (Among p (take k xs) → place_in xs p < k) → Among p (x ∷ take k xs) → cond b 0 (suc (place_in xs p)) < suc k
    go true e rest a = omega arith
    go false e rest (inl same) = absurd (eqb-false p x e (sym same))
    go false e rest (inr later) = let low = rest later in omega arith

pub take_more : (j k : ℕ) (xs : List ℕ) (p : ℕ) → j ≤ k → Among p (take j xs) → Among p (take k xs)
take_more zero k xs p h a = absurd a
take_more (suc j) zero xs p h a = absurd (omega (arith, h))
take_more (suc j) (suc k) [] p h a = absurd a
take_more (suc j) (suc k) (x ∷ xs) p h (inl same) = inl same
take_more (suc j) (suc k) (x ∷ xs) p h (inr later) = inr (take_more j k xs p (omega (arith, h)) later)

pub taken : (k : ℕ) (xs : List ℕ) (p : ℕ) → Among p (take k xs) → Among p xs
taken zero xs p a = absurd a
taken (suc k) [] p a = absurd a
taken (suc k) (x ∷ xs) p (inl same) = inl same
taken (suc k) (x ∷ xs) p (inr later) = inr (taken k xs p later)

pub none_closed : (plan : DagPlan) (b : Board) (k : ℕ) → IsClosed plan b k []
none_closed plan b k p q c = absurd (among_from [] p c)

module _ (plan : DagPlan) (b : Board) (within : AreWithin plan.rows) (order : IsOrder plan.rows plan.order) where
  abbrev count : ℕ
  count = length plan.rows

  abbrev at : ℕ → ℕ
  at p = place_in plan.order p

  abbrev up : ℕ → List ℕ
  up p = up_to plan b p

  abbrev parents : ℕ → List ℕ
  parents p = parents_at plan b p

  pub early : (p : ℕ) → p < count → (at p < length plan.order) × (get_or plan.order (at p) 0 ≡ p)
  early p low = place_found plan.order p (among_from plan.order p (order.whole p low))

  -- those that a task waits for stand before it
  pub row_before : (p q : ℕ) → p < count → Among q (row plan.rows p) → Among q (take (at p) plan.order)
  row_before p q low a =
      let (short, is) = early p low in
      let behind : All (Contains (take (at p) plan.order)) (row plan.rows p) =
      subst (λ (x : ℕ). All (Contains (take (at p) plan.order)) (row plan.rows x)) is (order.behind (at p) short) in
      among_from (take (at p) plan.order) q
      (All-contains (Contains (take (at p) plan.order)) (row plan.rows p) q behind (contains_from (row plan.rows p) q a))

  pub row_low : (p q : ℕ) → p < count → Among q (row plan.rows p) → q < count
  row_low p q low a =
      All-contains (λ d. d < count) (row plan.rows p) q (All-get_or (All (λ d. d < count)) plan.rows p [] low within)
      (contains_from (row plan.rows p) q a)

  pub in_row : (p q : ℕ) → Among q (parents p) → Among q (row plan.rows p)
  in_row p q a = go (stand_at b p).existing a
    where
      go : (e : Bool) → Among q (cond e (row plan.rows p) []) → Among q (row plan.rows p)
      go true a = a
      go false a = absurd a

  parent_low : (p q : ℕ) → p < count → Among q (parents p) → q < count
  parent_low p q low a = row_low p q low (in_row p q a)

  parent_before : (p q : ℕ) → p < count → Among q (parents p) → at q < at p
  parent_before p q low a = place_low (at p) plan.order q (row_before p q low (in_row p q a))

  -- more steps lead no further
  same_steps : (k j p : ℕ) → p < count → at p < k → at p < j → up_in plan b k p ≡ up_in plan b j p
  same_steps zero j p low h i = absurd (omega (arith, h))
  same_steps (suc k) zero p low h i = absurd (omega (arith, i))
  same_steps (suc k) (suc j) p low h i =
      ap (λ (ps : List ℕ). p ∷ ps)
      (flat_same (up_in plan b k) (up_in plan b j) (parents p)
      (λ q a. (let before = parent_before p q low a in same_steps k j q (parent_low p q low a) (omega (arith, h, before)) (omega (arith, i, before)))))

  pub up_is : (p : ℕ) → p < count → up p ≡ p ∷ flat_map up (parents p)
  up_is p low =
      let short = (early p low).0 in
      same_steps (length plan.order) (suc (length plan.order)) p low short (omega (arith, short))

  own_up : (p : ℕ) → p < count → Among p (up p)
  own_up p low = subst (λ (ps : List ℕ). Among p ps) (sym (up_is p low)) (inl refl)

  -- with each position, those that its task waited for
  closed_up : (k p x y : ℕ) → p < count → at p < k → Among x (up p) → Among y (parents x) → Among y (up p)
  closed_up zero p x y low h a c = absurd (omega (arith, h))
  closed_up (suc k) p x y low h a c =
      subst (λ (ps : List ℕ). Among y ps) (sym (up_is p low))
      (go
      (λ z parent in_z. (let before = parent_before p z low parent in closed_up k z x y (parent_low p z low parent) (omega (arith, h, before)) in_z c))
      (subst (λ (ps : List ℕ). Among x ps) (up_is p low) a))
    where
      go : ((z : ℕ) → Among z (parents p) → Among x (up z) → Among y (up z)) → Among x (p ∷ flat_map up (parents p)) → Among y (p ∷ flat_map up (parents p))
      go rest (inl same) =
          let own : Among y (parents p) = subst (λ (z : ℕ). Among y (parents z)) (sym same) c in
          inr (among_flat up (parents p) y y own (own_up y (parent_low p y low own)))
      go rest (inr later) =
          let (z, parent, in_z) = flat_among up (parents p) x later in
          inr (among_flat up (parents p) z y parent (rest z parent in_z))

  module _ (m : ℕ) where
    -- what is there is there with its ancestors
    all_there : (k p : ℕ) (ps : List ℕ) → p < count → at p < k → at p < m → IsClosed plan b m ps → Among p ps → (x : ℕ) → Among x (up p) → Among x ps
    all_there zero p ps low h i closed there x a = absurd (omega (arith, h))
    all_there (suc k) p ps low h i closed there x a =
        go
        (λ z parent in_z.
        (let before = parent_before p z low parent in
        let z_there : Among z ps = among_from ps z (closed p z (contains_from ps p there) i (contains_from (parents p) z parent)) in
        all_there k z ps (parent_low p z low parent) (omega (arith, h, before)) (omega (arith, i, before)) closed z_there x in_z))
        (subst (λ (qs : List ℕ). Among x qs) (up_is p low) a)
      where
        go : ((z : ℕ) → Among z (parents p) → Among x (up z) → Among x ps) → Among x (p ∷ flat_map up (parents p)) → Among x ps
        go rest (inl same) = subst (λ (z : ℕ). Among z ps) same there
        go rest (inr later) =
            let (z, parent, in_z) = flat_among up (parents p) x later in
            rest z parent in_z

    -- more, each with its ancestors
    pub closed_more : (ps qs : List ℕ) → ((q : ℕ) → Among q qs → q < count) → IsClosed plan b m ps → IsClosed plan b m (firsts ps (flat_map up qs))
    closed_more ps qs low closed x y c early_x parent =
        contains_from (firsts ps (flat_map up qs)) y
        (go (firsts_from ps (flat_map up qs) x (among_from (firsts ps (flat_map up qs)) x c)))
      where
        go : Among x ps ⊎ Among x (flat_map up qs) → Among y (firsts ps (flat_map up qs))
        go (inl old) = firsts_keep ps (flat_map up qs) y (among_from ps y (closed x y (contains_from ps x old) early_x parent))
        go (inr new) =
            let (q, among, in_q) = flat_among up qs x new in
            firsts_have ps (flat_map up qs) y
            (among_flat up qs q y among (closed_up (suc (at q)) q x y (low q among) (omega arith) in_q (among_from (parents x) y parent)))

  -- so far as a row was gone through
  pub closed_so_far :
      (m : ℕ) (ps qs : List ℕ) (j : ℕ) → All (λ q. q < count) qs → IsClosed plan b m ps →
      IsClosed plan b m (firsts ps (flat_map up (take j qs)))
  closed_so_far m ps qs j low closed =
      closed_more m ps (take j qs) (λ q a. All-contains (λ v. v < count) qs q low (contains_from qs q (taken j qs q a))) closed

  pub nothing_more : (p : ℕ) (ps : List ℕ) → p < count → IsClosed plan b (suc (at p)) ps → Among p ps → firsts ps (up p) ≡ ps
  nothing_more p ps low closed there =
      firsts_again ps (up p) (all_there (suc (at p)) (suc (at p)) p ps low (omega arith) (omega arith) closed there)

  -- a position more, whose task's ancestors are yet to be added
  pub closed_but : (p : ℕ) (ps : List ℕ) → IsClosed plan b (suc (at p)) ps → IsClosed plan b (at p) (add_first ps p)
  closed_but p ps closed x y c before parent =
      contains_from (add_first ps p) y (go (add_cases ps p x (among_from (add_first ps p) x c)))
    where
      go : Among x ps ⊎ (p ≡ x) → Among y (add_first ps p)
      go (inl old) = add_keeps ps p y (among_from ps y (closed x y (contains_from ps x old) (omega (arith, before)) parent))
      go (inr same) = absurd (let own : at p ≡ at x = ap at same in omega (arith, before, own))

  pub closed_below : (j k : ℕ) (ps : List ℕ) → j ≤ k → IsClosed plan b k ps → IsClosed plan b j ps
  closed_below j k ps h closed x y c before parent = closed x y c (omega (arith, h, before)) parent

  pub with_parents : (p : ℕ) (ps : List ℕ) → p < count → firsts (add_first ps p) (flat_map up (parents p)) ≡ firsts ps (up p)
  with_parents p ps low = ap (λ (qs : List ℕ). firsts ps qs) (sym (up_is p low))

  -- what holds of some positions and of the parents of each of which it holds, holds of all their ancestors
  module _ (P : ℕ → Type 0) (keeps : (p q : ℕ) → p < count → P p → Among q (parents p) → P q) where
    up_each : (k p x : ℕ) → p < count → at p < k → P p → Among x (up p) → P x
    up_each zero p x low h here a = absurd (omega (arith, h))
    up_each (suc k) p x low h here a =
        go
        (λ z parent in_z.
        (let before = parent_before p z low parent in
        up_each k z x (parent_low p z low parent) (omega (arith, h, before)) (keeps p z low here parent) in_z))
        (subst (λ (ps : List ℕ). Among x ps) (up_is p low) a)
      where
        go : ((z : ℕ) → Among z (parents p) → Among x (up z) → P x) → Among x (p ∷ flat_map up (parents p)) → P x
        go rest (inl same) = subst P same here
        go rest (inr later) =
            let (z, parent, in_z) = flat_among up (parents p) x later in
            rest z parent in_z

    pub ancestors_each : (qs : List ℕ) → ((q : ℕ) → Among q qs → q < count) → ((q : ℕ) → Among q qs → P q) → (x : ℕ) → Among x (ancestors plan b qs) → P x
    ancestors_each qs low here x a = go (firsts_from [] (flat_map up qs) x a)
      where
        go : Among x [] ⊎ Among x (flat_map up qs) → P x
        go (inl none) = absurd none
        go (inr there) =
            let (q, among, in_q) = flat_among up qs x there in
            up_each (suc (at q)) q x (low q among) (omega arith) (here q among) in_q
