-- One turn of a loop over the calls of a row.
use Rattle.std.proofs.Common.{◌≡◌, ℕ, ◌+◌, ◌-◌, ◌<◌, Bool, true, false, ◌&&◌, ◌||◌, List, [], ◌∷◌, ◌++◌, drop, Some, Bor, refl, sym, ap, ◌∙◌, arith}
use Rattle.std.specs.Prelude.{map, slice_get}
use Rattle.std.specs.List.{list_any, list_all}
use Rattle.tree_types.specs.declared.phase.Phase.{Phase}
use Rattle.tree_types.specs.declared.outcome.Outputs.{Outputs}
use Rattle.tree_types.specs.Phases.{worst, worst_of}
use Rattle.scopes.proofs.ValueIn.{drop_place}
use Rattle.meaning.specs.Lines.{Made}

-- ---- tests of all, and of some

module _ {A : Type 0} (f : A → Bool) (xs : List A) (i : ℕ) (x : A) (at : slice_get xs i ≡ Some x) where
  all_here : list_all f (drop i xs) ≡ f x && list_all f (drop (i + 1) xs)
  all_here = ap (list_all f) (drop_place xs i x at)

  pub all_stops : f x ≡ false → list_all f (drop i xs) ≡ false
  all_stops e = all_here ∙ ap (λ b. b && list_all f (drop (i + 1) xs)) e

  pub all_goes_on : f x ≡ true → list_all f (drop (i + 1) xs) ≡ list_all f (drop i xs)
  all_goes_on e = sym (all_here ∙ ap (λ b. b && list_all f (drop (i + 1) xs)) e)

  any_here : list_any f (drop i xs) ≡ f x || list_any f (drop (i + 1) xs)
  any_here = ap (list_any f) (drop_place xs i x at)

  pub any_stops : f x ≡ true → list_any f (drop i xs) ≡ true
  any_stops e = any_here ∙ ap (λ b. b || list_any f (drop (i + 1) xs)) e

  pub any_goes_on : f x ≡ false → list_any f (drop (i + 1) xs) ≡ list_any f (drop i xs)
  any_goes_on e = sym (any_here ∙ ap (λ b. b || list_any f (drop (i + 1) xs)) e)

-- ---- the worst phase, from the last to the first

abbrev phases_of : List Made → List Phase
phases_of ms = map (λ (m : Made). m.own.node.phase) ms

pub worst_with : (ms : List Made) (left : ℕ) (m : Made) (old new : Phase) → 0 < left → slice_get ms (left - 1) ≡ Some m → new ≡ worst m.own.node.phase old
    → old ≡ worst_of (phases_of (drop left ms)) → new ≡ worst_of (phases_of (drop (left - 1) ms))
worst_with ms left m old new some at is told =
    let place : (left - 1) + 1 ≡ left = omega (arith, some) in
    let one_more : drop (left - 1) ms ≡ m ∷ drop left ms = drop_place ms (left - 1) m at ∙ ap (λ (n : ℕ). m ∷ drop n ms) place in
    is ∙ ap (λ (p : Phase). worst m.own.node.phase p) told ∙ ap (λ (rest : List Made). worst_of (phases_of rest)) (sym one_more)

-- ---- outputs, from the first to the last

abbrev seen : List (Bor Outputs) → List Outputs
seen os = map (λ (o : Bor Outputs). o.now) os

abbrev outputs_in : List Made → List Outputs
outputs_in ms = map (λ (m : Made). m.own.node.outputs) ms

seen_then : (os : List (Bor Outputs)) (o : Bor Outputs) (more : List Outputs) → seen (os ++ o ∷ []) ++ more ≡ seen os ++ o.now ∷ more
seen_then [] o more = refl
seen_then (x ∷ os) o more = ap (λ (rest : List Outputs). x.now ∷ rest) (seen_then os o more)

pub one_output_more : (ms : List Made) (i : ℕ) (m : Made) (old new : List (Bor Outputs)) (o : Bor Outputs) → slice_get ms i ≡ Some m → new ≡ old ++ o ∷ [] → o.now ≡ m.own.node.outputs
    → seen new ++ outputs_in (drop (i + 1) ms) ≡ seen old ++ outputs_in (drop i ms)
one_output_more ms i m old new o at is its =
    ap (λ (os : List (Bor Outputs)). seen os ++ outputs_in (drop (i + 1) ms)) is
    ∙ seen_then old o (outputs_in (drop (i + 1) ms))
    ∙ ap (λ (x : Outputs). seen old ++ x ∷ outputs_in (drop (i + 1) ms)) its
    ∙ ap (λ (rest : List Made). seen old ++ outputs_in rest) (sym (drop_place ms i m at))
