-- The names that tasks wait for, tested one after the other.
use Rattle.std.proofs.Common.{◌≡◌, ℕ, zero, suc, ◌+◌, ◌<◌, List, [], ◌∷◌, Bool, true, false, ◌||◌, length, take, Option, Some, None, refl, sym, ap, ◌∙◌, arith}
use Rattle.std.specs.Prelude.{slice_get, get_or}
use Rattle.std.specs.List.{list_any}
use Rattle.std.proofs.lemmas.List.Folds.{list_any_more, list_any-append}
use Rattle.depends_expr.specs.Expression.{Expression, failed, errored, bare}
use Rattle.depends_expr.specs.Truth.{named}
use Rattle.wf_manifest.specs.declared.calls.Task.{Task}
use Rattle.task_order.specs.Orders.{waited, waited_in}
use Rattle.meaning.specs.Steps.{covers_failed, covers_error}
use Rattle.meaning.specs.Dags.{Names, task_named, or_covered, dependency_by, dependency, and_all, all_dependencies, awaited_by, named_by, parents}
use Rattle.dag_plan.proofs.Names.{once}

module _ {X : Type 0} (f : X → Bool) where
  always : (b : Bool) → (b || true) ≡ true
  always true = refl
  always false = refl

  pub found_any : (xs : List X) (i : ℕ) (x : X) → slice_get xs i ≡ Some x → f x ≡ true → list_any f xs ≡ true
  found_any [] i x there is = absurd (cc there)
  found_any (y ∷ xs) zero x there is =
      let same : y ≡ x = cc there in
      ap (λ (b : Bool). b || list_any f xs) (ap f same ∙ is)
  found_any (y ∷ xs) (suc i) x there is = ap (λ (b : Bool). f y || b) (found_any xs i x there is) ∙ always (f y)

  -- the item of a loop, as the loop tells it
  at_item : (xs : List X) (i : ℕ) (x : X) → i < length xs → x ≡ get_or xs i x → slice_get xs i ≡ Some x
  at_item [] i x low is = absurd (omega (arith, low))
  at_item (y ∷ xs) zero x low is = ap Some (sym is)
  at_item (y ∷ xs) (suc i) x low is = at_item xs i x (omega (arith, low)) is

  pub found_item : (xs : List X) (i : ℕ) (x : X) → i < length xs → x ≡ get_or xs i x → f x ≡ true → list_any f xs ≡ true
  found_item xs i x low is passes = found_any xs i x (at_item xs i x low is) passes

  pub none_item : (xs : List X) (i : ℕ) (x : X) → i < length xs → x ≡ get_or xs i x → list_any f (take i xs) ≡ false → f x ≡ false → list_any f (take (i + 1) xs) ≡ false
  none_item xs i x low is none off =
      list_any_more f xs i x low ∙ ap (λ (b : Bool). b || f (get_or xs i x)) none ∙ ap f (sym is) ∙ off

  is_low : (xs : List X) (i : ℕ) (x : X) → slice_get xs i ≡ Some x → i < length xs
  is_low [] i x there = absurd (cc there)
  is_low (y ∷ xs) zero x there = omega arith
  is_low (y ∷ xs) (suc i) x there = omega (arith, is_low xs i x there)

  is_here : (xs : List X) (i : ℕ) (x : X) → slice_get xs i ≡ Some x → x ≡ get_or xs i x
  is_here [] i x there = absurd (cc there)
  is_here (y ∷ xs) zero x there = sym (cc there)
  is_here (y ∷ xs) (suc i) x there = is_here xs i x there

  pub none_more : (xs : List X) (i : ℕ) (x : X) → slice_get xs i ≡ Some x → list_any f (take i xs) ≡ false → f x ≡ false → list_any f (take (i + 1) xs) ≡ false
  none_more xs i x there none off = none_item xs i x (is_low xs i x there) (is_here xs i x there) none off

-- the task at a position that there is
pub task_at : (ts : List Task) (k : ℕ) → k < length ts → (u : Task) × (slice_get ts k ≡ Some u)
task_at [] k lt = absurd (omega (arith, lt))
task_at (t ∷ ts) zero lt = (t, refl)
task_at (t ∷ ts) (suc k) lt = task_at ts k (omega (arith, lt))

-- ---- the tasks that a task waits for, each once or as often as its expression names it

module _ (q : List ℕ → Bool) (ts : List Task) where
  one : (b : Bool) → (b || false) ≡ b
  one true = refl
  one false = refl

  two : (b : Bool) → (b || (b || false)) ≡ b
  two true = refl
  two false = refl

  three : (b : Bool) → (b || (b || (b || false))) ≡ b
  three true = refl
  three false = refl

  covered_any : (n : List ℕ) (fails errs : Bool) → list_any q (named (or_covered errs n errored (or_covered fails n failed (bare n)))) ≡ q n
  covered_any n true true = three (q n)
  covered_any n true false = two (q n)
  covered_any n false true = two (q n)
  covered_any n false false = one (q n)

  dependency_any : (n : List ℕ) (o : Option Task) → list_any q (named (dependency_by n o)) ≡ q n
  dependency_any n None = one (q n)
  dependency_any n (Some t) = covered_any n (covers_failed t.call.continue_on) (covers_error t.call.continue_on)

  one_more : (n : List ℕ) (ns : Names) (o : Option Expression) → list_any q (named_by o) ≡ list_any q ns → list_any q (named_by (and_all (dependency ts n) o)) ≡ (q n || list_any q ns)
  one_more n ns None rest = dependency_any n (task_named ts n) ∙ sym (one (q n)) ∙ ap (λ (b : Bool). q n || b) rest
  one_more n ns (Some e) rest =
      list_any-append q (named (dependency ts n)) (named e)
      ∙ ap (λ (b : Bool). b || list_any q (named e)) (dependency_any n (task_named ts n))
      ∙ ap (λ (b : Bool). q n || b) rest

  dependencies_any : (ns : Names) → list_any q (named_by (all_dependencies ts ns)) ≡ list_any q ns
  dependencies_any [] = refl
  dependencies_any (n ∷ ns) = one_more n ns (all_dependencies ts ns) (dependencies_any ns)

  awaited_any : (o : Option Expression) (ns : Option Names) → list_any q (named_by (awaited_by ts o ns)) ≡ list_any q (waited_in o ns)
  awaited_any (Some e) ns = sym (once e q)
  awaited_any None (Some ns) = dependencies_any ns
  awaited_any None None = refl

  pub parents_any : (t : Task) → list_any q (parents ts t) ≡ list_any q (waited t)
  parents_any t = awaited_any t.depends t.dependencies
