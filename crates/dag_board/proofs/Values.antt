-- Tags that stand again behind the first of their name change no value.
use Rattle.std.proofs.Common.{◌≡◌, ◌⊎◌, ℕ, List, [], ◌∷◌, ◌++◌, fold, Bool, true, false, cond, ◌==◌, Option, Some, None, refl, sym, ap, ◌∙◌, subst, append_assoc, inl, inr}
use Rattle.std.specs.Prelude.{bytes_eq, flat_map}
use Rattle.std.specs.List.{list_any}
use Rattle.std.proofs.lemmas.Bool.{eqb-true}
use Rattle.std.proofs.lemmas.List.{append-nil}
use Rattle.depends_expr.specs.Expression.{Expression, failed, errored, bare}
use Rattle.depends_expr.specs.Truth.{named, names_of, add_name, add_names}
use Rattle.wf_manifest.specs.declared.calls.Task.{Task}
use Rattle.scopes.specs.Substitution.{Scope, value_in}
use Rattle.scopes.specs.Values.{HasValuesOf}
use Rattle.scopes.proofs.ValueIn.{append_alike, alike_trans, over_alike, in_tags, behind_tags}
use Rattle.task_order.specs.Orders.{waited_in, waited}
use Rattle.task_order.proofs.Among.{Among, any_at, listed}
use Rattle.meaning.specs.Steps.{covers_failed, covers_error}
use Rattle.meaning.specs.Dags.{Names, task_named, or_covered, dependency_by, dependency, and_all, all_dependencies, awaited_by, named_by, parents}
use Rattle.dag_board.specs.Inside.Firsts.{add_first, firsts}

pub alike_refl : (a : Scope) → HasValuesOf a a
alike_refl a tag = refl

pub alike_sym : (a b : Scope) → HasValuesOf a b → HasValuesOf b a
alike_sym a b h tag = sym (h tag)

pub alike_is : (a b : Scope) → a ≡ b → HasValuesOf a b
alike_is a b e tag = ap (λ (s : Scope). value_in s tag) e

module _ {X : Type 0} (f : X → Scope) where
  abbrev pub all : List X → Scope
  all xs = flat_map f xs

  pub all_append : (xs ys : List X) → all (xs ++ ys) ≡ all xs ++ all ys
  all_append [] ys = refl
  all_append (x ∷ xs) ys = ap (λ (s : Scope). f x ++ s) (all_append xs ys) ∙ sym (append_assoc (f x) (all xs) (all ys))

  none_each : (xs : List X) (x : X) (tag : List ℕ) → value_in (all xs) tag ≡ None → Among x xs → value_in (f x) tag ≡ None
  none_each [] x tag none among = absurd among
  none_each (y ∷ ys) x tag none among = go (value_in (f y) tag) refl among (λ rest a. none_each ys x tag rest a)
    where
      go :
          (o : Option (List ℕ)) → value_in (f y) tag ≡ o → Among x (y ∷ ys) →
          (value_in (all ys) tag ≡ None → Among x ys → value_in (f x) tag ≡ None) → value_in (f x) tag ≡ None
      go (Some v) e a rest = absurd (let there = in_tags (f y) (all ys) tag v e in let both : Some v ≡ None = sym there ∙ none in cc both)
      go None e (inl same) rest = subst (λ (z : X). value_in (f z) tag ≡ None) same e
      go None e (inr later) rest = rest (sym (behind_tags (f y) (all ys) tag e) ∙ none) later

  -- what stands among those before may be left out
  pub again : (xs : List X) (x : X) (rest : Scope) → Among x xs → HasValuesOf (all xs ++ rest) (all xs ++ (f x ++ rest))
  again xs x rest among tag = go (value_in (all xs) tag) refl
    where
      go : (o : Option (List ℕ)) → value_in (all xs) tag ≡ o → value_in (all xs ++ rest) tag ≡ value_in (all xs ++ (f x ++ rest)) tag
      go (Some v) e = in_tags (all xs) rest tag v e ∙ sym (in_tags (all xs) (f x ++ rest) tag v e)
      go None e =
          behind_tags (all xs) rest tag e
          ∙ sym (behind_tags (f x) rest tag (none_each xs x tag e among))
          ∙ sym (behind_tags (all xs) (f x ++ rest) tag e)

  -- each is added unless it is there
  module _ (add : List X → X → List X) (adds : (xs : List X) (x : X) → ((add xs x ≡ xs) × Among x xs) ⊎ (add xs x ≡ xs ++ x ∷ [])) where
    one_added : (xs : List X) (x : X) (rest : Scope) → HasValuesOf (all (add xs x) ++ rest) (all xs ++ (f x ++ rest))
    one_added xs x rest =
        elim (adds xs x) [
          | inl (same, among) ↦
              alike_trans (all (add xs x) ++ rest) (all xs ++ rest) (all xs ++ (f x ++ rest))
              (alike_is (all (add xs x) ++ rest) (all xs ++ rest) (ap (λ (ys : List X). all ys ++ rest) same)) (again xs x rest among)
          | inr more ↦
              alike_is (all (add xs x) ++ rest) (all xs ++ (f x ++ rest))
              (ap (λ (ys : List X). all ys ++ rest) more ∙ ap (λ (s : Scope). s ++ rest) (all_append xs (x ∷ []))
              ∙ append_assoc (all xs) (f x ++ []) rest ∙ ap (λ (s : Scope). all xs ++ (s ++ rest)) (append-nil (f x)))
        ]

    pub all_added : (xs ys : List X) → HasValuesOf (all (fold add xs ys)) (all xs ++ all ys)
    all_added xs [] = alike_is (all xs) (all xs ++ []) (sym (append-nil (all xs)))
    all_added xs (y ∷ ys) =
        alike_trans (all (fold add (add xs y) ys)) (all (add xs y) ++ all ys) (all xs ++ (f y ++ all ys))
        (all_added (add xs y) ys) (one_added xs y (all ys))

  -- alike one by one
  pub each_alike : {Y : Type 0} (g : Y → Scope) (h : Y → Scope) (ys : List Y) → ((y : Y) → Among y ys → HasValuesOf (g y) (h y)) → HasValuesOf (flat_map g ys) (flat_map h ys)
  each_alike g h [] e = alike_refl []
  each_alike g h (y ∷ ys) e = over_alike (h y) (flat_map h ys) (g y) (flat_map g ys) (e y (inl refl)) (each_alike g h ys (λ z a. e z (inr a)))

-- ---- positions, each once

first_adds : (ps : List ℕ) (p : ℕ) → ((add_first ps p ≡ ps) × Among p ps) ⊎ (add_first ps p ≡ ps ++ p ∷ [])
first_adds ps p = go (list_any (λ q. p == q) ps) refl
  where
    go : (b : Bool) → list_any (λ q. p == q) ps ≡ b → ((cond b ps (ps ++ p ∷ []) ≡ ps) × Among p ps) ⊎ (cond b ps (ps ++ p ∷ []) ≡ ps ++ p ∷ [])
    go true e =
        let (q, among, same) = any_at (λ q. p == q) ps e in
        inl (refl, subst (λ (x : ℕ). Among x ps) (sym (eqb-true p q same)) among)
    go false e = inr refl

pub firsts_alike : (f : ℕ → Scope) (ps : List ℕ) → HasValuesOf (flat_map f (firsts [] ps)) (flat_map f ps)
firsts_alike f ps = all_added f add_first first_adds [] ps

-- ---- names, each once

name_adds : (ns : Names) (n : List ℕ) → ((add_name ns n ≡ ns) × Among n ns) ⊎ (add_name ns n ≡ ns ++ n ∷ [])
name_adds ns n = go (list_any (bytes_eq n) ns) refl
  where
    go : (b : Bool) → list_any (bytes_eq n) ns ≡ b → ((cond b ns (ns ++ n ∷ []) ≡ ns) × Among n ns) ⊎ (cond b ns (ns ++ n ∷ []) ≡ ns ++ n ∷ [])
    go true e = inl (refl, listed ns n e)
    go false e = inr refl

names_folded : (ns ms : Names) → add_names ns ms ≡ fold add_name ns ms
names_folded ns [] = refl
names_folded ns (m ∷ ms) = names_folded (add_name ns m) ms

module _ (f : List ℕ → Scope) where
  once_alike : (e : Expression) → HasValuesOf (flat_map f (names_of e)) (flat_map f (named e))
  once_alike e =
      subst (λ (ns : Names). HasValuesOf (flat_map f ns) (flat_map f (named e))) (sym (names_folded [] (named e)))
      (all_added f add_name name_adds [] (named e))

  -- one name, named again
  twice : (n : List ℕ) (rest : Scope) → HasValuesOf (f n ++ rest) (f n ++ (f n ++ rest))
  twice n rest =
      alike_trans (f n ++ rest) ((f n ++ []) ++ rest) (f n ++ (f n ++ rest))
      (alike_is (f n ++ rest) ((f n ++ []) ++ rest) (ap (λ (s : Scope). s ++ rest) (sym (append-nil (f n)))))
      (alike_trans ((f n ++ []) ++ rest) ((f n ++ []) ++ (f n ++ rest)) (f n ++ (f n ++ rest))
      (again f (n ∷ []) n rest (inl refl))
      (alike_is ((f n ++ []) ++ (f n ++ rest)) (f n ++ (f n ++ rest)) (ap (λ (s : Scope). s ++ (f n ++ rest)) (append-nil (f n)))))

  covered_alike :
      (n : List ℕ) (cf ce : Bool) → HasValuesOf (f n ++ []) (flat_map f (named (or_covered ce n errored (or_covered cf n failed (bare n)))))
  covered_alike n true true =
      alike_trans (f n ++ []) (f n ++ (f n ++ [])) (f n ++ (f n ++ (f n ++ []))) (twice n []) (append_alike (f n) (f n ++ []) (f n ++ (f n ++ [])) (twice n []))
  covered_alike n true false = twice n []
  covered_alike n false true = twice n []
  covered_alike n false false = alike_refl (f n ++ [])

  dependency_alike : (n : List ℕ) (o : Option Task) → HasValuesOf (f n ++ []) (flat_map f (named (dependency_by n o)))
  dependency_alike n None = alike_refl (f n ++ [])
  dependency_alike n (Some t) = covered_alike n (covers_failed t.call.continue_on) (covers_error t.call.continue_on)

  more_alike :
      (ts : List Task) (n : List ℕ) (ns : Names) (o : Option Expression) → HasValuesOf (flat_map f ns) (flat_map f (named_by o)) →
      HasValuesOf (f n ++ flat_map f ns) (flat_map f (named_by (and_all (dependency ts n) o)))
  more_alike ts n ns None h =
      alike_trans (f n ++ flat_map f ns) (f n ++ []) (flat_map f (named (dependency ts n))) (append_alike (f n) (flat_map f ns) [] h)
      (dependency_alike n (task_named ts n))
  more_alike ts n ns (Some e) h =
      let front : Scope = flat_map f (named (dependency ts n)) in
      alike_trans (f n ++ flat_map f ns) (front ++ flat_map f (named e)) (flat_map f (named (dependency ts n) ++ named e))
      (over_alike front (flat_map f (named e)) (f n) (flat_map f ns)
      (alike_trans (f n) (f n ++ []) front (alike_is (f n) (f n ++ []) (sym (append-nil (f n)))) (dependency_alike n (task_named ts n))) h)
      (alike_is (front ++ flat_map f (named e)) (flat_map f (named (dependency ts n) ++ named e)) (sym (all_append f (named (dependency ts n)) (named e))))

  dependencies_alike : (ts : List Task) (ns : Names) → HasValuesOf (flat_map f ns) (flat_map f (named_by (all_dependencies ts ns)))
  dependencies_alike ts [] = alike_refl []
  dependencies_alike ts (n ∷ ns) = more_alike ts n ns (all_dependencies ts ns) (dependencies_alike ts ns)

  awaited_alike :
      (ts : List Task) (o : Option Expression) (dependencies : Option Names) →
      HasValuesOf (flat_map f (waited_in o dependencies)) (flat_map f (named_by (awaited_by ts o dependencies)))
  awaited_alike ts (Some e) dependencies = once_alike e
  awaited_alike ts None (Some ns) = dependencies_alike ts ns
  awaited_alike ts None None = alike_refl []

  -- each name once, or as often as the task's expression names it
  pub waited_alike : (ts : List Task) (t : Task) → HasValuesOf (flat_map f (waited t)) (flat_map f (parents ts t))
  waited_alike ts t = awaited_alike ts t.depends t.dependencies
