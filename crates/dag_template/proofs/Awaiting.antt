-- What a task awaits names no other tasks than it waits for.
use Rattle.std.proofs.Common.{◌≡◌, refl, subst}
use Rattle.std.specs.Prelude.{ℕ, List, [], ◌∷◌, ◌++◌, Bool, true, false, Option, Some, None}
use Rattle.std.specs.List.{AllByRecursion}
use Rattle.depends_expr.specs.Expression.{Word, failed, errored, Expression, bare, both}
use Rattle.depends_expr.specs.Truth.{named}
use Rattle.wf_manifest.specs.declared.calls.Task.{Task}
use Rattle.wf_manifest.specs.Valid.{names_in, waits_for}
use Rattle.meaning.specs.Steps.{covers_failed, covers_error}
use Rattle.meaning.specs.Dags.{Names, task_named, or_covered, dependency_by, dependency, and_all, all_dependencies, awaited_by, awaited}

abbrev pub Each : (List ℕ → Type 0) → Names → Type 0
Each Q ns = AllByRecursion Q ns

pub each_map : (Q S : List ℕ → Type 0) (ns : Names) → ((n : List ℕ) → Q n → S n) → Each Q ns → Each S ns
each_map Q S [] f h = tt
each_map Q S (n ∷ ns) f h = (f n h.0, each_map Q S ns f h.1)

module _ (Q : List ℕ → Type 0) where
  each_append : (ns ms : Names) → Each Q ns → Each Q ms → Each Q (ns ++ ms)
  each_append [] ms h k = k
  each_append (n ∷ ns) ms h k = (h.0, each_append ns ms h.1 k)

  pub each_left : (ns ms : Names) → Each Q (ns ++ ms) → Each Q ns
  each_left [] ms h = tt
  each_left (n ∷ ns) ms h = (h.0, each_left ns ms h.1)

  pub each_right : (ns ms : Names) → Each Q (ns ++ ms) → Each Q ms
  each_right [] ms h = h
  each_right (n ∷ ns) ms h = each_right ns ms h.1

  covered_each :
      (b : Bool) (n : List ℕ) (w : Word) (e : Expression) → Q n → Each Q (named e) → Each Q (named (or_covered b n w e))
  covered_each true n w e q h = each_append (named e) (n ∷ []) h (q, tt)
  covered_each false n w e q h = h

  dependency_each : (n : List ℕ) (o : Option Task) → Q n → Each Q (named (dependency_by n o))
  dependency_each n None q = (q, tt)
  dependency_each n (Some t) q =
      let on = t.call.continue_on in
      covered_each (covers_error on) n errored (or_covered (covers_failed on) n failed (bare n)) q
      (covered_each (covers_failed on) n failed (bare n) q (q, tt))

  and_each :
      (d : Expression) (o : Option Expression) (e : Expression) → Each Q (named d) →
      ((f : Expression) → o ≡ Some f → Each Q (named f)) → and_all d o ≡ Some e → Each Q (named e)
  and_each d None e h k i = let same : d ≡ e = cc i in subst (λ (x : Expression). Each Q (named x)) same h
  and_each d (Some f) e h k i =
      let same : both d f ≡ e = cc i in
      subst (λ (x : Expression). Each Q (named x)) same (each_append (named d) (named f) h (k f refl))

  dependencies_each :
      (ts : List Task) (ns : Names) → Each Q ns → (e : Expression) → all_dependencies ts ns ≡ Some e → Each Q (named e)
  dependencies_each ts [] h e i = absurd (cc i)
  dependencies_each ts (n ∷ ns) h e i =
      and_each (dependency ts n) (all_dependencies ts ns) e (dependency_each n (task_named ts n) h.0)
      (λ f j. dependencies_each ts ns h.1 f j) i

  pub awaited_each :
      (ts : List Task) (t : Task) → Each Q (waits_for t) → (e : Expression) → awaited ts t ≡ Some e → Each Q (named e)
  awaited_each ts t h e i = go t.depends t.dependencies h i
    where
      go : (o : Option Expression) (d : Option Names) → Each Q (names_in o d) → awaited_by ts o d ≡ Some e → Each Q (named e)
      go (Some f) d h i = let same : f ≡ e = cc i in subst (λ (x : Expression). Each Q (named x)) same h
      go None (Some ns) h i = dependencies_each ts ns h e i
      go None None h i = absurd (cc i)
