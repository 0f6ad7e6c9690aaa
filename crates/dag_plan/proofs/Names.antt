-- What is said of names does not depend on how often each stands.
use Rattle.std.proofs.Common.{◌≡◌, ℕ, List, [], ◌∷◌, ◌++◌, map, Bool, true, false, cond, not, ◌&&◌, ◌||◌, refl, ap, sym, ◌∙◌, subst}
use Rattle.std.specs.Prelude.{bytes_eq}
use Rattle.std.specs.List.{list_any, list_all}
use Rattle.std.proofs.lemmas.List.Folds.{list_any-append}
use Rattle.std.proofs.lemmas.Slice.Eq.{bytes_eq-Decides}
use Rattle.tree_types.specs.declared.phase.Phase.{Phase}
use Rattle.tree_types.specs.declared.phase.Phase.TheVariants.{Succeeded, Failed, Error}
use Rattle.tree_types.specs.Phases.{worst, worst_of, is_error, is_failed}
use Rattle.depends_expr.specs.Expression.{Expression}
use Rattle.depends_expr.specs.Truth.{named, names_of, add_name, add_names}
use Rattle.meaning.specs.Dags.{Names}

or_false : (a : Bool) → (a || false) ≡ a
or_false true = refl
or_false false = refl

or_assoc : (a b c : Bool) → ((a || b) || c) ≡ (a || (b || c))
or_assoc true b c = refl
or_assoc false b c = refl

-- the same names, as far as tests tell
abbrev pub Same : Names → Names → Type 0
Same ns ms = (q : List ℕ → Bool) → list_any q ns ≡ list_any q ms

pub same_append : (ns ms us vs : Names) → Same ns us → Same ms vs → Same (ns ++ ms) (us ++ vs)
same_append ns ms us vs h k q =
    list_any-append q ns ms ∙ ap (λ (b : Bool). b || list_any q ms) (h q) ∙ ap (λ (b : Bool). list_any q us || b) (k q)
    ∙ sym (list_any-append q us vs)

-- ---- names that stand once

twice : (a b : Bool) → ((a || b) || a) ≡ (a || b)
twice true b = refl
twice false true = refl
twice false false = refl

module _ (q : List ℕ → Bool) where
  there_already : (ns : Names) (n : List ℕ) → list_any (bytes_eq n) ns ≡ true → (list_any q ns || q n) ≡ list_any q ns
  there_already [] n e = absurd (cc e)
  there_already (m ∷ ns) n e = go (bytes_eq n m) refl (there_already ns n)
    where
      go :
          (b : Bool) → bytes_eq n m ≡ b → (list_any (bytes_eq n) ns ≡ true → (list_any q ns || q n) ≡ list_any q ns) →
          ((q m || list_any q ns) || q n) ≡ (q m || list_any q ns)
      go true f later =
          let same : n ≡ m = (bytes_eq-Decides n m).0 f in
          subst (λ (x : List ℕ). ((q m || list_any q ns) || q x) ≡ (q m || list_any q ns)) (sym same) (twice (q m) (list_any q ns))
      go false f later =
          let there : list_any (bytes_eq n) ns ≡ true = sym (ap (λ (b : Bool). b || list_any (bytes_eq n) ns) f) ∙ e in
          or_assoc (q m) (list_any q ns) (q n) ∙ ap (λ (b : Bool). q m || b) (later there)

  one_added : (ns : Names) (n : List ℕ) → list_any q (add_name ns n) ≡ (list_any q ns || q n)
  one_added ns n = go (list_any (bytes_eq n) ns) refl
    where
      go : (b : Bool) → list_any (bytes_eq n) ns ≡ b → list_any q (cond b ns (ns ++ n ∷ [])) ≡ (list_any q ns || q n)
      go true e = sym (there_already ns n e)
      go false e = list_any-append q ns (n ∷ []) ∙ ap (λ (b : Bool). list_any q ns || b) (or_false (q n))

  all_added : (ns ms : Names) → list_any q (add_names ns ms) ≡ (list_any q ns || list_any q ms)
  all_added ns [] = sym (or_false (list_any q ns))
  all_added ns (m ∷ ms) =
      all_added (add_name ns m) ms ∙ ap (λ (b : Bool). b || list_any q ms) (one_added ns m)
      ∙ or_assoc (list_any q ns) (q m) (list_any q ms)

pub once : (e : Expression) → Same (names_of e) (named e)
once e q = all_added q [] (named e)

-- ---- what is the same of the same names

not_not : (a b : Bool) → (a && not b) ≡ not (not a || b)
not_not true b = refl
not_not false b = refl

all_by_any : (p : List ℕ → Bool) (ns : Names) → list_all p ns ≡ not (list_any (λ n. not (p n)) ns)
all_by_any p [] = refl
all_by_any p (n ∷ ns) = ap (λ (b : Bool). p n && b) (all_by_any p ns) ∙ not_not (p n) (list_any (λ n. not (p n)) ns)

pub same_all : (ns ms : Names) → Same ns ms → (p : List ℕ → Bool) → list_all p ns ≡ list_all p ms
same_all ns ms h p = all_by_any p ns ∙ ap not (h (λ n. not (p n))) ∙ sym (all_by_any p ms)

abbrev by_any : Bool → Bool → Phase
by_any true b = Error
by_any false true = Failed
by_any false false = Succeeded

worst_more : (p : Phase) (a b : Bool) → worst p (by_any a b) ≡ by_any (is_error p || a) (is_failed p || b)
worst_more Error a b = refl
worst_more Failed true b = refl
worst_more Failed false true = refl
worst_more Failed false false = refl
worst_more _ true b = refl
worst_more _ false true = refl
worst_more _ false false = refl

worst_by_any :
    (f : List ℕ → Phase) (ns : Names) →
    worst_of (map f ns) ≡ by_any (list_any (λ n. is_error (f n)) ns) (list_any (λ n. is_failed (f n)) ns)
worst_by_any f [] = refl
worst_by_any f (n ∷ ns) =
    ap (worst (f n)) (worst_by_any f ns)
    ∙ worst_more (f n) (list_any (λ n. is_error (f n)) ns) (list_any (λ n. is_failed (f n)) ns)

pub same_worst : (ns ms : Names) → Same ns ms → (f : List ℕ → Phase) → worst_of (map f ns) ≡ worst_of (map f ms)
same_worst ns ms h f =
    worst_by_any f ns
    ∙ ap (λ (b : Bool). by_any b (list_any (λ n. is_failed (f n)) ns)) (h (λ n. is_error (f n)))
    ∙ ap (λ (b : Bool). by_any (list_any (λ n. is_error (f n)) ms) b) (h (λ n. is_failed (f n)))
    ∙ sym (worst_by_any f ms)
