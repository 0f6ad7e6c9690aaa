-- Where the first request that passes a test stands.
use Rattle.std.proofs.Common.{◌≡◌, ℕ, suc, Bool, true, false, cond, ◌||◌, List, [], ◌∷◌, ◌++◌, length, Option, Some, None, option_map, refl, ◌∙◌, ap, ap₂}
use Rattle.std.specs.List.{list_any}
use Rattle.books.specs.declared.Request.{Request}
use Rattle.sync_locks.specs.Book.{place}

-- what stands at a place
pub record At (test : Request → Bool) (rs : List Request) (i : ℕ) : Type 0 where
  pub front : List Request
  pub found : Request
  pub back : List Request
  pub is : rs ≡ front ++ found ∷ back
  pub long : length front ≡ i
  pub none : list_any test front ≡ false
  pub passes : test found ≡ true

pub at_place : (test : Request → Bool) (rs : List Request) (i : ℕ) → place test rs ≡ Some i → At test rs i
at_place test [] i e = absurd (cc e)
at_place test (r ∷ rs) i e = by (test r) refl (place test rs) refl e (λ j p. at_place test rs j p)
  where
    behind : (j : ℕ) → test r ≡ false → suc j ≡ i → At test rs j → At test (r ∷ rs) i
    behind j f e a = record {
      front = r ∷ a.front;
      found = a.found;
      back = a.back;
      is = ap (λ x. r ∷ x) a.is;
      long = ap suc a.long ∙ e;
      none = ap₂ ◌||◌ f a.none;
      passes = a.passes;
    }

    by : (b : Bool) → test r ≡ b → (o : Option ℕ) → place test rs ≡ o → cond b (Some 0) (option_map suc o) ≡ Some i → ((j : ℕ) → place test rs ≡ Some j → At test rs j) → At test (r ∷ rs) i
    by true t o p e ih = record { front = []; found = r; back = rs; is = refl; long = (let z : 0 ≡ i = cc in z); none = refl; passes = t }
    by false f None p e ih = absurd (cc e)
    by false f (Some j) p e ih = behind j f (let z : suc j ≡ i = cc in z) (ih j p)

some_nothing : {A : Type 0} (i : ℕ) → Some i ≡ None → A
some_nothing i e = absurd (cc e)

pub none_there : (test : Request → Bool) (rs : List Request) → place test rs ≡ None → list_any test rs ≡ false
none_there test [] n = refl
none_there test (r ∷ rs) n = by (test r) (place test rs) refl n (λ e. none_there test rs e)
  where
    by : (b : Bool) (o : Option ℕ) → place test rs ≡ o → cond b (Some 0) (option_map suc o) ≡ None → (place test rs ≡ None → list_any test rs ≡ false) → (b || list_any test rs) ≡ false
    by true o e n ih = some_nothing 0 n
    by false None e n ih = ih e
    by false (Some i) e n ih = some_nothing (suc i) n
