-- One item after the other, where each gives something, or one gives nothing.
use Rattle.std.proofs.Common.{◌≡◌, ℕ, ◌+◌, ◌<◌, List, [], ◌∷◌, ◌++◌, length, get_or, take, drop, map, Option, Some, None, Err, refl, sym, ap, ◌∙◌}
use Rattle.std.proofs.lemmas.List.{take_more, drop_more, take-append-drop}
use Rattle.history_text.specs.Inside.Reading.{◌>>=◌, all_of, Gives}
use Rattle.history_text.specs.declared.fault.Fault.{Fault}
use Rattle.history_text.specs.declared.fault.Fault.TheVariants.{Other, Memory}

swapped : {B : Type 0} (y : B) (o p : Option (List B))
    → (o >>= λ ys. p >>= λ us. Some (ys ++ us)) >>= (λ ys. Some (y ∷ ys)) ≡ (o >>= λ ys. Some (y ∷ ys)) >>= (λ ys. p >>= λ us. Some (ys ++ us))
swapped y None p = refl
swapped y (Some ys) None = refl
swapped y (Some ys) (Some us) = refl

alone : {B : Type 0} (p : Option (List B)) → p ≡ (p >>= λ us. Some us)
alone None = refl
alone (Some us) = refl

module _ {X B : Type 0} (f : X → Option B) where
  behind : (y : Option B) (xs zs : List X) → all_of f (xs ++ zs) ≡ (all_of f xs >>= λ ys. all_of f zs >>= λ us. Some (ys ++ us))
      → (y >>= λ z. all_of f (xs ++ zs) >>= λ ys. Some (z ∷ ys)) ≡ (y >>= λ z. all_of f xs >>= λ ys. Some (z ∷ ys)) >>= (λ ys. all_of f zs >>= λ us. Some (ys ++ us))
  behind None xs zs e = refl
  behind (Some y) xs zs e = ap (λ o. o >>= λ ys. Some (y ∷ ys)) e ∙ swapped y (all_of f xs) (all_of f zs)

  pub all_of-append : (xs zs : List X) → all_of f (xs ++ zs) ≡ (all_of f xs >>= λ ys. all_of f zs >>= λ us. Some (ys ++ us))
  all_of-append [] zs = alone (all_of f zs)
  all_of-append (x ∷ xs) zs = behind (f x) xs zs (all_of-append xs zs)

  one_more : (xs : List X) (x : X) (ys : List B) (y : B) → all_of f xs ≡ Some ys → f x ≡ Some y → all_of f (xs ++ x ∷ []) ≡ Some (ys ++ y ∷ [])
  one_more xs x ys y before here = all_of-append xs (x ∷ []) ∙ rw (before, here)

  none_at : (xs : List X) (x : X) (zs : List X) (ys : List B) → all_of f xs ≡ Some ys → f x ≡ None → all_of f (xs ++ x ∷ zs) ≡ None
  none_at xs x zs ys before here = all_of-append xs (x ∷ zs) ∙ rw (before, here)

map-append : {A X : Type 0} (v : A → X) (xs ys : List A) → map v (xs ++ ys) ≡ map v xs ++ map v ys
map-append v [] ys = refl
map-append v (x ∷ xs) ys = ap (λ l. v x ∷ l) (map-append v xs ys)

-- ---- a loop over a list that is seen by v

module _ {A X B : Type 0} (f : X → Option B) (v : A → X) (xs : List A) (i : ℕ) (d : A) (within : i < length xs) where
  pub step : (ys : List B) (y : B) → all_of f (map v (take i xs)) ≡ Some ys → f (v (get_or xs i d)) ≡ Some y → all_of f (map v (take (i + 1) xs)) ≡ Some (ys ++ y ∷ [])
  step ys y before here =
      ap (λ l. all_of f (map v l)) (take_more xs i d within) ∙ ap (all_of f) (map-append v (take i xs) (get_or xs i d ∷ []))
      ∙ one_more f (map v (take i xs)) (v (get_or xs i d)) ys y before here

  pub stop : (ys : List B) → all_of f (map v (take i xs)) ≡ Some ys → f (v (get_or xs i d)) ≡ None → all_of f (map v xs) ≡ None
  stop ys before here =
      let cut = ap (λ l. take i xs ++ l) (sym (drop_more xs i d within)) ∙ take-append-drop i xs in
      ap (λ l. all_of f (map v l)) (sym cut) ∙ ap (all_of f) (map-append v (take i xs) (get_or xs i d ∷ drop (i + 1) xs))
      ∙ none_at f (map v (take i xs)) (v (get_or xs i d)) (map v (drop (i + 1) xs)) ys before here

-- the same of an item that is told by itself

module _ {A X B : Type 0} (f : X → Option B) (v : A → X) (xs : List A) (i : ℕ) (x : A) (is : x ≡ get_or xs i x) (within : i < length xs) where
  pub step_at : (ys : List B) (y : B) → all_of f (map v (take i xs)) ≡ Some ys → f (v x) ≡ Some y → all_of f (map v (take (i + 1) xs)) ≡ Some (ys ++ y ∷ [])
  step_at ys y before here = step f v xs i x within ys y before (ap (λ a. f (v a)) (sym is) ∙ here)

  pub failed : {C D : Type 0} (see : C → B) (see_all : D → List B) (fault : Fault) (ys : List B) → all_of f (map v (take i xs)) ≡ Some ys
      → Gives {X = C} see (Err fault) (f (v x)) → Gives {X = D} see_all (Err fault) (all_of f (map v xs))
  failed see see_all Other ys before here = stop f v xs i x within ys before (ap (λ a. f (v a)) (sym is) ∙ here)
  failed see see_all Memory ys before here = tt
