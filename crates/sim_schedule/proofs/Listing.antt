-- What a walk over a list has made so far.
use Rattle.std.proofs.Common.{◌≡◌, ℕ, ◌+◌, ◌<◌, List, [], ◌∷◌, ◌++◌, length, take, get_or, map, filter_map, Option, Some, None, refl, sym, ap, ◌∙◌, append_assoc, append-nil}
use Rattle.std.specs.Prelude.{option_to_list}
use Rattle.std.specs.List.{flat_map, cons_option}
use Rattle.std.proofs.lemmas.List.{take_more}
use Rattle.std.proofs.lemmas.List.Elements.{filter_map-append}
use Rattle.std.proofs.lemmas.Grind.{flat_map-append}
use Rattle.std.proofs.lemmas.List.{map-append}

one_option : {A : Type 0} (o : Option A) → cons_option o [] ≡ option_to_list o
one_option None = refl
one_option (Some x) = refl

module _ {A : Type 0} (xs : List A) (i : ℕ) (x : A) (below : i < length xs) (is : x ≡ get_or xs i x) where
  next_front : take (i + 1) xs ≡ take i xs ++ x ∷ []
  next_front = take_more xs i x below ∙ ap (λ (y : A). take i xs ++ y ∷ []) (sym is)

  pub filter_next : {B : Type 0} (f : A → Option B) → filter_map f (take (i + 1) xs) ≡ filter_map f (take i xs) ++ option_to_list (f x)
  filter_next f = ap (filter_map f) next_front ∙ filter_map-append f (take i xs) (x ∷ []) ∙ ap (λ ys. filter_map f (take i xs) ++ ys) (one_option (f x))

  pub flat_next : {B : Type 0} (f : A → List B) → flat_map f (take (i + 1) xs) ≡ flat_map f (take i xs) ++ f x
  flat_next f = ap (flat_map f) next_front ∙ flat_map-append f (take i xs) (x ∷ []) ∙ ap (λ ys. flat_map f (take i xs) ++ ys) (append-nil (f x))

  pub map_next : {B : Type 0} (f : A → B) → map f (take (i + 1) xs) ≡ map f (take i xs) ++ f x ∷ []
  map_next f = ap (map f) next_front ∙ map_snoc (take i xs)
    where
      map_snoc : (ys : List A) → map f (ys ++ x ∷ []) ≡ map f ys ++ f x ∷ []
      map_snoc ys = map-append f ys (x ∷ [])

pub filter_of_map : {A B C : Type 0} (f : B → Option C) (g : A → B) (xs : List A) → filter_map f (map g xs) ≡ filter_map (λ x. f (g x)) xs
filter_of_map f g [] = refl
filter_of_map f g (x ∷ xs) = ap (cons_option (f (g x))) (filter_of_map f g xs)

-- ---- jobs that are added one by one

module _ {A B : Type 0} (f : A → Option B) (xs : List A) (i : ℕ) (x : A) (below : i < length xs) (is : x ≡ get_or xs i x) where
  pub added : (old new : List B) (o : Option B) → old ≡ filter_map f (take i xs) → o ≡ f x → new ≡ old ++ option_to_list o → new ≡ filter_map f (take (i + 1) xs)
  added old new o so_far e add =
      add ∙ ap (λ ys. ys ++ option_to_list o) so_far
      ∙ ap (λ p. filter_map f (take i xs) ++ option_to_list p) e ∙ sym (filter_next xs i x below is f)

  pub added_behind : (base old new : List B) (o : Option B) → old ≡ base ++ filter_map f (take i xs) → o ≡ f x → new ≡ old ++ option_to_list o → new ≡ base ++ filter_map f (take (i + 1) xs)
  added_behind base old new o so_far e add =
      add ∙ ap (λ ys. ys ++ option_to_list o) so_far
      ∙ append_assoc base (filter_map f (take i xs)) (option_to_list o)
      ∙ ap (λ ys. base ++ ys) (ap (λ p. filter_map f (take i xs) ++ option_to_list p) e ∙ sym (filter_next xs i x below is f))
