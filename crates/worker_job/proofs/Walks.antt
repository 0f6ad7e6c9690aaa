-- Walks over a list whose items are told, as far as they have come.
use Rattle.std.proofs.Common.{◌≡◌, ℕ, ◌+◌, ◌<◌, ◌≤◌, Bool, true, false, ◌||◌, List, [], ◌∷◌, ◌++◌, length, map, take, drop, get_or, filter_map, Option, Some, None, true≢false, refl, sym, ◌∙◌, ap, ap₂}
use Rattle.std.specs.Prelude.{is_some, option_map}
use Rattle.std.specs.List.{list_any, cons_option}
use Rattle.std.proofs.lemmas.List.{map_more, map-append, take-append-drop, take_all}
use Rattle.std.proofs.lemmas.List.Folds.{list_any-append}
use Rattle.next_step.specs.Views.{head, first_given}

or_none : (b : Bool) → (b || false) ≡ b
or_none true = refl
or_none false = refl

-- ---- whether one of them is such

module _ {A B : Type 0} (f : A → B) (p : B → Bool) where
  pub one_more : (xs : List A) (i : ℕ) (x : A) (b : Bool) → i < length xs → x ≡ get_or xs i x → list_any p (map f (take i xs)) ≡ false → p (f x) ≡ b → list_any p (map f (take (i + 1) xs)) ≡ b
  one_more xs i x b within is none this =
      ap (list_any p) (map_more f xs i x within ∙ ap (λ (y : A). map f (take i xs) ++ f y ∷ []) (sym is))
      ∙ list_any-append p (map f (take i xs)) (f x ∷ [])
      ∙ ap₂ (λ (a c : Bool). a || (c || false)) none this
      ∙ or_none b

  pub is_there : (xs : List A) (i : ℕ) → list_any p (map f (take i xs)) ≡ true → list_any p (map f xs) ≡ true
  is_there xs i e =
      ap (λ (ys : List A). list_any p (map f ys)) (sym (take-append-drop i xs))
      ∙ ap (list_any p) (map-append f (take i xs) (drop i xs))
      ∙ list_any-append p (map f (take i xs)) (map f (drop i xs))
      ∙ ap (λ (b : Bool). b || list_any p (map f (drop i xs))) e

  pub in_none : (xs : List A) (i : ℕ) → length xs ≤ i → list_any p (map f (take i xs)) ≡ false → list_any p (map f xs) ≡ false
  in_none xs i beyond e = ap (λ (ys : List A). list_any p (map f ys)) (sym (take_all i xs beyond)) ∙ e

-- ---- the first that is given

module _ {B C : Type 0} (give : B → Option C) where
  -- behind such as give nothing
  behind_by : (x : B) (xs ys : List B) (o : Option C) → give x ≡ o → (first_given give xs ≡ None → first_given give (xs ++ ys) ≡ first_given give ys) → head (cons_option o (filter_map give xs)) ≡ None → head (cons_option o (filter_map give (xs ++ ys))) ≡ first_given give ys
  behind_by x xs ys None e rest none = rest none
  behind_by x xs ys (Some y) e rest none = absurd (true≢false (ap is_some none))

  behind : (xs ys : List B) → first_given give xs ≡ None → first_given give (xs ++ ys) ≡ first_given give ys
  behind [] ys none = refl
  behind (x ∷ xs) ys none = behind_by x xs ys (give x) refl (behind xs ys) none

  -- before others
  before_by : (x : B) (xs ys : List B) (o : Option C) (y : C) → (first_given give xs ≡ Some y → first_given give (xs ++ ys) ≡ Some y) → head (cons_option o (filter_map give xs)) ≡ Some y → head (cons_option o (filter_map give (xs ++ ys))) ≡ Some y
  before_by x xs ys None y rest e = rest e
  before_by x xs ys (Some z) y rest e = e

  before : (xs ys : List B) (y : C) → first_given give xs ≡ Some y → first_given give (xs ++ ys) ≡ Some y
  before [] ys y e = absurd (true≢false (ap is_some (sym e)))
  before (x ∷ xs) ys y e = before_by x xs ys (give x) y (before xs ys y) e

  alone_by : (o : Option C) → head (cons_option o []) ≡ o
  alone_by None = refl
  alone_by (Some y) = refl

  module _ {A : Type 0} (f : A → B) where
    pub given_more : (xs : List A) (i : ℕ) (x : A) (o : Option C) → i < length xs → x ≡ get_or xs i x → first_given give (map f (take i xs)) ≡ None → give (f x) ≡ o → first_given give (map f (take (i + 1) xs)) ≡ o
    given_more xs i x o within is none this =
        ap (first_given give) (map_more f xs i x within ∙ ap (λ (y : A). map f (take i xs) ++ f y ∷ []) (sym is))
        ∙ behind (map f (take i xs)) (f x ∷ []) none
        ∙ alone_by (give (f x))
        ∙ this

    pub given_there : (xs : List A) (i : ℕ) (o : Option C) → is_some o ≡ true → first_given give (map f (take i xs)) ≡ o → first_given give (map f xs) ≡ o
    given_there xs i None some e = absurd (true≢false (sym some))
    given_there xs i (Some y) some e =
        ap (λ (ys : List A). first_given give (map f ys)) (sym (take-append-drop i xs))
        ∙ ap (first_given give) (map-append f (take i xs) (drop i xs))
        ∙ before (map f (take i xs)) (map f (drop i xs)) y e

    pub given_none : (xs : List A) (i : ℕ) → length xs ≤ i → first_given give (map f (take i xs)) ≡ None → first_given give (map f xs) ≡ None
    given_none xs i beyond e = ap (λ (ys : List A). first_given give (map f ys)) (sym (take_all i xs beyond)) ∙ e

pub told_none : {A B : Type 0} (g : A → B) (o : Option A) → is_some o ≡ false → option_map g o ≡ None
told_none g None e = refl
told_none g (Some x) e = absurd (true≢false e)

pub told_some : {A B : Type 0} (g : A → B) (o : Option A) → is_some o ≡ true → is_some (option_map g o) ≡ true
told_some g None e = absurd (true≢false (sym e))
told_some g (Some x) e = refl
