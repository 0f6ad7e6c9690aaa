-- The first that is given, and what options and tests say.
use Rattle.std.proofs.Common.{◌≡◌, Bool, true, false, cond, ◌&&◌, ◌||◌, List, [], ◌∷◌, filter_map, refl, sym, ◌∙◌, ap, Option, Some, None, option_map, option_and_then, inl, inr, true≢false}
use Rattle.std.specs.List.{list_any, cons_option}
use Rattle.growth.specs.Growth.{Among}
use Rattle.lawful.proofs.Facts.{some_same, none_some}
use Rattle.next_step.specs.Views.{head, first_given}

-- it is given by one of them
pub given_by : {A B : Type 0} (give : A → Option B) (xs : List A) (y : B) → first_given give xs ≡ Some y → (x : A) × Among x xs × (give x ≡ Some y)
given_by give [] y e = none_some y e
given_by {A} {B} give (x ∷ xs) y e = by (give x) refl e (λ h. given_by give xs y h)
  where
    by : (o : Option B) → give x ≡ o → head (cons_option o (filter_map give xs)) ≡ Some y → (first_given give xs ≡ Some y → (z : A) × Among z xs × (give z ≡ Some y)) → (z : A) × Among z (x ∷ xs) × (give z ≡ Some y)
    by None t h ih = let r = ih h in (r.0, inr r.1, r.2)
    by (Some z) t h ih = (x, inl refl, t ∙ h)

-- where none is given, each gives none
pub none_given : {A B : Type 0} (give : A → Option B) (xs : List A) → first_given give xs ≡ None → (x : A) → Among x xs → give x ≡ None
none_given give [] e x i = absurd i
none_given {A} {B} give (y ∷ xs) e x i = by (give y) refl e i (λ h j. none_given give xs h x j)
  where
    member : give y ≡ None → (Among x xs → give x ≡ None) → Among x (y ∷ xs) → give x ≡ None
    member t ih (inl q) = ap give (sym q) ∙ t
    member t ih (inr j) = ih j

    by : (o : Option B) → give y ≡ o → head (cons_option o (filter_map give xs)) ≡ None → Among x (y ∷ xs) → (first_given give xs ≡ None → Among x xs → give x ≡ None) → give x ≡ None
    by None t h j ih = member t (ih h) j
    by (Some z) t h j ih = absurd cc

pub any_given : {A : Type 0} (test : A → Bool) (xs : List A) → list_any test xs ≡ true → (x : A) × Among x xs × (test x ≡ true)
any_given test [] e = absurd (true≢false (sym e))
any_given {A} test (y ∷ xs) e = by (test y) refl e (λ h. any_given test xs h)
  where
    by : (b : Bool) → test y ≡ b → (b || list_any test xs) ≡ true → (list_any test xs ≡ true → (x : A) × Among x xs × (test x ≡ true)) → (x : A) × Among x (y ∷ xs) × (test x ≡ true)
    by true t h ih = (y, inl refl, t)
    by false t h ih = let r = ih h in (r.0, inr r.1, r.2)

pub among_filter : {A B : Type 0} (f : A → Option B) (xs : List A) (x : A) (y : B) → Among x xs → f x ≡ Some y → Among y (filter_map f xs)
among_filter f [] x y i e = absurd i
among_filter {A} {B} f (z ∷ xs) x y i e = by (f z) refl i (λ j. among_filter f xs x y j e)
  where
    by : (o : Option B) → f z ≡ o → Among x (z ∷ xs) → (Among x xs → Among y (filter_map f xs)) → Among y (cons_option o (filter_map f xs))
    by None t (inl q) ih = none_some y (sym t ∙ ap f q ∙ e)
    by None t (inr j) ih = ih j
    by (Some u) t (inl q) ih = inl (some_same u y (sym t ∙ ap f q ∙ e))
    by (Some u) t (inr j) ih = inr (ih j)

-- ---- options

pub mapped : {A B : Type 0} (f : A → B) (o : Option A) (y : B) → option_map f o ≡ Some y → (x : A) × (o ≡ Some x) × (f x ≡ y)
mapped f None y e = none_some y e
mapped f (Some x) y e = (x, refl, some_same (f x) y e)

pub chained : {A B : Type 0} (f : A → Option B) (o : Option A) (y : B) → option_and_then f o ≡ Some y → (x : A) × (o ≡ Some x) × (f x ≡ Some y)
chained f None y e = none_some y e
chained f (Some x) y e = (x, refl, e)

-- ---- choices

pub if_then : {A : Type 0} (b : Bool) (o : Option A) (y : A) → cond b o None ≡ Some y → (b ≡ true) × (o ≡ Some y)
if_then true o y e = (refl, e)
if_then false o y e = none_some y e

pub unless_then : {A : Type 0} (b : Bool) (o : Option A) (y : A) → cond b None o ≡ Some y → (b ≡ false) × (o ≡ Some y)
unless_then false o y e = (refl, e)
unless_then true o y e = none_some y e

pub if_some : {A : Type 0} (b : Bool) (x y : A) → cond b (Some x) None ≡ Some y → (b ≡ true) × (x ≡ y)
if_some true x y e = (refl, some_same x y e)
if_some false x y e = none_some y e

pub unless_some : {A : Type 0} (b : Bool) (x y : A) → cond b None (Some x) ≡ Some y → (b ≡ false) × (x ≡ y)
unless_some false x y e = (refl, some_same x y e)
unless_some true x y e = none_some y e

pub both : (a b : Bool) → (a && b) ≡ true → (a ≡ true) × (b ≡ true)
both true b e = (refl, e)
both false b e = absurd (true≢false (sym e))
