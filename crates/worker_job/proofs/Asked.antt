-- The first want that gives something, by a test and its kind.
use Rattle.std.proofs.Common.{◌≡◌, Bool, true, false, cond, ◌&&◌, ◌||◌, List, [], ◌∷◌, filter_map, refl, sym, ◌∙◌, ap, Option, Some, None, option_and_then}
use Rattle.std.specs.Prelude.{is_some}
use Rattle.std.specs.List.{find, list_any, cons_option}
use Rattle.tree_types.specs.declared.want.Want.{Want}
use Rattle.tree_state.specs.declared.kinds.WantKind.{WantKind}
use Rattle.tree_state.specs.Asking.{is_of}
use Rattle.next_step.specs.Views.{head, first_given}

-- ---- the first that is given

module _ {A B : Type 0} where
  -- by what it gives, and where it gives nothing by the others
  first_by : (give : A → Option B) (x : A) (xs : List A) (o : Option B) → give x ≡ o → first_given give xs ≡ option_and_then give (find (λ a. is_some (give a)) xs) → head (cons_option o (filter_map give xs)) ≡ option_and_then give (cond (is_some o) (Some x) (find (λ a. is_some (give a)) xs))
  first_by give x xs None e rest = rest
  first_by give x xs (Some y) e rest = sym e

  pub first_found : (give : A → Option B) (xs : List A) → first_given give xs ≡ option_and_then give (find (λ a. is_some (give a)) xs)
  first_found give [] = refl
  first_found give (x ∷ xs) = first_by give x xs (give x) refl (first_found give xs)

  -- where none gives anything
  pub none_by : (give : A → Option B) (x : A) (xs : List A) (o : Option B) → o ≡ None → first_given give xs ≡ None → head (cons_option o (filter_map give xs)) ≡ None
  none_by give x xs o e rest = ap (λ o. head (cons_option o (filter_map give xs))) e ∙ rest

  pub none_first : (give : A → Option B) (xs : List A) → ((x : A) → give x ≡ None) → first_given give xs ≡ None
  none_first give [] none = refl
  none_first give (x ∷ xs) none = none_by give x xs (give x) (none x) (none_first give xs none)

module _ {A : Type 0} where
  -- tests that agree find the same
  found_by : (f g : A → Bool) (x : A) (xs : List A) → f x ≡ g x → find f xs ≡ find g xs → cond (f x) (Some x) (find f xs) ≡ cond (g x) (Some x) (find g xs)
  found_by f g x xs e rest = ap (λ b. cond b (Some x) (find f xs)) e ∙ ap (cond (g x) (Some x)) rest

  pub found_same : (f g : A → Bool) (xs : List A) → ((x : A) → f x ≡ g x) → find f xs ≡ find g xs
  found_same f g [] same = refl
  found_same f g (x ∷ xs) same = found_by f g x xs (same x) (found_same f g xs same)

  -- one is found where one is such
  any_by : (f g : A → Bool) (x : A) (xs : List A) (b : Bool) → f x ≡ b → f x ≡ g x → is_some (find f xs) ≡ list_any g xs → is_some (cond (f x) (Some x) (find f xs)) ≡ (g x || list_any g xs)
  any_by f g x xs true is e rest = ap (λ b. is_some (cond b (Some x) (find f xs))) is ∙ ap (λ b. b || list_any g xs) (sym is ∙ e)
  any_by f g x xs false is e rest = ap (λ b. is_some (cond b (Some x) (find f xs))) is ∙ rest ∙ ap (λ b. b || list_any g xs) (sym is ∙ e)

  pub any_found : (f g : A → Bool) (xs : List A) → ((x : A) → f x ≡ g x) → is_some (find f xs) ≡ list_any g xs
  any_found f g [] same = refl
  any_found f g (x ∷ xs) same = any_by f g x xs (f x) refl (same x) (any_found f g xs same)

-- ---- wants of a kind

module _ {B : Type 0} where
  -- wants of other kinds give nothing
  abbrev pub OnlyOf : WantKind → (Want → Option B) → Type 0
  OnlyOf k give = (a : Want) → is_of k a ≡ false → give a ≡ None

  tested : (give : Want → Option B) (a : Want) (k b : Bool) → (k ≡ false → give a ≡ None) → is_some (give a) ≡ b → (k && b) ≡ b
  tested give a true b off e = refl
  tested give a false b off e = sym (ap is_some (off refl)) ∙ e

  pub asked_found : (k : WantKind) (give : Want → Option B) (xs : List Want) → OnlyOf k give → first_given give xs ≡ option_and_then give (find (λ a. is_of k a && is_some (give a)) xs)
  asked_found k give xs off =
      first_found give xs
      ∙ ap (option_and_then give) (sym (found_same (λ a. is_of k a && is_some (give a)) (λ a. is_some (give a)) xs (λ a. tested give a (is_of k a) (is_some (give a)) (off a) refl)))

  -- and each want of the kind gives something
  abbrev pub EachOf : WantKind → (Want → Option B) → Type 0
  EachOf k give = (a : Want) → is_of k a ≡ is_some (give a)

  pub asked_first : (k : WantKind) (give : Want → Option B) (xs : List Want) → EachOf k give → first_given give xs ≡ option_and_then give (find (is_of k) xs)
  asked_first k give xs each =
      first_found give xs ∙ ap (option_and_then give) (sym (found_same (is_of k) (λ a. is_some (give a)) xs each))
