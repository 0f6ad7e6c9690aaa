-- A set with one name more has the names of the longer list.
use Rattle.std.proofs.Common.{◌≡◌, ℕ, List, [], ◌∷◌, ◌++◌, Bool, true, false, cond, ◌||◌, refl, sym, ap, ◌∙◌}
use Rattle.std.specs.Prelude.{bytes_eq}
use Rattle.std.specs.Cmp.Lexicographic.{nat_list_eq_equiv}
use Rattle.std.proofs.lemmas.List.Folds.{list_any-append}
use Rattle.base_types.specs.Names.{is_among}

pub name_added :
    (names : List (List ℕ)) (key name : List ℕ) (before after : Bool) → before ≡ is_among names name →
    after ≡ cond (bytes_eq key name) true before → after ≡ is_among (names ++ key ∷ []) name
name_added names key name before after old new =
    new ∙ either (bytes_eq key name) before ∙ ap (λ b. b || (bytes_eq key name || false)) old ∙ ap (λ b. is_among names name || (b || false)) (nat_list_eq_equiv.symm key name) ∙ sym (list_any-append (bytes_eq name) names (key ∷ []))
  where
    either : (is before : Bool) → cond is true before ≡ (before || (is || false))
    either true true = refl
    either true false = refl
    either false true = refl
    either false false = refl
