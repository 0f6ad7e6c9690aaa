-- A value given to a name.
use Rattle.std.proofs.Common.{◌≡◌, ℕ, true, false, cond, List, [], ◌∷◌, ◌++◌, Option, Some, None, refl, sym, ap, ◌∙◌, inl, inr}
use Rattle.std.specs.Prelude.{bytes_eq, is_some}
use Rattle.std.proofs.lemmas.Bool.{cases_Bool}
use Rattle.std.proofs.lemmas.Slice.Eq.{bytes_eq-Decides}
use Rattle.scopes.specs.Substitution.{Scope, value_in}
use Rattle.scopes.proofs.ValueIn.{in_tags, behind_tags}

-- what stands behind counts for no name that has a value
kept_by : (before : Scope) (name value q : List ℕ) → is_some (value_in before name) ≡ true → (o : Option (List ℕ)) → value_in before q ≡ o → o ≡ value_in (before ++ (name, value) ∷ []) q
kept_by before name value q has (Some v) is = sym (in_tags before ((name, value) ∷ []) q v is)
kept_by before name value q has None is =
    sym (behind_tags before ((name, value) ∷ []) q is ∙ elim (cases_Bool (bytes_eq name q)) as (λ w. cond (bytes_eq name q) (Some value) None ≡ None) [
      | inl same ↦
          let e : name ≡ q = (bytes_eq-Decides name q).0 same in
          let none : is_some (value_in before name) ≡ false = ap (λ n. is_some (value_in before n)) e ∙ ap (λ x. is_some x) is in
          absurd (cc)
      | inr differs ↦ ap (λ b. cond b (Some value) None) differs
    ])

pub kept : (before : Scope) (name value q : List ℕ) → is_some (value_in before name) ≡ true → value_in before q ≡ value_in (before ++ (name, value) ∷ []) q
kept before name value q has = kept_by before name value q has (value_in before q) refl

-- and for one that has none
given_by : (before : Scope) (name value q : List ℕ) → is_some (value_in before name) ≡ false → (o : Option (List ℕ)) → value_in before q ≡ o → cond (bytes_eq name q) (Some value) o ≡ value_in (before ++ (name, value) ∷ []) q
given_by before name value q none None is = sym (behind_tags before ((name, value) ∷ []) q is)
given_by before name value q none (Some v) is =
    elim (cases_Bool (bytes_eq name q)) as (λ w. cond (bytes_eq name q) (Some value) (Some v) ≡ Some v) [
      | inl same ↦
          let e : name ≡ q = (bytes_eq-Decides name q).0 same in
          let some : is_some (value_in before name) ≡ true = ap (λ n. is_some (value_in before n)) e ∙ ap (λ x. is_some x) is in
          absurd (cc)
      | inr differs ↦ ap (λ b. cond b (Some value) (Some v)) differs
    ]
    ∙ sym (in_tags before ((name, value) ∷ []) q v is)

pub given : (before : Scope) (name value q : List ℕ) → is_some (value_in before name) ≡ false → cond (bytes_eq name q) (Some value) (value_in before q) ≡ value_in (before ++ (name, value) ∷ []) q
given before name value q none = given_by before name value q none (value_in before q) refl
