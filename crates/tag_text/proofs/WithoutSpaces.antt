-- What taking a space off a text leaves.
use Rattle.std.proofs.Common.{◌≡◌, ◌≢◌, ◌||◌, nat_eq, ℕ, true, List, [], ◌∷◌, ◌++◌, reverse, Option, Some, None, MatchOption, IfNone, refl, sym, ap, ◌∙◌, inl, inr, Bor}
use Rattle.std.proofs.lemmas.List.{reverse-append, reverse-reverse}
use Rattle.std.proofs.lemmas.Bool.Decides.{Decides-eqb}
use Rattle.std.proofs.lemmas.Bool.{cases_Bool}
use Rattle.base_types.specs.Bytes.{is_space}
use Rattle.tag_text.specs.Parts.{without_leading_spaces, without_trailing_spaces}
use Rattle.tag_text.proofs.Trimmed.{skip_space, keep_other}

space_is : (b : ℕ) → is_space b ≡ true → b ≢ 32 → b ≡ 9
space_is b space differs =
    elim (cases_Bool (nat_eq b 32)) [
      | inl equals ↦ absurd (differs ((Decides-eqb b 32).0 equals))
      | inr other ↦ (Decides-eqb b 9).0 (sym (ap (λ t. t || nat_eq b 9) other) ∙ space)
    ]

-- a text that begins with neither space keeps its front
pub front_kept : (bs : List ℕ) → ((rest : List ℕ) → bs ≢ 32 ∷ rest) → ((rest : List ℕ) → bs ≢ 9 ∷ rest) → without_leading_spaces bs ≡ bs
front_kept [] space tab = refl
front_kept (b ∷ bs) space tab =
    elim (cases_Bool (is_space b)) [
      | inl blank ↦ absurd (tab bs (ap (λ c. c ∷ bs) (space_is b blank (λ e. space bs (ap (λ c. c ∷ bs) e)))))
      | inr other ↦ keep_other b bs other
    ]

pub front_dropped : (c : ℕ) (bs rest : List ℕ) → is_space c ≡ true → bs ≡ c ∷ rest → without_leading_spaces bs ≡ without_leading_spaces rest
front_dropped c bs rest space e = ap without_leading_spaces e ∙ skip_space c rest space

-- a text that ends with neither space keeps its end
pub end_kept : (bs : List ℕ) → ((front : List ℕ) → bs ≢ front ++ 32 ∷ []) → ((front : List ℕ) → bs ≢ front ++ 9 ∷ []) → without_trailing_spaces bs ≡ bs
end_kept bs space tab =
    let back : (c : ℕ) (rest : List ℕ) → reverse bs ≡ c ∷ rest → bs ≡ reverse rest ++ c ∷ [] = λ c rest e. sym (reverse-reverse bs) ∙ ap reverse e ∙ reverse-append (c ∷ []) rest in
    ap reverse (front_kept (reverse bs) (λ rest e. space (reverse rest) (back 32 rest e)) (λ rest e. tab (reverse rest) (back 9 rest e))) ∙ reverse-reverse bs

pub end_dropped : (c : ℕ) (bs rest : List ℕ) → is_space c ≡ true → bs ≡ rest ++ c ∷ [] → without_trailing_spaces bs ≡ without_trailing_spaces rest
end_dropped c bs rest space e = ap (λ t. reverse (without_leading_spaces t)) (ap reverse e ∙ reverse-append rest (c ∷ [])) ∙ ap reverse (skip_space c (reverse rest) space)

-- the second search of a space, after one that found none
pub no_front : (bs : List ℕ) (P : Bor (List ℕ) → Type 0) (r : Option (Bor (List ℕ))) → ((rest : List ℕ) → bs ≢ 32 ∷ rest) → MatchOption r ((rest : List ℕ) → bs ≢ 9 ∷ rest) P → IfNone r (without_leading_spaces bs ≡ bs)
no_front bs P None space tab = front_kept bs space tab
no_front bs P (Some x) space tab = tt

pub no_end : (bs : List ℕ) (P : Bor (List ℕ) → Type 0) (r : Option (Bor (List ℕ))) → ((front : List ℕ) → bs ≢ front ++ 32 ∷ []) → MatchOption r ((front : List ℕ) → bs ≢ front ++ 9 ∷ []) P → IfNone r (without_trailing_spaces bs ≡ bs)
no_end bs P None space tab = end_kept bs space tab
no_end bs P (Some x) space tab = tt
