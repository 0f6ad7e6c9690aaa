-- Spaces at the ends of a text.
use Rattle.std.proofs.Common.{◌≡◌, ◌≢◌, ℕ, true, false, List, [], ◌∷◌, ◌++◌, reverse, refl, sym, ap, ◌∙◌, inl, inr, append_assoc}
use Rattle.std.specs.List.{list_all}
use Rattle.std.proofs.lemmas.List.{reverse-append, reverse-reverse}
use Rattle.std.proofs.lemmas.Bool.{cases_Bool, and_parts, and_from}
use Rattle.base_types.specs.Bytes.{is_space}
use Rattle.tag_text.specs.Parts.{without_leading_spaces, without_trailing_spaces, trimmed, closing}
use Rattle.tag_text.specs.Spelling.{HasNoSpaceAtItsEnds, IsTagName, IsInside, LeadsTo}

pub skip_space : (b : ℕ) (bs : List ℕ) → is_space b ≡ true → without_leading_spaces (b ∷ bs) ≡ without_leading_spaces bs
skip_space b bs space = rw space refl

pub keep_other : (b : ℕ) (bs : List ℕ) → is_space b ≡ false → without_leading_spaces (b ∷ bs) ≡ b ∷ bs
keep_other b bs other = rw other refl

-- what is left begins with no space
left_first : (bs rest : List ℕ) (c : ℕ) → without_leading_spaces bs ≡ c ∷ rest → is_space c ≡ false
left_first [] rest c e = absurd (cc)
left_first (b ∷ bs) rest c e =
    elim (cases_Bool (is_space b)) [
      | inl space ↦ left_first bs rest c (sym (skip_space b bs space) ∙ e)
      | inr other ↦ let h : b ∷ bs ≡ c ∷ rest = sym (keep_other b bs other) ∙ e in let first : b ≡ c = cc in ap is_space (sym first) ∙ other
    ]

all_space : (b : ℕ) (bs : List ℕ) → is_space b ≡ true → list_all is_space bs ≡ true → list_all is_space (b ∷ bs) ≡ true
all_space b bs space rest = and_from (is_space b) (list_all is_space bs) space rest

all_first : (b : ℕ) (bs : List ℕ) → list_all is_space (b ∷ bs) ≡ true → is_space b ≡ true
all_first b bs all = (and_parts (is_space b) (list_all is_space bs) all).0

all_rest : (b : ℕ) (bs : List ℕ) → list_all is_space (b ∷ bs) ≡ true → list_all is_space bs ≡ true
all_rest b bs all = (and_parts (is_space b) (list_all is_space bs) all).1

all_append : (bs cs : List ℕ) → list_all is_space bs ≡ true → list_all is_space cs ≡ true → list_all is_space (bs ++ cs) ≡ true
all_append [] cs p q = q
all_append (b ∷ bs) cs p q = all_space b (bs ++ cs) (all_first b bs p) (all_append bs cs (all_rest b bs p) q)

all_reverse : (bs : List ℕ) → list_all is_space bs ≡ true → list_all is_space (reverse bs) ≡ true
all_reverse [] p = refl
all_reverse (b ∷ bs) p = rw (reverse-append (b ∷ []) bs) (all_append (reverse bs) (b ∷ []) (all_reverse bs (all_rest b bs p)) (all_space b [] (all_first b bs p) refl))

-- the spaces that were dropped in front
pub record Leads (bs kept : List ℕ) : Type 0 where
  pub front : List ℕ
  pub is : bs ≡ front ++ kept
  pub spaces : list_all is_space front ≡ true

leading : (bs : List ℕ) → Leads bs (without_leading_spaces bs)
leading [] = record { front = []; is = refl; spaces = refl }
leading (b ∷ bs) =
    elim (cases_Bool (is_space b)) [
      | inl space ↦ let h = leading bs in record { front = b ∷ h.front; is = ap (λ t. b ∷ t) h.is ∙ ap (λ t. b ∷ (h.front ++ t)) (sym (skip_space b bs space)); spaces = all_space b h.front space h.spaces }
      | inr other ↦ record { front = []; is = sym (keep_other b bs other); spaces = refl }
    ]

-- the spaces that were dropped behind
pub record Trails (bs kept : List ℕ) : Type 0 where
  pub back : List ℕ
  pub is : bs ≡ kept ++ back
  pub spaces : list_all is_space back ≡ true

trailing : (bs : List ℕ) → Trails bs (without_trailing_spaces bs)
trailing bs =
    let h = leading (reverse bs) in
    record {
      back = reverse h.front;
      is = sym (reverse-reverse bs) ∙ ap reverse h.is ∙ reverse-append h.front (without_leading_spaces (reverse bs));
      spaces = all_reverse h.front h.spaces;
    }

-- a trimmed text has no space at its ends
pub trimmed_ends : (bs : List ℕ) → HasNoSpaceAtItsEnds (trimmed bs)
trimmed_ends bs b space rest =
    let kept = without_leading_spaces bs in
    let h = trailing kept in (
      (λ e. let first : kept ≡ b ∷ (rest ++ h.back) = h.is ∙ ap (λ t. t ++ h.back) e in
          absurd (let other = left_first bs (rest ++ h.back) b first in cc)),
      (λ e. let last : without_leading_spaces (reverse kept) ≡ b ∷ reverse rest = sym (reverse-reverse (without_leading_spaces (reverse kept))) ∙ ap reverse e ∙ reverse-append rest (b ∷ []) in
          absurd (let other = left_first (reverse kept) (reverse rest) b last in cc)),
    )

-- what is inside a tag is its name between spaces
pub trimmed_inside : (inside : List ℕ) → LeadsTo closing inside → IsInside (trimmed inside) inside
trimmed_inside inside leads =
    let h = leading inside in
    let k = trailing (without_leading_spaces inside) in
    record {
      left = h.front;
      right = k.back;
      is = h.is ∙ ap (λ t. h.front ++ t) k.is ∙ sym (append_assoc h.front (trimmed inside) k.back);
      left_spaces = h.spaces;
      right_spaces = k.spaces;
      ends = leads;
    }

-- spaces in front of another byte are dropped
drops : (front bs : List ℕ) → list_all is_space front ≡ true → without_leading_spaces (front ++ bs) ≡ without_leading_spaces bs
drops [] bs all = refl
drops (b ∷ front) bs all = skip_space b (front ++ bs) (all_first b front all) ∙ drops front bs (all_rest b front all)

keeps : (bs : List ℕ) → ((b : ℕ) (rest : List ℕ) → bs ≡ b ∷ rest → is_space b ≡ false) → without_leading_spaces bs ≡ bs
keeps [] other = refl
keeps (b ∷ bs) other = keep_other b bs (other b bs refl)

other_first : (name : List ℕ) → HasNoSpaceAtItsEnds name → (b : ℕ) (rest : List ℕ) → name ≡ b ∷ rest → is_space b ≡ false
other_first name ends b rest e = elim (cases_Bool (is_space b)) [ inl space ↦ absurd ((ends b space rest).0 e) | inr other ↦ other ]

other_last : (name : List ℕ) → HasNoSpaceAtItsEnds name → (b : ℕ) (rest : List ℕ) → reverse name ≡ b ∷ rest → is_space b ≡ false
other_last name ends b rest e =
    elim (cases_Bool (is_space b)) [
      | inl space ↦ absurd ((ends b space (reverse rest)).1 (sym (reverse-reverse name) ∙ ap reverse e ∙ reverse-append (b ∷ []) rest))
      | inr other ↦ other
    ]

first_kept : (name right : List ℕ) → name ≢ [] → HasNoSpaceAtItsEnds name → without_leading_spaces (name ++ right) ≡ name ++ right
first_kept [] right some ends = absurd (some refl)
first_kept (c ∷ cs) right some ends = keep_other c (cs ++ right) (other_first (c ∷ cs) ends c cs refl)

-- and the name between spaces is what trimming leaves
pub trimmed_name : (name inside : List ℕ) → IsTagName name → IsInside name inside → trimmed inside ≡ name
trimmed_name name inside is_name is_inside =
    let left = is_inside.left in
    let right = is_inside.right in
    let whole : without_leading_spaces inside ≡ name ++ right =
    ap without_leading_spaces (is_inside.is ∙ append_assoc left name right)
    ∙ drops left (name ++ right) is_inside.left_spaces
    ∙ first_kept name right is_name.some is_name.trimmed in
    ap without_trailing_spaces whole
    ∙ ap (λ t. reverse (without_leading_spaces t)) (reverse-append name right)
    ∙ ap reverse (drops (reverse right) (reverse name) (all_reverse right is_inside.right_spaces) ∙ keeps (reverse name) (other_last name is_name.trimmed))
    ∙ reverse-reverse name
