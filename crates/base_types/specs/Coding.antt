-- Codes of values as trees of numbers, by which contracts tell apart the values of a data type that holds itself.
use Rattle.std.specs.Prelude.{◌≡◌, ℕ, List, [], ◌∷◌, refl}
use Rattle.std.proofs.Common.{ap, sym, ◌∙◌}
use base.Stored.{Gv, gnil, gnum, gcons, Coded}

-- a type whose values can be read back from trees has a code
abbrev pub coded_by_tree : {A : Type 0} (to : A → Gv) (back : Gv → A) → ((x : A) → back (to x) ≡ x) → Coded A
coded_by_tree to back undoes = record { code = to; inj = λ x y p. sym (undoes x) ∙ ap back p ∙ undoes y }

abbrev pub bytes_tree : List ℕ → Gv
bytes_tree [] = gnil
bytes_tree (b ∷ bs) = gcons (gnum b) (bytes_tree bs)

abbrev pub tree_bytes : Gv → List ℕ
tree_bytes (gcons (gnum b) g) = b ∷ tree_bytes g
tree_bytes _ = []

pub bytes_back : (bs : List ℕ) → tree_bytes (bytes_tree bs) ≡ bs
bytes_back [] = refl
bytes_back (b ∷ bs) = ap (λ xs. b ∷ xs) (bytes_back bs)
