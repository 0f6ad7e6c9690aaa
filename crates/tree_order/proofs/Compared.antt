-- Two paths, compared selector by selector.
use Rattle.std.proofs.Common.{◌≡◌, ℕ, suc, ◌+◌, ◌<◌, ◌≤◌, length, get_or, drop, [], ◌∷◌, Bool, true, false, cond, refl, sym, ap, ap₂, ◌∙◌, drop-cons, arith}
use Rattle.std.proofs.lemmas.List.{drop_all}
use Rattle.tree_types.specs.declared.path.Sel.{Sel}
use Rattle.tree_types.specs.declared.path.Sel.TheVariants.{Main}
use Rattle.tree_types.specs.Places.{sel_eq}
use Rattle.meaning.specs.Answers.{Sels}
use Rattle.tree_order.specs.Order.{sel_before, path_before}

module _ (p q : Sels) (i : ℕ) (was : path_before (drop i p) (drop i q) ≡ path_before p q) where
  -- the one ends, and the other goes on
  pub ends_first : length p ≤ i → i < length q → true ≡ path_before p q
  ends_first end lt = sym (ap₂ path_before (drop_all i p end) (drop-cons q i Main lt)) ∙ was

  -- the other ends
  pub ends_behind : length q ≤ i → false ≡ path_before p q
  ends_behind end = before_nothing (drop i p) ∙ ap (path_before (drop i p)) (sym (drop_all i q end)) ∙ was
    where
      before_nothing : (r : Sels) → false ≡ path_before r []
      before_nothing [] = refl
      before_nothing (s ∷ r) = refl

  -- both go on
  module _ (s : Sel) (has : i < length p) (goes : i < length q) (is : s ≡ get_or p i s) where
    abbrev pub beside : Sel
    beside = get_or q i Main

    both : path_before p q ≡ cond (sel_eq s beside) (path_before (drop (suc i) p) (drop (suc i) q)) (sel_before s beside)
    both = sym was ∙ ap₂ path_before (drop-cons p i s has ∙ ap (λ (t : Sel). t ∷ drop (suc i) p) (sym is)) (drop-cons q i Main goes)

    by : (b : Bool) → sel_eq s beside ≡ b → path_before p q ≡ cond b (path_before (drop (suc i) p) (drop (suc i) q)) (sel_before s beside)
    by b e = both ∙ ap (λ (c : Bool). cond c (path_before (drop (suc i) p) (drop (suc i) q)) (sel_before s beside)) e

    pub differs : sel_eq s beside ≡ false → sel_before s beside ≡ path_before p q
    differs e = sym (by false e)

    pub agrees : sel_eq s beside ≡ true → path_before (drop (i + 1) p) (drop (i + 1) q) ≡ path_before p q
    agrees e =
        let next : i + 1 ≡ suc i = omega arith in
        ap (λ (n : ℕ). path_before (drop n p) (drop n q)) next ∙ sym (by true e)
