-- One mark more.
use Rattle.std.proofs.Common.{◌≡◌, ◌≢◌, ◌⊎◌, inl, inr, ℕ, zero, suc, List, [], ◌∷◌, Bool, true, false, ◌&&◌, get_or, set, replicate, refl, sym, ap, ◌∙◌, subst}
use Rattle.std.specs.List.{list_all}
use Rattle.dag_stays.specs.Unmoved.{is_marked, AreApart}

pub both : (a b : Bool) → (a && b) ≡ true → (a ≡ true) × (b ≡ true)
both true b e = (refl, e)
both false b e = absurd (cc)

and_of : (a b : Bool) → a ≡ true → b ≡ true → (a && b) ≡ true
and_of true b d e = e
and_of false b d e = absurd (cc)

still : (marks : List Bool) (i p : ℕ) → is_marked marks p ≡ true → is_marked (set marks i true) p ≡ true
still [] i p e = e
still (b ∷ bs) zero zero e = refl
still (b ∷ bs) zero (suc p) e = e
still (b ∷ bs) (suc i) zero e = e
still (b ∷ bs) (suc i) (suc p) e = still bs i p e

came : (marks : List Bool) (i p : ℕ) → is_marked (set marks i true) p ≡ true → (p ≡ i) ⊎ (is_marked marks p ≡ true)
came [] i p e = inr e
came (b ∷ bs) zero zero e = inl refl
came (b ∷ bs) zero (suc p) e = inr e
came (b ∷ bs) (suc i) zero e = inr e
came (b ∷ bs) (suc i) (suc p) e = next (came bs i p e)
  where
    next : (p ≡ i) ⊎ (is_marked bs p ≡ true) → (suc p ≡ suc i) ⊎ (is_marked bs p ≡ true)
    next (inl same) = inl (ap suc same)
    next (inr on) = inr on

all_still : (marks : List Bool) (i : ℕ) (ps : List ℕ) → list_all (is_marked marks) ps ≡ true → list_all (is_marked (set marks i true)) ps ≡ true
all_still marks i [] e = refl
all_still marks i (p ∷ ps) e =
    let parts = both (is_marked marks p) (list_all (is_marked marks) ps) e in
    and_of (is_marked (set marks i true) p) (list_all (is_marked (set marks i true)) ps) (still marks i p parts.0) (all_still marks i ps parts.1)

pub one_more : (rows : List (List ℕ)) (j i : ℕ) (marks : List Bool) → AreApart rows j marks → i ≢ j → list_all (is_marked marks) (get_or rows i []) ≡ true → AreApart rows j (set marks i true)
one_more rows j i marks apart differ all = record {
  other = λ p on. others p (came marks i p on);
  above = λ p on. aboves p (came marks i p on);
}
  where
    others : (p : ℕ) → (p ≡ i) ⊎ (is_marked marks p ≡ true) → p ≢ j
    others p (inl same) = subst (λ (x : ℕ). x ≢ j) (sym same) differ
    others p (inr on) = apart.other p on

    aboves : (p : ℕ) → (p ≡ i) ⊎ (is_marked marks p ≡ true) → list_all (is_marked (set marks i true)) (get_or rows p []) ≡ true
    aboves p (inl same) = all_still marks i (get_or rows p []) (ap (λ (x : ℕ). list_all (is_marked marks) (get_or rows x [])) same ∙ all)
    aboves p (inr on) = all_still marks i (get_or rows p []) (apart.above p on)

none_marked : (n p : ℕ) → is_marked (replicate n false) p ≡ false
none_marked zero p = refl
none_marked (suc n) zero = refl
none_marked (suc n) (suc p) = none_marked n p

pub at_first : (rows : List (List ℕ)) (j n : ℕ) → AreApart rows j (replicate n false)
at_first rows j n = record {
  other = λ p on. absurd (none p on);
  above = λ p on. absurd (none p on);
}
  where
    none : (p : ℕ) → is_marked (replicate n false) p ≡ true → ⊥
    none p on = let off = none_marked n p in cc (on, off)
