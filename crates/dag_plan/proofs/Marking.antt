-- Which places are marked.
use Rattle.std.proofs.Common.{◌≡◌, ◌⊎◌, ℕ, ◌<◌, List, [], ◌∷◌, length, set, replicate, fold, Bool, true, false, refl, sym, ◌∙◌, subst, inl, inr, arith}
use Rattle.std.proofs.lemmas.Bool.{cases_lt}
use Rattle.std.proofs.lemmas.List.{length-set, length-replicate, get_or-set_same, get_or-set_other, get_or-replicate, get_or_past}
use Rattle.task_order.proofs.Among.{Among, same_or}
use Rattle.dag_plan.specs.Inside.Marks.{is_marked, marked}

pub marked_long : (marks : List Bool) (ps : List ℕ) → length (marked marks ps) ≡ length marks
marked_long marks [] = refl
marked_long marks (p ∷ ps) = marked_long (set marks p true) ps ∙ length-set marks p true

pub rows_long : (marks : List Bool) (rows : List (List ℕ)) → length (fold marked marks rows) ≡ length marks
rows_long marks [] = refl
rows_long marks (r ∷ rs) = rows_long (marked marks r) rs ∙ marked_long marks r

-- a marked place is within
pub marked_within : (marks : List Bool) (p : ℕ) → is_marked marks p ≡ true → p < length marks
marked_within marks p e =
    elim (cases_lt p (length marks)) [
      | inl below ↦ below
      | inr past ↦ absurd (let none : is_marked marks p ≡ false = get_or_past marks p false past in cc)
    ]

pub none_marked : (n p : ℕ) → is_marked (replicate n false) p ≡ false
none_marked n p =
    elim (cases_lt p n) [
      | inl below ↦ get_or-replicate n p false false below
      | inr past ↦ get_or_past (replicate n false) p false (let long : length (replicate n false) ≡ n = length-replicate n false in omega arith)
    ]

-- one more mark
one_stays : (marks : List Bool) (q p : ℕ) → is_marked marks p ≡ true → is_marked (set marks q true) p ≡ true
one_stays marks q p e =
    elim (same_or p q) [
      | inl same ↦ subst (λ x. is_marked (set marks q true) x ≡ true) (sym same) (get_or-set_same marks q true false (subst (λ x. x < length marks) same (marked_within marks p e)))
      | inr other ↦ get_or-set_other marks q p true false other ∙ e
    ]

one_only : (marks : List Bool) (q p : ℕ) → is_marked (set marks q true) p ≡ true → (is_marked marks p ≡ true) ⊎ (q ≡ p)
one_only marks q p e =
    elim (same_or p q) [
      | inl same ↦ inr (sym same)
      | inr other ↦ inl (sym (get_or-set_other marks q p true false other) ∙ e)
    ]

-- many
pub stays : (marks : List Bool) (ps : List ℕ) (p : ℕ) → is_marked marks p ≡ true → is_marked (marked marks ps) p ≡ true
stays marks [] p e = e
stays marks (q ∷ qs) p e = stays (set marks q true) qs p (one_stays marks q p e)

pub now_marked : (marks : List Bool) (ps : List ℕ) (p : ℕ) → p < length marks → Among p ps → is_marked (marked marks ps) p ≡ true
now_marked marks [] p below among = absurd among
now_marked marks (q ∷ qs) p below (inl same) =
    stays (set marks q true) qs p (subst (λ x. is_marked (set marks q true) x ≡ true) same (get_or-set_same marks q true false (subst (λ x. x < length marks) (sym same) below)))
now_marked marks (q ∷ qs) p below (inr later) =
    now_marked (set marks q true) qs p (let long : length (set marks q true) ≡ length marks = length-set marks q true in omega arith) later

pub only_these : (marks : List Bool) (ps : List ℕ) (p : ℕ) → is_marked (marked marks ps) p ≡ true → (is_marked marks p ≡ true) ⊎ Among p ps
only_these marks [] p e = inl e
only_these marks (q ∷ qs) p e =
    elim (only_these (set marks q true) qs p e) [
      | inl before ↦ first (one_only marks q p before)
      | inr later ↦ inr (inr later)
    ]
  where
    first : (is_marked marks p ≡ true) ⊎ (q ≡ p) → (is_marked marks p ≡ true) ⊎ Among p (q ∷ qs)
    first (inl before) = inl before
    first (inr same) = inr (inl same)

-- the rows' places
abbrev pub InSome : ℕ → List (List ℕ) → Type 0
InSome p [] = ⊥
InSome p (r ∷ rs) = Among p r ⊎ InSome p rs

pub rows_stay : (marks : List Bool) (rows : List (List ℕ)) (p : ℕ) → is_marked marks p ≡ true → is_marked (fold marked marks rows) p ≡ true
rows_stay marks [] p e = e
rows_stay marks (r ∷ rs) p e = rows_stay (marked marks r) rs p (stays marks r p e)

pub rows_marked : (marks : List Bool) (rows : List (List ℕ)) (p : ℕ) → p < length marks → InSome p rows → is_marked (fold marked marks rows) p ≡ true
rows_marked marks [] p below there = absurd there
rows_marked marks (r ∷ rs) p below (inl here) = rows_stay (marked marks r) rs p (now_marked marks r p below here)
rows_marked marks (r ∷ rs) p below (inr later) =
    rows_marked (marked marks r) rs p (let long : length (marked marks r) ≡ length marks = marked_long marks r in omega arith) later

pub only_rows : (marks : List Bool) (rows : List (List ℕ)) (p : ℕ) → is_marked (fold marked marks rows) p ≡ true → (is_marked marks p ≡ true) ⊎ InSome p rows
only_rows marks [] p e = inl e
only_rows marks (r ∷ rs) p e =
    elim (only_rows (marked marks r) rs p e) [
      | inl before ↦ first (only_these marks r p before)
      | inr later ↦ inr (inr later)
    ]
  where
    first : (is_marked marks p ≡ true) ⊎ Among p r → (is_marked marks p ≡ true) ⊎ InSome p (r ∷ rs)
    first (inl before) = inl before
    first (inr here) = inr (inl here)
