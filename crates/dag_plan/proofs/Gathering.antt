-- The rows that name a place, gathered one after the other.
use Rattle.std.proofs.Common.{◌≡◌, ◌≢◌, ℕ, zero, suc, ◌+◌, ◌-◌, ◌<◌, ◌≤◌, ◌==◌, List, [], ◌∷◌, ◌++◌, length, get_or, replicate, take, Bool, true, false, ◌||◌, cond, refl, sym, ap, ◌∙◌, subst, inl, inr, arith}
use Rattle.std.proofs.Math.Seq.{take-suc}
use Rattle.std.specs.Prelude.{nat_lt}
use Rattle.std.specs.List.{All, AllPairs}
use Rattle.std.proofs.lemmas.Bool.{cases_lt, cases_eq, lt-ltb, le-ltb, eq-eqb, ne_eqb, and_from, and_left, and_right, or_left, or_right, or_from, cond_both, cond-true, cond-false}
use Rattle.std.proofs.lemmas.List.{length-set, length_push, length-take-le, get_or_push, get_or-replicate, get_or-set_same, get_or-set_other}
use Rattle.std.proofs.lemmas.List.Elements.{All-nil, All-cons, All-weaker}
use Rattle.dag_plan.specs.Plans.{has_place, rows_with}
use Rattle.dag_plan.specs.Inside.Behind.{ends_with, with_last, noted, row_noted}

-- ---- a number at the end of a list

-- one number more at the end, where a test says so
abbrev tailed : Bool → List ℕ → ℕ → List ℕ
tailed b xs n = cond b (xs ++ n ∷ []) xs

ends : (xs : List ℕ) (n : ℕ) → ends_with (xs ++ n ∷ []) n ≡ true
ends xs n =
    let long : length (xs ++ n ∷ []) ≡ length xs + 1 = length_push xs n in
    and_from (nat_lt 0 (length (xs ++ n ∷ []))) (get_or (xs ++ n ∷ []) (length (xs ++ n ∷ []) - 1) 0 == n)
    (lt-ltb 0 (length (xs ++ n ∷ [])) (omega arith))
    (eq-eqb (get_or (xs ++ n ∷ []) (length (xs ++ n ∷ []) - 1) 0) n (get_or_push xs n 0 (length (xs ++ n ∷ []) - 1) (omega arith)))

-- a list of lower numbers does not
lower_ends : (xs : List ℕ) (n : ℕ) → All (λ k. k < n) xs → ends_with xs n ≡ false
lower_ends xs n lower =
    elim (cases_lt 0 (length xs)) [
      | inl some ↦
          let low : get_or xs (length xs - 1) 0 < n = lower (length xs - 1) 0 (omega arith) in
          and_right (nat_lt 0 (length xs)) (get_or xs (length xs - 1) 0 == n) (ne_eqb (get_or xs (length xs - 1) 0) n (λ same. omega arith))
      | inr none ↦ and_left (nat_lt 0 (length xs)) (get_or xs (length xs - 1) 0 == n) (le-ltb 0 (length xs) none)
    ]

with_last_is : (b : Bool) (xs : List ℕ) (n : ℕ) → All (λ k. k < n) xs → with_last (tailed b xs n) n ≡ xs ++ n ∷ []
with_last_is true xs n lower = cond-true (ends_with (xs ++ n ∷ []) n) (xs ++ n ∷ []) ((xs ++ n ∷ []) ++ n ∷ []) (ends xs n)
with_last_is false xs n lower = cond-false (ends_with xs n) xs (xs ++ n ∷ []) (lower_ends xs n lower)

-- ---- a row that is noted

pub noted_long : (n : ℕ) (lists : List (List ℕ)) (p : ℕ) → length (noted n lists p) ≡ length lists
noted_long n lists p = length-set lists p (with_last (get_or lists p []) n)

pub row_noted_long : (n : ℕ) (lists : List (List ℕ)) (ps : List ℕ) → length (row_noted n lists ps) ≡ length lists
row_noted_long n lists [] = refl
row_noted_long n lists (p ∷ ps) = row_noted_long n (noted n lists p) ps ∙ noted_long n lists p

or_nothing : (b : Bool) → (b || false) ≡ b
or_nothing true = refl
or_nothing false = refl

noted_at :
    (n : ℕ) (ps : List ℕ) (lists : List (List ℕ)) (p : ℕ) (xs : List ℕ) (b : Bool) → p < length lists → All (λ k. k < n) xs →
    get_or lists p [] ≡ tailed b xs n → get_or (row_noted n lists ps) p [] ≡ tailed (b || has_place p ps) xs n
noted_at n [] lists p xs b low lower is = is ∙ ap (λ (t : Bool). tailed t xs n) (sym (or_nothing b))
noted_at n (q ∷ qs) lists p xs b low lower is =
    let long : length (noted n lists q) ≡ length lists = noted_long n lists q in
    elim (cases_eq q p) [
      | inl same ↦
          let here : get_or (noted n lists p) p [] ≡ xs ++ n ∷ [] =
          get_or-set_same lists p (with_last (get_or lists p []) n) [] low ∙ ap (λ (ys : List ℕ). with_last ys n) is ∙ with_last_is b xs n lower in
          noted_at n qs (noted n lists q) p xs true (omega arith) lower
          (subst (λ (x : ℕ). get_or (noted n lists x) p [] ≡ xs ++ n ∷ []) (sym same) here)
          ∙ ap (λ (t : Bool). tailed t xs n)
          (sym (or_right b ((q == p) || has_place p qs) (or_left (q == p) (has_place p qs) (eq-eqb q p same))))
      | inr other ↦
          noted_at n qs (noted n lists q) p xs b (omega arith) lower
          (get_or-set_other lists q p (with_last (get_or lists q []) n) [] (λ same. other (sym same)) ∙ is)
          ∙ ap (λ (t : Bool). tailed (b || (t || has_place p qs)) xs n) (sym (ne_eqb q p other))
    ]

-- ---- one row more

tailed_more :
    (b h : Bool) (i n : ℕ) (xs : List ℕ) → cond b (i ∷ tailed h xs n) (tailed h xs n) ≡ tailed h (cond b (i ∷ xs) xs) n
tailed_more true true i n xs = refl
tailed_more true false i n xs = refl
tailed_more false true i n xs = refl
tailed_more false false i n xs = refl

last_row :
    (p i : ℕ) (rows : List (List ℕ)) (row : List ℕ) →
    rows_with p i (rows ++ row ∷ []) ≡ tailed (has_place p row) (rows_with p i rows) (i + length rows)
last_row p i [] row =
    let none : i ≡ i + 0 = omega arith in
    ap (λ (k : ℕ). cond (has_place p row) (k ∷ []) []) none
last_row p i (r ∷ rs) row =
    let one : suc i + length rs ≡ i + suc (length rs) = omega arith in
    ap (λ (ks : List ℕ). cond (has_place p r) (i ∷ ks) ks) (last_row p (suc i) rs row)
    ∙ tailed_more (has_place p r) (has_place p row) i (suc i + length rs) (rows_with p (suc i) rs)
    ∙ ap (λ (k : ℕ). tailed (has_place p row) (cond (has_place p r) (i ∷ rows_with p (suc i) rs) (rows_with p (suc i) rs)) k) one

-- ---- how large the numbers are

pub rows_below : (p i : ℕ) (rows : List (List ℕ)) → All (λ k. k < i + length rows) (rows_with p i rows)
rows_below p i [] = All-nil (λ k. k < i + 0)
rows_below p i (r ∷ rs) =
    let later = All-weaker (λ k. k < suc i + length rs) (λ k. k < i + suc (length rs)) (λ k low. omega arith) (rows_with p (suc i) rs)
    (rows_below p (suc i) rs) in
    cond_both (has_place p r) (i ∷ rows_with p (suc i) rs) (rows_with p (suc i) rs) (All (λ k. k < i + suc (length rs)))
    (λ e. All-cons (λ k. k < i + suc (length rs)) i (rows_with p (suc i) rs) (omega arith) later) (λ e. later)

rows_above : (p i : ℕ) (rows : List (List ℕ)) → All (λ k. i ≤ k) (rows_with p i rows)
rows_above p i [] = All-nil (λ k. i ≤ k)
rows_above p i (r ∷ rs) =
    let later = All-weaker (λ k. suc i ≤ k) (λ k. i ≤ k) (λ k low. omega arith) (rows_with p (suc i) rs) (rows_above p (suc i) rs) in
    cond_both (has_place p r) (i ∷ rows_with p (suc i) rs) (rows_with p (suc i) rs) (All (λ k. i ≤ k))
    (λ e. All-cons (λ k. i ≤ k) i (rows_with p (suc i) rs) (omega arith) later) (λ e. later)

first_apart : (x : ℕ) (xs : List ℕ) → All (λ k. suc x ≤ k) xs → AllPairs ◌≢◌ xs → AllPairs ◌≢◌ (x ∷ xs)
first_apart x xs above apart zero zero d lt low = absurd (omega arith)
first_apart x xs above apart zero (suc k) d lt low = λ same. (let higher : suc x ≤ get_or xs k d = above k d (omega arith) in omega arith)
first_apart x xs above apart (suc i) zero d lt low = absurd (omega arith)
first_apart x xs above apart (suc i) (suc k) d lt low = apart i k d (omega arith) (omega arith)

pub rows_apart : (p i : ℕ) (rows : List (List ℕ)) → AllPairs ◌≢◌ (rows_with p i rows)
rows_apart p i [] = λ j k d lt low. absurd (omega arith)
rows_apart p i (r ∷ rs) =
    let later = rows_apart p (suc i) rs in
    cond_both (has_place p r) (i ∷ rows_with p (suc i) rs) (rows_with p (suc i) rs) (AllPairs ◌≢◌)
    (λ e. first_apart i (rows_with p (suc i) rs) (rows_above p (suc i) rs) later) (λ e. later)

-- ---- which rows are among them

lower_absent : (p i n : ℕ) (rows : List (List ℕ)) → n < i → has_place n (rows_with p i rows) ≡ false
lower_absent p i n [] low = refl
lower_absent p i n (r ∷ rs) low =
    let later = lower_absent p (suc i) n rs (omega arith) in
    cond_both (has_place p r) (i ∷ rows_with p (suc i) rs) (rows_with p (suc i) rs) (λ ks. has_place n ks ≡ false)
    (λ e. or_from (i == n) (has_place n (rows_with p (suc i) rs)) (ne_eqb i n (λ same. omega arith)) later) (λ e. later)

first_has : (b : Bool) (i : ℕ) (ks : List ℕ) → has_place i ks ≡ false → has_place i (cond b (i ∷ ks) ks) ≡ b
first_has true i ks absent = or_left (i == i) (has_place i ks) (eq-eqb i i refl)
first_has false i ks absent = absent

later_has : (b : Bool) (i n : ℕ) (ks : List ℕ) → i < n → has_place n (cond b (i ∷ ks) ks) ≡ has_place n ks
later_has true i n ks low = ap (λ (t : Bool). t || has_place n ks) (ne_eqb i n (λ same. omega arith))
later_has false i n ks low = refl

pub rows_have : (p i k : ℕ) (rows : List (List ℕ)) → has_place (i + k) (rows_with p i rows) ≡ has_place p (get_or rows k [])
rows_have p i k [] = refl
rows_have p i zero (r ∷ rs) =
    let none : i + 0 ≡ i = omega arith in
    ap (λ (n : ℕ). has_place n (cond (has_place p r) (i ∷ rows_with p (suc i) rs) (rows_with p (suc i) rs))) none
    ∙ first_has (has_place p r) i (rows_with p (suc i) rs) (lower_absent p (suc i) i rs (omega arith))
rows_have p i (suc k) (r ∷ rs) =
    let one : i + suc k ≡ suc i + k = omega arith in
    later_has (has_place p r) i (i + suc k) (rows_with p (suc i) rs) (omega arith)
    ∙ ap (λ (n : ℕ). has_place n (rows_with p (suc i) rs)) one
    ∙ rows_have p (suc i) k rs

-- ---- the lists behind some rows

pub none_gathered :
    (rows lists : List (List ℕ)) → lists ≡ replicate (length rows) [] →
    (p : ℕ) → p < length rows → get_or lists p [] ≡ rows_with p 0 (take 0 rows)
none_gathered rows lists is p low = ap (λ (ls : List (List ℕ)). get_or ls p []) is ∙ get_or-replicate (length rows) p [] [] low

module _ (rows : List (List ℕ)) (i : ℕ) (lt : i < length rows) where
  front_long : length (take i rows) ≡ i
  front_long = length-take-le i rows (omega arith)

  row_more : (p : ℕ) → rows_with p 0 (take (suc i) rows) ≡ tailed (has_place p (get_or rows i [])) (rows_with p 0 (take i rows)) i
  row_more p =
      let at : 0 + length (take i rows) ≡ i = omega (arith, front_long) in
      ap (rows_with p 0) (take-suc rows i [] lt)
      ∙ last_row p 0 (take i rows) (get_or rows i [])
      ∙ ap (λ (k : ℕ). tailed (has_place p (get_or rows i [])) (rows_with p 0 (take i rows)) k) at

  pub gathered_more :
      (lists : List (List ℕ)) → length lists ≡ length rows →
      ((p : ℕ) → p < length rows → get_or lists p [] ≡ rows_with p 0 (take i rows)) →
      (p : ℕ) → p < length rows → get_or (row_noted i lists (get_or rows i [])) p [] ≡ rows_with p 0 (take (suc i) rows)
  gathered_more lists long each p low =
      noted_at i (get_or rows i []) lists p (rows_with p 0 (take i rows)) false (omega arith)
      (All-weaker (λ k. k < 0 + length (take i rows)) (λ k. k < i) (λ k below. omega (arith, front_long)) (rows_with p 0 (take i rows))
      (rows_below p 0 (take i rows)))
      (each p low)
      ∙ sym (row_more p)
