-- Places in a list that is kept in chunks.
use Rattle.std.proofs.Common.{◌≡◌, ℕ, zero, suc, ◌+◌, ◌-◌, ◌*◌, ◌<◌, ◌≤◌, List, [], ◌∷◌, ◌++◌, length, get_or, set, take, refl, sym, ◌∙◌, ap, ap₂, arith, append_assoc, length-append}
use Rattle.std.specs.Prelude.{slice_get}
use Rattle.std.proofs.lemmas.List.{append-nil, set-append_left, set-append_right}
use Rattle.std.proofs.Math.Seq.{take-append-add}
use Rattle.std.proofs.lemmas.List.{take-append-le}
use Rattle.sharing.specs.Inside.Chunks.{joined, items_of, EachLong}

module _ {X : Type 0} where
  -- ---- what stands before and behind

  slice_get-append_left : (xs ys : List X) (i : ℕ) → i < length xs → slice_get (xs ++ ys) i ≡ slice_get xs i
  slice_get-append_left [] ys i h = absurd (omega arith)
  slice_get-append_left (x ∷ xs) ys zero h = refl
  slice_get-append_left (x ∷ xs) ys (suc i) h = slice_get-append_left xs ys i (omega arith)

  slice_get-append_right : (xs ys : List X) (n i : ℕ) → length xs ≡ n → n ≤ i → slice_get (xs ++ ys) i ≡ slice_get ys (i - n)
  slice_get-append_right [] ys n i e h = ap (slice_get ys) (omega arith)
  slice_get-append_right (x ∷ xs) ys n zero e h = absurd (omega arith)
  slice_get-append_right (x ∷ xs) ys n (suc i) e h =
      slice_get-append_right xs ys (n - 1) i (omega arith) (omega arith) ∙ ap (slice_get ys) (omega arith)

  -- ---- the chunks that are full

  pub length-joined : (n : ℕ) (cs : List (List X)) → EachLong n cs → length (joined cs) ≡ length cs * n
  length-joined n [] each = omega arith
  length-joined n (c ∷ cs) each = omega (arith, length-append c (joined cs), length-joined n cs each.1, each.0)

  pub joined-append : (cs ds : List (List X)) → joined (cs ++ ds) ≡ joined cs ++ joined ds
  joined-append [] ds = refl
  joined-append (c ∷ cs) ds = ap (λ (xs : List X). c ++ xs) (joined-append cs ds) ∙ sym (append_assoc c (joined cs) (joined ds))

  -- the last chunk becomes one of the others
  pub joined-push : (cs : List (List X)) (c : List X) → joined (cs ++ c ∷ []) ≡ joined cs ++ c
  joined-push cs c = joined-append cs (c ∷ []) ∙ ap (λ (xs : List X). joined cs ++ xs) (append-nil c)

  pub each-long-push : (n : ℕ) (cs : List (List X)) (c : List X) → EachLong n cs → length c ≡ n → EachLong n (cs ++ c ∷ [])
  each-long-push n [] c each e = (e, tt)
  each-long-push n (d ∷ cs) c each e = (each.0, each-long-push n cs c each.1 e)

  pub each-long-set : (n : ℕ) (cs : List (List X)) (q : ℕ) (c : List X) → EachLong n cs → length c ≡ n → EachLong n (set cs q c)
  each-long-set n [] q c each e = tt
  each-long-set n (d ∷ cs) zero c each e = (e, each.1)
  each-long-set n (d ∷ cs) (suc q) c each e = (each.0, each-long-set n cs q c each.1 e)

  pub each-long-take : (n : ℕ) (cs : List (List X)) (q : ℕ) → EachLong n cs → EachLong n (take q cs)
  each-long-take n cs zero each = tt
  each-long-take n [] (suc q) each = tt
  each-long-take n (d ∷ cs) (suc q) each = (each.0, each-long-take n cs q each.1)

  pub long-at : (n : ℕ) (cs : List (List X)) (q : ℕ) → EachLong n cs → q < length cs → length (get_or cs q []) ≡ n
  long-at n [] q each h = absurd (omega arith)
  long-at n (c ∷ cs) zero each h = each.0
  long-at n (c ∷ cs) (suc q) each h = long-at n cs q each.1 (omega arith)

  -- ---- the item of place r in chunk q

  pub get_in_full : (n : ℕ) (cs : List (List X)) (last : List X) (q r i : ℕ) → EachLong n cs → q < length cs → r < n → i ≡ q * n + r → slice_get (items_of cs last) i ≡ slice_get (get_or cs q []) r
  get_in_full n [] last q r i each h k e = absurd (omega arith)
  get_in_full n (c ∷ cs) last zero r i each h k e =
      ap (λ (xs : List X). slice_get xs i) (append_assoc c (joined cs) last) ∙ slice_get-append_left c (joined cs ++ last) i (omega (arith, each.0)) ∙ ap (slice_get c) (omega arith)
  get_in_full n (c ∷ cs) last (suc q) r i each h k e =
      let past : i - n ≡ q * n + r = omega arith in
      ap (λ (xs : List X). slice_get xs i) (append_assoc c (joined cs) last) ∙ slice_get-append_right c (joined cs ++ last) n i each.0 (omega arith) ∙ get_in_full n cs last q r (i - n) each.1 (omega arith) k past

  pub get_in_last : (n : ℕ) (cs : List (List X)) (last : List X) (i : ℕ) → EachLong n cs → length cs * n ≤ i → slice_get (items_of cs last) i ≡ slice_get last (i - length cs * n)
  get_in_last n cs last i each h = slice_get-append_right (joined cs) last (length cs * n) i (length-joined n cs each) h

  pub set_in_full : (n : ℕ) (cs : List (List X)) (last : List X) (q r i : ℕ) (x : X) → EachLong n cs → q < length cs → r < n → i ≡ q * n + r → items_of (set cs q (set (get_or cs q []) r x)) last ≡ set (items_of cs last) i x
  set_in_full n [] last q r i x each h k e = absurd (omega arith)
  set_in_full n (c ∷ cs) last zero r i x each h k e =
      let here : i ≡ r = omega arith in
      append_assoc (set c r x) (joined cs) last ∙ sym (ap₂ (λ (xs : List X) (j : ℕ). set xs j x) (append_assoc c (joined cs) last) here ∙ set-append_left c (joined cs ++ last) r x (omega (arith, each.0)))
  set_in_full n (c ∷ cs) last (suc q) r i x each h k e =
      let past : i - n ≡ q * n + r = omega arith in
      append_assoc c (joined (set cs q (set (get_or cs q []) r x))) last ∙ ap (λ (xs : List X). c ++ xs) (set_in_full n cs last q r (i - n) x each.1 (omega arith) k past) ∙ sym (ap (λ (xs : List X). set xs i x) (append_assoc c (joined cs) last) ∙ set-append_right c (joined cs ++ last) n i x each.0 (omega arith))

  pub set_in_last : (n : ℕ) (cs : List (List X)) (last : List X) (i : ℕ) (x : X) → EachLong n cs → length cs * n ≤ i → items_of cs (set last (i - length cs * n) x) ≡ set (items_of cs last) i x
  set_in_last n cs last i x each h = sym (set-append_right (joined cs) last (length cs * n) i x (length-joined n cs each) h)

  -- ---- the first items

  take-append_right : (xs ys : List X) (n i : ℕ) → length xs ≡ n → n ≤ i → take i (xs ++ ys) ≡ xs ++ take (i - n) ys
  take-append_right xs ys n i e h =
      ap (λ (j : ℕ). take j (xs ++ ys)) (omega arith) ∙ take-append-add xs ys (i - n)

  pub take_in_full : (n : ℕ) (cs : List (List X)) (last : List X) (q r i : ℕ) → EachLong n cs → q < length cs → r < n → i ≡ q * n + r → items_of (take q cs) (take r (get_or cs q [])) ≡ take i (items_of cs last)
  take_in_full n [] last q r i each h k e = absurd (omega arith)
  take_in_full n (c ∷ cs) last zero r i each h k e =
      let here : i ≡ r = omega arith in
      sym (ap₂ (λ (xs : List X) (j : ℕ). take j xs) (append_assoc c (joined cs) last) here ∙ take-append-le r c (joined cs ++ last) (omega (arith, each.0)))
  take_in_full n (c ∷ cs) last (suc q) r i each h k e =
      let past : i - n ≡ q * n + r = omega arith in
      append_assoc c (joined (take q cs)) (take r (get_or cs q [])) ∙ ap (λ (xs : List X). c ++ xs) (take_in_full n cs last q r (i - n) each.1 (omega arith) k past) ∙ sym (ap (take i) (append_assoc c (joined cs) last) ∙ take-append_right c (joined cs ++ last) n i each.0 (omega arith))

  pub take_in_last : (n : ℕ) (cs : List (List X)) (last : List X) (i : ℕ) → EachLong n cs → length cs * n ≤ i → items_of cs (take (i - length cs * n) last) ≡ take i (items_of cs last)
  take_in_last n cs last i each h = sym (take-append_right (joined cs) last (length cs * n) i (length-joined n cs each) h)
