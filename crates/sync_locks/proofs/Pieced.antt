-- Lists in pieces, one piece after the other.
use Rattle.std.proofs.Common.{◌≡◌, ℕ, zero, suc, ◌+◌, ◌-◌, ◌<◌, ◌≤◌, length, get_or, take, drop, drop-cons, arith, List, [], ◌∷◌, ◌++◌, Option, Some, None, refl, sym, ap, ap₂, ◌∙◌}
use Rattle.std.specs.Prelude.{slice_get, slice_set}
use Rattle.std.specs.List.{insert, remove}
use Rattle.std.proofs.lemmas.List.{drop_all, append-nil, append_assoc, take-append-drop, set-append_left, set-append_right}
use Rattle.std.proofs.lemmas.List.Edits.{insert-append_left, insert-append_right, remove-append_left, remove-append_right}
use Rattle.sync_locks.specs.Inside.Pieces.{Piece, joined, put, taken, changed}

module _ {T : Type 0} where
  pub joined_more : (ps : List (Piece T)) (p : Piece T) → joined (ps ++ p ∷ []) ≡ joined ps ++ p.value.items
  joined_more [] p = append-nil p.value.items
  joined_more (q ∷ ps) p = ap (λ (xs : List T). q.value.items ++ xs) (joined_more ps p) ∙ sym (append_assoc q.value.items (joined ps) p.value.items)

  -- a piece, and those behind it
  pub joined_from : (ps : List (Piece T)) (i : ℕ) (p : Piece T) → i < length ps → p ≡ get_or ps i p → joined (drop i ps) ≡ p.value.items ++ joined (drop (i + 1) ps)
  joined_from ps i p lt is = ap joined (drop-cons ps i p lt ∙ ap (λ q. q ∷ drop (suc i) ps) (sym is)) ∙ ap (λ n. p.value.items ++ joined (drop n ps)) next
    where
      next : suc i ≡ i + 1
      next = omega arith

  pub joined_end : (ps : List (Piece T)) (i : ℕ) → length ps ≤ i → joined (drop i ps) ≡ []
  joined_end ps i end = ap joined (drop_all i ps end)

  -- ---- the number at a position

  get_first : (xs ys : List T) (i : ℕ) → i < length xs → slice_get (xs ++ ys) i ≡ slice_get xs i
  get_first [] ys i lt = absurd (omega (arith, lt))
  get_first (x ∷ xs) ys zero lt = refl
  get_first (x ∷ xs) ys (suc i) lt = get_first xs ys i (omega (arith, lt))

  get_behind : (xs ys : List T) (i n : ℕ) → i ≡ length xs + n → slice_get (xs ++ ys) i ≡ slice_get ys n
  get_behind [] ys i n is =
      let same : i ≡ n = omega (arith, is) in
      ap (λ j. slice_get ys j) same
  get_behind (x ∷ xs) ys zero n is = absurd (omega (arith, is))
  get_behind (x ∷ xs) ys (suc i) n is = get_behind xs ys i n (omega (arith, is))

  module _ (ps : List (Piece T)) (i : ℕ) (p : Piece T) (lt : i < length ps) (is : p ≡ get_or ps i p) (left : ℕ) where
    pub got_here : left < length p.value.items → slice_get (joined (drop i ps)) left ≡ slice_get p.value.items left
    got_here here = ap (λ (xs : List T). slice_get xs left) (joined_from ps i p lt is) ∙ get_first p.value.items (joined (drop (i + 1) ps)) left here

    pub got_behind : length p.value.items ≤ left → slice_get (joined (drop i ps)) left ≡ slice_get (joined (drop (i + 1) ps)) (left - length p.value.items)
    got_behind behind =
        ap (λ (xs : List T). slice_get xs left) (joined_from ps i p lt is)
        ∙ get_behind p.value.items (joined (drop (i + 1) ps)) left (left - length p.value.items) (omega (arith, behind))

  -- ---- a number put at a position of a list and more behind it, or taken away

  module _ (out after xs more : List T) where
    -- it is put into these
    pub put_here : (turn : ℕ) (x : T) → turn ≤ length xs → after ≡ out ++ insert xs turn x → after ++ more ≡ out ++ insert (xs ++ more) turn x
    put_here turn x le added =
        ap (λ (ys : List T). ys ++ more) added
        ∙ append_assoc out (insert xs turn x) more
        ∙ ap (λ (ys : List T). out ++ ys) (sym (insert-append_left xs more turn x le))

    -- it is put behind these
    pub put_later : (turn : ℕ) (x : T) → length xs ≤ turn → after ≡ out ++ xs → after ++ insert more (turn - length xs) x ≡ out ++ insert (xs ++ more) turn x
    put_later turn x from added =
        ap (λ (ys : List T). ys ++ insert more (turn - length xs) x) added
        ∙ append_assoc out xs (insert more (turn - length xs) x)
        ∙ ap (λ (ys : List T). out ++ ys) (sym (insert-append_right xs more (length xs) turn x refl from))

    pub taken_here : (turn : ℕ) → turn < length xs → after ≡ out ++ remove xs turn → after ++ more ≡ out ++ remove (xs ++ more) turn
    taken_here turn lt added =
        ap (λ (ys : List T). ys ++ more) added
        ∙ append_assoc out (remove xs turn) more
        ∙ ap (λ (ys : List T). out ++ ys) (sym (remove-append_left xs more turn lt))

    pub taken_later : (turn : ℕ) → length xs ≤ turn → after ≡ out ++ xs → after ++ remove more (turn - length xs) ≡ out ++ remove (xs ++ more) turn
    taken_later turn from added =
        ap (λ (ys : List T). ys ++ remove more (turn - length xs)) added
        ∙ append_assoc out xs (remove more (turn - length xs))
        ∙ ap (λ (ys : List T). out ++ ys) (sym (remove-append_right xs more (length xs) turn refl from))

    pub set_here : (turn : ℕ) (x : T) → turn < length xs → after ≡ out ++ slice_set xs turn x → after ++ more ≡ out ++ slice_set (xs ++ more) turn x
    set_here turn x lt added =
        ap (λ (ys : List T). ys ++ more) added
        ∙ append_assoc out (slice_set xs turn x) more
        ∙ ap (λ (ys : List T). out ++ ys) (sym (set-append_left xs more turn x lt))

    pub set_later : (turn : ℕ) (x : T) → length xs ≤ turn → after ≡ out ++ xs → after ++ slice_set more (turn - length xs) x ≡ out ++ slice_set (xs ++ more) turn x
    set_later turn x from added =
        ap (λ (ys : List T). ys ++ slice_set more (turn - length xs) x) added
        ∙ append_assoc out xs (slice_set more (turn - length xs) x)
        ∙ ap (λ (ys : List T). out ++ ys) (sym (set-append_right xs more (length xs) turn x refl from))

    -- it was put before, taken before, or set before
    pub done_before : after ≡ out ++ xs → after ++ more ≡ out ++ (xs ++ more)
    done_before added = ap (λ (ys : List T). ys ++ more) added ∙ append_assoc out xs more

  -- ---- piece by piece

  module _ (ps : List (Piece T)) (i : ℕ) (p : Piece T) (lt : i < length ps) (is : p ≡ get_or ps i p) (out after target : List T) where
    pub next_put : (left behind : Option ℕ) (x : T) → ((more : List T) → after ++ put more behind x ≡ out ++ put (p.value.items ++ more) left x) →
        out ++ put (joined (drop i ps)) left x ≡ target → after ++ put (joined (drop (i + 1) ps)) behind x ≡ target
    next_put left behind x step was = step (joined (drop (i + 1) ps)) ∙ ap (λ (ys : List T). out ++ put ys left x) (sym (joined_from ps i p lt is)) ∙ was

    pub next_taken : (left behind : Option ℕ) → ((more : List T) → after ++ taken more behind ≡ out ++ taken (p.value.items ++ more) left) →
        out ++ taken (joined (drop i ps)) left ≡ target → after ++ taken (joined (drop (i + 1) ps)) behind ≡ target
    next_taken left behind step was = step (joined (drop (i + 1) ps)) ∙ ap (λ (ys : List T). out ++ taken ys left) (sym (joined_from ps i p lt is)) ∙ was

  module _ (ps : List (Piece T)) (i : ℕ) (p : Piece T) (lt : i < length ps) (is : p ≡ get_or ps i p) (out after target : List T) where
    pub next_set : (left behind : Option ℕ) (x : T) → ((more : List T) → after ++ changed more behind x ≡ out ++ changed (p.value.items ++ more) left x) →
        out ++ changed (joined (drop i ps)) left x ≡ target → after ++ changed (joined (drop (i + 1) ps)) behind x ≡ target
    next_set left behind x step was = step (joined (drop (i + 1) ps)) ∙ ap (λ (ys : List T). out ++ changed ys left x) (sym (joined_from ps i p lt is)) ∙ was

  -- ---- behind all pieces

  pub put_alone : (i : ℕ) (x : T) → insert [] i x ≡ x ∷ []
  put_alone zero x = refl
  put_alone (suc i) x = refl

  none_taken : (left : Option ℕ) → taken {T = T} [] left ≡ []
  none_taken None = refl
  none_taken (Some zero) = refl
  none_taken (Some (suc i)) = refl

  none_set : (left : Option ℕ) (x : T) → changed [] left x ≡ []
  none_set None x = refl
  none_set (Some zero) x = refl
  none_set (Some (suc i)) x = refl

  module _ (ps : List (Piece T)) (i : ℕ) (end : length ps ≤ i) (out target : List T) where
    pub all_set : (left : Option ℕ) (x : T) → out ++ changed (joined (drop i ps)) left x ≡ target → out ≡ target
    all_set left x was =
        sym (append-nil out)
        ∙ ap (λ (ys : List T). out ++ ys) (sym (none_set left x))
        ∙ ap (λ (ys : List T). out ++ changed ys left x) (sym (joined_end ps i end))
        ∙ was

    pub all_put : (left : Option ℕ) (x : T) (after : List T) → after ≡ out ++ put [] left x → out ++ put (joined (drop i ps)) left x ≡ target → after ≡ target
    all_put left x after added was = added ∙ ap (λ (ys : List T). out ++ put ys left x) (sym (joined_end ps i end)) ∙ was

    pub all_taken : (left : Option ℕ) → out ++ taken (joined (drop i ps)) left ≡ target → out ≡ target
    all_taken left was =
        sym (append-nil out)
        ∙ ap (λ (ys : List T). out ++ ys) (sym (none_taken left))
        ∙ ap (λ (ys : List T). out ++ taken ys left) (sym (joined_end ps i end))
        ∙ was

  -- ---- a piece in two halves

  module _ (ps : List (Piece T)) (a b : Piece T) (xs front back : List T) (half turn : ℕ) (x : T) (is_front : front ≡ take half xs) (is_back : back ≡ drop half xs) where
    halves : front ++ back ≡ xs
    halves = ap₂ (λ ys zs. ys ++ zs) is_front is_back ∙ take-append-drop half xs

    both : joined ((ps ++ a ∷ []) ++ b ∷ []) ≡ joined ps ++ (a.value.items ++ b.value.items)
    both =
        joined_more (ps ++ a ∷ []) b
        ∙ ap (λ (ys : List T). ys ++ b.value.items) (joined_more ps a)
        ∙ append_assoc (joined ps) a.value.items b.value.items

    pub put_in_front : turn ≤ length front → a.value.items ≡ insert front turn x → b.value.items ≡ back → joined ((ps ++ a ∷ []) ++ b ∷ []) ≡ joined ps ++ insert xs turn x
    put_in_front le is_a is_b =
        both
        ∙ ap (λ (ys : List T). joined ps ++ ys)
        (ap₂ (λ ys zs. ys ++ zs) is_a is_b ∙ sym (insert-append_left front back turn x le) ∙ ap (λ (ys : List T). insert ys turn x) halves)

    pub put_in_back : length front ≡ half → half ≤ turn → a.value.items ≡ front → b.value.items ≡ insert back (turn - half) x → joined ((ps ++ a ∷ []) ++ b ∷ []) ≡ joined ps ++ insert xs turn x
    put_in_back long from is_a is_b =
        both
        ∙ ap (λ (ys : List T). joined ps ++ ys)
        (ap₂ (λ ys zs. ys ++ zs) is_a is_b ∙ sym (insert-append_right front back half turn x long from) ∙ ap (λ (ys : List T). insert ys turn x) halves)
