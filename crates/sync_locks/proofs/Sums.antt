-- What is summed over the places of the requests that stand so, and lists that have just these places.
use Rattle.std.proofs.Common.{◌≡◌, ℕ, zero, suc, ◌+◌, ◌<◌, ◌≤◌, ◌==◌, Bool, true, false, cond, List, [], ◌∷◌, ◌++◌, length, get_or, set, eq-eqb, Option, Some, None, refl, sym, ◌∙◌, ap, subst, arith}
use Rattle.std.specs.Prelude.{slice_get}
use Rattle.std.specs.List.{sum_by, Contains, insert, remove}
use Rattle.std.proofs.lemmas.Bool.{eqb-true}
use Rattle.std.proofs.lemmas.List.Sums.{sum_by-cons, sum_by_push, sum_by-insert, sum_by-remove, sum_by-set, get_or-le-sum_by}
use Rattle.books.specs.declared.Request.{Request}
use Rattle.books.specs.declared.LockState.{LockState}
use Rattle.sync_locks.specs.Inside.Rows.{passes}
use Rattle.sync_locks.specs.Inside.Queues.{sum_from, Lists}
use Rattle.sync_locks.proofs.Stands.{some_same}

-- ---- numbers

none_first : (x y : ℕ) → x ≡ y → x + 0 ≡ 0 + y
none_first x y e = omega (arith, e)

behind_first : (p s s' a b : ℕ) → s ≡ s' + a → a ≡ b → p + s ≡ (p + s') + b
behind_first p s s' a b e f = omega (arith, e, f)

swapped : (x y x' y' s : ℕ) → x' ≡ x → y' ≡ y → (x + s) + y' ≡ (y + s) + x'
swapped x y x' y' s e f = omega (arith, e, f)

both_behind : (p s t a b a' b' : ℕ) → s + a ≡ t + b → a ≡ a' → b ≡ b' → (p + s) + a' ≡ (p + t) + b'
both_behind p s t a b a' b' e f g = omega (arith, e, f, g)

next_here : (here i : ℕ) → suc here + i ≡ here + suc i
next_here here i = omega arith

first_here : (here : ℕ) → here + 0 ≡ here
first_here here = omega arith

-- ---- sums over requests

module _ (so : LockState → Bool) (w : ℕ → ℕ) where
  -- what one that stands in a state adds
  abbrev adds : LockState → ℕ → ℕ
  adds s n = cond (so s) (w n) 0

  sum_more : (here : ℕ) (rs : List Request) (r : Request) → sum_from so w here (rs ++ r ∷ []) ≡ sum_from so w here rs + adds r.state (here + length rs)
  sum_more here [] r = none_first (adds r.state here) (adds r.state (here + 0)) (ap (adds r.state) (sym (first_here here)))
  sum_more here (q ∷ rs) r =
      behind_first (adds q.state here) (sum_from so w (suc here) (rs ++ r ∷ [])) (sum_from so w (suc here) rs) (adds r.state (suc here + length rs)) (adds r.state (here + suc (length rs)))
      (sum_more (suc here) rs r)
      (ap (adds r.state) (next_here here (length rs)))

  sum_set :
      (here : ℕ) (rs : List Request) (i : ℕ) (q r : Request) → slice_get rs i ≡ Some r →
      sum_from so w here (set rs i q) + adds r.state (here + i) ≡ sum_from so w here rs + adds q.state (here + i)
  sum_set here [] i q r e = absurd (cc e)
  sum_set here (p ∷ rs) zero q r e =
      swapped (adds q.state here) (adds p.state here) (adds q.state (here + 0)) (adds r.state (here + 0)) (sum_from so w (suc here) rs)
      (ap (adds q.state) (first_here here))
      (ap (adds r.state) (first_here here) ∙ ap (λ (x : Request). adds x.state here) (sym (some_same p r e)))
  sum_set here (p ∷ rs) (suc i) q r e =
      both_behind (adds p.state here) (sum_from so w (suc here) (set rs i q)) (sum_from so w (suc here) rs) (adds r.state (suc here + i)) (adds q.state (suc here + i)) (adds r.state (here + suc i)) (adds q.state (here + suc i))
      (sum_set (suc here) rs i q r e)
      (ap (adds r.state) (next_here here i))
      (ap (adds q.state) (next_here here i))

  sum_part : (here : ℕ) (rs : List Request) (i : ℕ) (r : Request) → slice_get rs i ≡ Some r → adds r.state (here + i) ≤ sum_from so w here rs
  sum_part here [] i r e = absurd (cc e)
  sum_part here (p ∷ rs) zero r e = part (adds p.state here) (adds r.state (here + 0)) (sum_from so w (suc here) rs) (ap (adds r.state) (first_here here) ∙ ap (λ (x : Request). adds x.state here) (sym (some_same p r e)))
    where
      part : (x y s : ℕ) → y ≡ x → y ≤ x + s
      part x y s f = omega (arith, f)
  sum_part here (p ∷ rs) (suc i) r e = part (adds p.state here) (adds r.state (suc here + i)) (adds r.state (here + suc i)) (sum_from so w (suc here) rs) (sum_part (suc here) rs i r e) (ap (adds r.state) (next_here here i))
    where
      part : (x y z s : ℕ) → y ≤ s → y ≡ z → z ≤ x + s
      part x y z s h f = omega (arith, h, f)

  sum_none : (here : ℕ) (rs : List Request) → ((i : ℕ) (r : Request) → slice_get rs i ≡ Some r → so r.state ≡ true → w (here + i) ≡ 0) → sum_from so w here rs ≡ 0
  sum_none here [] h = refl
  sum_none here (r ∷ rs) h =
      none (adds r.state here) (sum_from so w (suc here) rs) (by (so r.state) refl)
      (sum_none (suc here) rs (λ i q e t. ap w (next_here here i) ∙ h (suc i) q e t))
    where
      none : (x s : ℕ) → x ≡ 0 → s ≡ 0 → x + s ≡ 0
      none x s e f = omega (arith, e, f)

      by : (b : Bool) → so r.state ≡ b → cond b (w here) 0 ≡ 0
      by true t = ap w (sym (first_here here)) ∙ h 0 r refl t
      by false t = refl

-- ---- what is listed

contains_hit : (i : ℕ) (places : List ℕ) → 1 ≤ sum_by (λ n. cond (n == i) 1 0) places → Contains places i
contains_hit i [] h = let none : 1 ≤ 0 = h in absurd (omega arith)
contains_hit i (x ∷ xs) h = by (x == i) refl (subst (λ n. 1 ≤ n) (sum_by-cons (λ n. cond (n == i) 1 0) x xs) h) (λ k. contains_hit i xs k)
  where
    beyond : Contains xs i → Contains (x ∷ xs) i
    beyond rest = (suc rest.0, (let within = rest.1 in omega (arith, within)), rest.2)

    by : (b : Bool) → (x == i) ≡ b → 1 ≤ cond b 1 0 + sum_by (λ n. cond (n == i) 1 0) xs → (1 ≤ sum_by (λ n. cond (n == i) 1 0) xs → Contains xs i) → Contains (x ∷ xs) i
    by true e k ih = (0, (omega arith), eqb-true x i e)
    by false e k ih = beyond (ih (let more : 1 ≤ 0 + sum_by (λ n. cond (n == i) 1 0) xs = k in omega (arith, more)))

pub pass_there : (test : Request → Bool) (o : Option Request) → passes test o ≡ true → (r : Request) × (o ≡ Some r) × (test r ≡ true)
pass_there test None e = absurd (cc e)
pass_there test (Some r) e = (r, refl, e)

adds_one : (so : LockState → Bool) (r : Request) → so r.state ≡ true → (w : ℕ → ℕ) (n : ℕ) → cond (so r.state) (w (0 + n)) 0 ≡ w n
adds_one so r t w n = ap (λ (b : Bool). cond b (w (0 + n)) 0) t ∙ ap w (let z : 0 + n ≡ n = omega arith in z)

adds_none : (so : LockState → Bool) (r : Request) → so r.state ≡ false → (w : ℕ → ℕ) (n : ℕ) → cond (so r.state) (w (0 + n)) 0 ≡ 0
adds_none so r f w n = ap (λ (b : Bool). cond b (w (0 + n)) 0) f

module _ (so : LockState → Bool) (places : List ℕ) (rs : List Request) (lists : Lists so places rs) where
  -- one that stands so is listed
  pub is_listed : (i : ℕ) (r : Request) → slice_get rs i ≡ Some r → so r.state ≡ true → Contains places i
  is_listed i r e t =
      contains_hit i places (once (sum_by hit places) (sum_from so hit 0 rs) (cond (so r.state) (hit (0 + i)) 0) (lists hit) (sum_part so hit 0 rs i r e) counts)
    where
      hit : ℕ → ℕ
      hit n = cond (n == i) 1 0

      counts : cond (so r.state) (hit (0 + i)) 0 ≡ 1
      counts = ap (λ (b : Bool). cond b (hit (0 + i)) 0) t ∙ ap (λ (n : ℕ). cond (n == i) 1 0) (let z : 0 + i ≡ i = omega arith in z) ∙ ap (λ (b : Bool). cond b 1 0) (eq-eqb i i refl)

      once : (x y z : ℕ) → x ≡ y → z ≤ y → z ≡ 1 → 1 ≤ x
      once x y z f g h = omega (arith, f, g, h)

  -- what is listed stands so
  pub listed_stands : (k d : ℕ) → k < length places → (r : Request) × (slice_get rs (get_or places k d) ≡ Some r) × (so r.state ≡ true)
  listed_stands k d h =
      pass_there stands (slice_get rs (get_or places k d))
      (passing (passes stands (slice_get rs (get_or places k d)))
      (within (wrong (get_or places k d)) (sum_by wrong places) (sum_from so wrong 0 rs) (get_or-le-sum_by wrong places k d h) (lists wrong) none))
    where
      stands : Request → Bool
      stands r = so r.state

      wrong : ℕ → ℕ
      wrong n = cond (passes stands (slice_get rs n)) 0 1

      none : sum_from so wrong 0 rs ≡ 0
      none = sum_none so wrong 0 rs (λ i r e t. ap wrong (let z : 0 + i ≡ i = omega arith in z) ∙ ap (λ (o : Option Request). cond (passes stands o) 0 1) e ∙ ap (λ (b : Bool). cond b 0 1) t)

      within : (x y z : ℕ) → x ≤ y → y ≡ z → z ≡ 0 → x ≤ 0
      within x y z f g h = omega (arith, f, g, h)

      passing : (b : Bool) → cond b 0 1 ≤ 0 → b ≡ true
      passing true e = refl
      passing false e = absurd (omega arith)

  -- ---- a request more, or in another state

  pub listed_skips : (r : Request) → so r.state ≡ false → Lists so places (rs ++ r ∷ [])
  listed_skips r f w =
      more (sum_by w places) (sum_from so w 0 rs) (sum_from so w 0 (rs ++ r ∷ [])) (cond (so r.state) (w (0 + length rs)) 0)
      (lists w) (sum_more so w 0 rs r) (ap (λ (b : Bool). cond b (w (0 + length rs)) 0) f)
    where
      more : (x y z a : ℕ) → x ≡ y → z ≡ y + a → a ≡ 0 → x ≡ z
      more x y z a e g h = omega (arith, e, g, h)

  pub listed_at_end : (r : Request) → so r.state ≡ true → Lists so (places ++ length rs ∷ []) (rs ++ r ∷ [])
  listed_at_end r t w =
      more (sum_by w places) (sum_from so w 0 rs) (sum_by w (places ++ length rs ∷ [])) (sum_from so w 0 (rs ++ r ∷ [])) (w (length rs)) (cond (so r.state) (w (0 + length rs)) 0)
      (lists w) (sum_by_push w places (length rs)) (sum_more so w 0 rs r) (adds_one so r t w (length rs))
    where
      more : (x y x' y' a b : ℕ) → x ≡ y → x' ≡ x + a → y' ≡ y + b → b ≡ a → x' ≡ y'
      more x y x' y' a b e f g h = omega (arith, e, f, g, h)

  pub listed_in_turn : (turn : ℕ) (r : Request) → so r.state ≡ true → Lists so (insert places turn (length rs)) (rs ++ r ∷ [])
  listed_in_turn turn r t w =
      more (sum_by w places) (sum_from so w 0 rs) (sum_by w (insert places turn (length rs))) (sum_from so w 0 (rs ++ r ∷ [])) (w (length rs)) (cond (so r.state) (w (0 + length rs)) 0)
      (lists w) (sum_by-insert w places turn (length rs)) (sum_more so w 0 rs r) (adds_one so r t w (length rs))
    where
      more : (x y x' y' a b : ℕ) → x ≡ y → x' ≡ x + a → y' ≡ y + b → b ≡ a → x' ≡ y'
      more x y x' y' a b e f g h = omega (arith, e, f, g, h)

  pub listed_same : (i : ℕ) (q r : Request) → slice_get rs i ≡ Some r → so r.state ≡ false → so q.state ≡ false → Lists so places (set rs i q)
  listed_same i q r e f g w =
      same (sum_by w places) (sum_from so w 0 rs) (sum_from so w 0 (set rs i q)) (cond (so r.state) (w (0 + i)) 0) (cond (so q.state) (w (0 + i)) 0)
      (lists w) (sum_set so w 0 rs i q r e) (adds_none so r f w i) (adds_none so q g w i)
    where
      same : (x y z a b : ℕ) → x ≡ y → z + a ≡ y + b → a ≡ 0 → b ≡ 0 → x ≡ z
      same x y z a b h k l m = omega (arith, h, k, l, m)

  -- one that stood so does so no longer
  pub listed_less : (i k : ℕ) (q r : Request) → slice_get rs i ≡ Some r → k < length places → get_or places k i ≡ i → so r.state ≡ true → so q.state ≡ false → Lists so (remove places k) (set rs i q)
  listed_less i k q r e h at t f w =
      less (sum_by w places) (sum_from so w 0 rs) (sum_by w (remove places k)) (sum_from so w 0 (set rs i q)) (w (get_or places k i)) (w i) (cond (so r.state) (w (0 + i)) 0) (cond (so q.state) (w (0 + i)) 0)
      (lists w) (sum_by-remove w places k i h) (sum_set so w 0 rs i q r e) (ap w at) (adds_one so r t w i) (adds_none so q f w i)
    where
      less : (x y x' y' a b c d : ℕ) → x ≡ y → x' + a ≡ x → y' + c ≡ y + d → a ≡ b → c ≡ b → d ≡ 0 → x' ≡ y'
      less x y x' y' a b c d l m n o p u = omega (arith, l, m, n, o, p, u)

-- one comes to stand so, in place of one that was taken out
pub listed_instead : (so : LockState → Bool) (places : List ℕ) (rs : List Request) (i k : ℕ) (q r : Request) → k < length places → Lists so (remove places k) rs → slice_get rs i ≡ Some r → so r.state ≡ false → so q.state ≡ true → Lists so (set places k i) (set rs i q)
listed_instead so places rs i k q r h lists e f t w =
    more (sum_by w places) (sum_by w (remove places k)) (sum_by w (set places k i)) (sum_from so w 0 rs) (sum_from so w 0 (set rs i q)) (w (get_or places k i)) (w i) (cond (so r.state) (w (0 + i)) 0) (cond (so q.state) (w (0 + i)) 0)
    (lists w) (sum_by-remove w places k i h) (sum_by-set w places k i i h) (sum_set so w 0 rs i q r e)
    (adds_none so r f w i) (adds_one so q t w i)
  where
    more : (x x' x'' y y' a b c d : ℕ) → x' ≡ y → x' + a ≡ x → x'' + a ≡ x + b → y' + c ≡ y + d → c ≡ 0 → d ≡ b → x'' ≡ y'
    more x x' x'' y y' a b c d l m n o p u = omega (arith, l, m, n, o, p, u)
