-- Lists in one order: what none of the first of the older one passes, none of the first of the newer one does.
use Rattle.std.proofs.Common.{◌≡◌, ℕ, suc, zero, ◌⊎◌, inl, inr, Bool, true, false, true≢false, cond, List, [], ◌∷◌, take, refl, sym, ap, ◌∙◌, subst, None, Some}
use Rattle.std.specs.List.{find}
use Rattle.growth.specs.Growth.{Among}

module _ {X : Type 0} (Before : X → X → Type 0) (apart : (x y : X) → Before x y → Before y x → ⊥) where
  -- each stands before those behind it
  abbrev pub Ordered : List X → Type 0
  Ordered [] = Unit {0}
  Ordered (x ∷ xs) = ((y : X) → Among y xs → Before x y) × Ordered xs

  itself : (x : X) → Before x x → ⊥
  itself x b = apart x x b b

  -- one that stands before all of these is none of them
  before_all : (x y : X) (ys : List X) → ((z : X) → Among z ys → Before y z) → Before x y → Among x (y ∷ ys) → ⊥
  before_all x y ys first b (inl e) = itself x (subst (λ (z : X). Before x z) e b)
  before_all x y ys first b (inr h) = apart x y b (first x h)

  module _ (passes : X → Bool) where
    abbrev pub None_of : ℕ → List X → Type 0
    None_of n xs = find passes (take n xs) ≡ None

    first_off : (x : X) (xs : List X) (b : Bool) → cond b (Some x) (find passes xs) ≡ None → b ≡ false
    first_off x xs true e = absurd (cc)
    first_off x xs false e = refl

    others_off : (x : X) (xs : List X) (b : Bool) → cond b (Some x) (find passes xs) ≡ None → find passes xs ≡ None
    others_off x xs true e = absurd (cc)
    others_off x xs false e = e

    with_first : (x : X) (xs : List X) → passes x ≡ false → find passes xs ≡ None → find passes (x ∷ xs) ≡ None
    with_first x xs off e = ap (λ (b : Bool). cond b (Some x) (find passes xs)) off ∙ e

    fewer : (n : ℕ) (xs : List X) → None_of (suc n) xs → None_of n xs
    fewer zero xs e = refl
    fewer (suc n) [] e = refl
    fewer (suc n) (x ∷ xs) e =
        with_first x (take n xs) (first_off x (take (suc n) xs) (passes x) e) (fewer n xs (others_off x (take (suc n) xs) (passes x) e))

    -- a new one does not pass
    abbrev pub NewOff : List X → List X → Type 0
    NewOff newer older = (w : X) → Among w newer → (Among w older → ⊥) → passes w ≡ false

    -- the same beside an older one that does not pass
    off_beside : (a : X) (older newer : List X) → passes a ≡ false → NewOff newer (a ∷ older) → NewOff newer older
    off_beside a older newer off new w h not = by (passes w) refl
      where
        old : passes w ≡ true → Among w (a ∷ older) → ⊥
        old is (inl e) = true≢false (sym is ∙ ap passes (sym e) ∙ off)
        old is (inr i) = not i

        by : (b : Bool) → passes w ≡ b → passes w ≡ false
        by false is = is
        by true is = new w h (old is)

    behind_same : (a y : X) (older newer : List X) → y ≡ a → ((z : X) → Among z newer → Before y z) → NewOff (y ∷ newer) (a ∷ older) → NewOff newer older
    behind_same a y older newer same first new w h not = new w (inr h) old
      where
        old : Among w (a ∷ older) → ⊥
        old (inl e) = itself y (subst (λ (z : X). Before y z) (sym e ∙ sym same) (first w h))
        old (inr i) = not i

    behind_new : (y : X) (older newer : List X) → NewOff (y ∷ newer) older → NewOff newer older
    behind_new y older newer new w h not = new w (inr h) not

    -- each older one is gone or left
    abbrev pub Leaves : (X → Type 0) → List X → List X → Type 0
    Leaves Gone newer older = (w : X) → Among w older → Gone w ⊎ Among w newer

    module _ (Gone : X → Type 0) (a y : X) (older newer : List X) where
      leaves_same : y ≡ a → ((z : X) → Among z older → Before a z) → Leaves Gone (y ∷ newer) (a ∷ older) → Leaves Gone newer older
      leaves_same same first left w h = by (left w (inr h))
        where
          by : Gone w ⊎ Among w (y ∷ newer) → Gone w ⊎ Among w newer
          by (inl g) = inl g
          by (inr (inl e)) = absurd (itself a (subst (λ (z : X). Before a z) (sym e ∙ same) (first w h)))
          by (inr (inr i)) = inr i

      leaves_new : (Among y (a ∷ older) → ⊥) → Leaves Gone (y ∷ newer) (a ∷ older) → Leaves Gone newer (a ∷ older)
      leaves_new not left w h = by (left w h)
        where
          by : Gone w ⊎ Among w (y ∷ newer) → Gone w ⊎ Among w newer
          by (inl g) = inl g
          by (inr (inl e)) = absurd (not (subst (λ (z : X). Among z (a ∷ older)) (sym e) h))
          by (inr (inr i)) = inr i

      -- the first of the newer ones is the first of the older ones, or a new one
      first_by : ((z : X) → Among z older → Before a z) → ((z : X) → Among z newer → Before y z) → passes a ≡ false →
          NewOff (y ∷ newer) (a ∷ older) → Leaves Gone (y ∷ newer) (a ∷ older) → (n : ℕ) →
          (Leaves Gone newer older → NewOff newer older → None_of n newer) →
          (Leaves Gone newer (a ∷ older) → NewOff newer (a ∷ older) → None_of n newer) →
          Among a (y ∷ newer) → None_of (suc n) (y ∷ newer)
      first_by first behind off new left n same other (inl e) =
          with_first y (take n newer) (ap passes e ∙ off) (same (leaves_same e first left) (behind_same a y older newer e behind new))
      first_by first behind off new left n same other (inr h) =
          let not = before_all y a older first (behind a h) in
          with_first y (take n newer) (new y (inl refl) not) (other (leaves_new not left) (behind_new y (a ∷ older) newer new))

    -- ---- where all older ones are left

    abbrev None_gone : X → Type 0
    None_gone w = ⊥

    left_over : (w : X) (newer : List X) → ⊥ ⊎ Among w newer → Among w newer
    left_over w newer (inl g) = absurd g
    left_over w newer (inr h) = h

    all_left : (n : ℕ) (older newer : List X) → Ordered older → Ordered newer → Leaves None_gone newer older → NewOff newer older → None_of n older → None_of n newer
    all_left zero older newer o p left new e = refl
    all_left (suc n) older [] o p left new e = refl
    all_left (suc n) [] (y ∷ ys) o p left new e =
        with_first y (take n ys) (new y (inl refl) (λ h. h)) (all_left n [] ys tt p.1 (λ w h. absurd h) (behind_new y [] ys new) (fewer n [] e))
    all_left (suc n) (a ∷ xs) (y ∷ ys) o p left new e =
        first_by None_gone a y xs ys o.0 p.0 (first_off a (take n xs) (passes a) e) new left n
        (λ l m. all_left n xs ys o.1 p.1 l m (others_off a (take n xs) (passes a) e))
        (λ l m. all_left n (a ∷ xs) ys o p.1 l m (fewer n (a ∷ xs) e))
        (left_over a (y ∷ ys) (left a (inl refl)))

    -- ---- where one at the most is gone

    without : (gone a : X) (older newer : List X) → gone ≡ a → ((z : X) → Among z older → Before a z) → Leaves (λ w. gone ≡ w) newer (a ∷ older) → Leaves None_gone newer older
    without gone a older newer is first left w h = by (left w (inr h))
      where
        by : (gone ≡ w) ⊎ Among w newer → ⊥ ⊎ Among w newer
        by (inl e) = absurd (itself a (subst (λ (z : X). Before a z) (sym e ∙ is) (first w h)))
        by (inr i) = inr i

    one_by : {A B C : Type 0} → (A → C) → (B → C) → A ⊎ B → C
    one_by f g (inl x) = f x
    one_by f g (inr x) = g x

    pub front_left : (gone : X) (n : ℕ) (older newer : List X) → Ordered older → Ordered newer → Leaves (λ w. gone ≡ w) newer older → NewOff newer older → None_of (suc n) older → None_of n newer
    front_left gone zero older newer o p left new e = refl
    front_left gone (suc n) older [] o p left new e = refl
    front_left gone (suc n) [] (y ∷ ys) o p left new e = all_left (suc n) [] (y ∷ ys) tt p (λ w h. absurd h) new refl
    front_left gone (suc n) (a ∷ xs) (y ∷ ys) o p left new e =
        let off = first_off a (take (suc n) xs) (passes a) e in
        let rest = others_off a (take (suc n) xs) (passes a) e in
        one_by
        (λ is. all_left (suc n) xs (y ∷ ys) o.1 p (without gone a xs (y ∷ ys) is o.0 left) (off_beside a xs (y ∷ ys) off new) rest)
        (first_by (λ w. gone ≡ w) a y xs ys o.0 p.0 off new left n
        (λ l m. front_left gone n xs ys o.1 p.1 l m rest)
        (λ l m. front_left gone n (a ∷ xs) ys o p.1 l m (fewer (suc n) (a ∷ xs) e)))
        (left a (inl refl))
