-- Lists of what is left: all of a kind, less once fewer are left, and without those at the front that are done.
use Rattle.std.proofs.Common.{◌≡◌, ℕ, ◌+◌, ◌<◌, Bool, true, false, true≢false, cond, ◌&&◌, List, [], ◌∷◌, length, drop, get_or, refl, sym, ap, ◌∙◌, subst, Option, Some, None}
use Rattle.std.specs.List.{find, filter}
use Rattle.std.proofs.lemmas.List.{drop_more}
use Rattle.tree_types.specs.declared.want.Want.{Want}
use Rattle.tree_state.specs.declared.kinds.WantKind.{WantKind}
use Rattle.tree_state.specs.Asking.{is_of}
use Rattle.ahead.specs.Left.{IsAhead, AheadOf, FindsBy}

-- ---- all of a kind

module _ (k : WantKind) (t : Want → Bool) where
  found_by : (x : Want) (xs : List Want) (b : Bool) → is_of k x ≡ b → find t (filter (is_of k) xs) ≡ find (λ a. is_of k a && t a) xs → find t (cond b (x ∷ filter (is_of k) xs) (filter (is_of k) xs)) ≡ cond (b && t x) (Some x) (find (λ a. is_of k a && t a) xs)
  found_by x xs true is rest = ap (cond (t x) (Some x)) rest
  found_by x xs false is rest = rest

  pub found_of : (ws : List Want) → find t (filter (is_of k) ws) ≡ find (λ a. is_of k a && t a) ws
  found_of [] = refl
  found_of (x ∷ xs) = found_by x xs (is_of k x) refl (found_of xs)

-- whatever is left, all of the kind are ahead
pub all_ahead : (k : WantKind) (left : Want → Bool) (all ws : List Want) → all ≡ filter (is_of k) ws → IsAhead k left all ws
all_ahead k left all ws is = record {
  finds = λ sought more. ap (find sought) is ∙ found_of k sought ws;
}

-- ---- fewer are left

fewer : (k : WantKind) (left now : Want → Bool) (ahead ws : List Want) → ((a : Want) → now a ≡ true → left a ≡ true) → IsAhead k left ahead ws → IsAhead k now ahead ws
fewer k left now ahead ws more is = record { finds = λ sought among. is.finds sought (λ a e. more a (among a e)) }

pub fewer_left : (k : WantKind) (left now : Want → Bool) (o : Option (List Want)) (ws : List Want) → ((a : Want) → now a ≡ true → left a ≡ true) → AheadOf k left o ws → AheadOf k now o ws
fewer_left k left now o ws more is = record { fits = λ ahead known. fewer k left now ahead ws more (is.fits ahead known) }

-- ---- a list that is known, and none

pub known_ahead : (k : WantKind) (left : Want → Bool) (all ws : List Want) → IsAhead k left all ws → AheadOf k left (Some all) ws
known_ahead k left all ws is = record {
  fits = λ ahead known. let same : all ≡ ahead = cc in subst (λ (xs : List Want). IsAhead k left xs ws) same is;
}

pub none_known : (k : WantKind) (left : Want → Bool) (o : Option (List Want)) (ws : List Want) → o ≡ None → AheadOf k left o ws
none_known k left o ws none = record { fits = λ ahead known. let no : None ≡ Some ahead = sym none ∙ known in absurd (cc) }

-- ---- the first is done

module _ (k : WantKind) (left : Want → Bool) (x : Want) (xs ws : List Want) (done : left x ≡ false) where
  off : (sought : Want → Bool) (b : Bool) → sought x ≡ b → (b ≡ true → left x ≡ true) → sought x ≡ false
  off sought true e more = absurd (true≢false (sym (more refl) ∙ done))
  off sought false e more = e

  passed_by : (sought : Want → Bool) → ((a : Want) → sought a ≡ true → left a ≡ true) → find sought xs ≡ find sought (x ∷ xs)
  passed_by sought more = sym (ap (λ (b : Bool). cond b (Some x) (find sought xs)) (off sought (sought x) refl (λ e. more x e)))

  pub past_first : IsAhead k left (x ∷ xs) ws → IsAhead k left xs ws
  past_first is = record { finds = λ sought more. passed_by sought more ∙ is.finds sought more }

pub past_here :
    (k : WantKind) (left : Want → Bool) (xs ws : List Want) (i : ℕ) (d : Want) → i < length xs → left (get_or xs i d) ≡ false →
    IsAhead k left (drop i xs) ws → IsAhead k left (drop (i + 1) xs) ws
past_here k left xs ws i d lt done is =
    past_first k left (get_or xs i d) (drop (i + 1) xs) ws done (subst (λ (ys : List Want). IsAhead k left ys ws) (drop_more xs i d lt) is)

-- ---- nothing is left

pub none_ahead : (k : WantKind) (left : Want → Bool) (ws : List Want) → find (λ a. is_of k a && left a) ws ≡ None → IsAhead k left [] ws
none_ahead k left ws none = record { finds = λ sought more. sym (lacks_also sought more ws none) }
  where
    by : (sought : Want → Bool) (x : Want) (xs : List Want) (b c d : Bool) → (d ≡ true → c ≡ true) → cond (b && c) (Some x) (find (λ a. is_of k a && left a) xs) ≡ None → (find (λ a. is_of k a && left a) xs ≡ None → find (λ a. is_of k a && sought a) xs ≡ None) → cond (b && d) (Some x) (find (λ a. is_of k a && sought a) xs) ≡ None
    by sought x xs true true d more lacks rest = absurd (cc)
    by sought x xs true false true more lacks rest = absurd (true≢false (sym (more refl)))
    by sought x xs true false false more lacks rest = rest lacks
    by sought x xs false c d more lacks rest = rest lacks

    lacks_also : (sought : Want → Bool) → ((a : Want) → sought a ≡ true → left a ≡ true) → (xs : List Want) → find (λ a. is_of k a && left a) xs ≡ None → find (λ a. is_of k a && sought a) xs ≡ None
    lacks_also sought more [] lacks = refl
    lacks_also sought more (x ∷ xs) lacks = by sought x xs (is_of k x) (left x) (sought x) (more x) lacks (lacks_also sought more xs)

pub none_left : (k : WantKind) (left : Want → Bool) (ws : List Want) → IsAhead k left [] ws → find (λ a. is_of k a && left a) ws ≡ None
none_left k left ws is = sym (is.finds left (λ a e. e))

-- ---- what is sought among what is left

pub finds_among : (k : WantKind) (left sought : Want → Bool) (o : Option (List Want)) (ws : List Want) → ((a : Want) → sought a ≡ true → left a ≡ true) → AheadOf k left o ws → FindsBy k sought o ws
finds_among k left sought o ws more is = record { finds = λ ahead known. (is.fits ahead known).finds sought more }
