-- Paths that begin with others: what a path that changed is off of, and what it goes down to.
use Rattle.std.proofs.Common.{◌≡◌, refl, sym, ◌∙◌, ap, subst}
use Rattle.std.proofs.lemmas.List.{append_assoc}
use Rattle.std.specs.Prelude.{[], ◌∷◌, ◌++◌, Bool, true, false, ◌&&◌}
use Rattle.tree_types.specs.declared.path.Sel.{Sel}
use Rattle.tree_types.specs.Places.{sel_eq, sels_eq}
use Rattle.tree_types.proofs.Sels.{sel_is, sel_same, sels_are, sels_same}
use Rattle.meaning.specs.Answers.{Sels}
use Rattle.locality.specs.Paths.{begins_with, IsOff}

both_true : (a b : Bool) → (a && b) ≡ true → (a ≡ true) × (b ≡ true)
both_true true true e = (refl, refl)
both_true true false e = absurd (cc e)
both_true false b e = absurd (cc e)

-- what is not found to hold does not
not_true : (b : Bool) → (b ≡ true → ⊥) → b ≡ false
not_true true h = absurd (h refl)
not_true false h = refl

-- ---- selectors and paths that are found equal are equal

-- two selectors that differ are found to
pub sels_differ : (s t : Sel) → (s ≡ t → ⊥) → sel_eq s t ≡ false
sels_differ s t h = not_true (sel_eq s t) (λ e. h (sel_same s t e))

-- two paths are told apart either way round
pub apart_back : (p q : Sels) → sels_eq p q ≡ false → sels_eq q p ≡ false
apart_back p q e =
    not_true (sels_eq q p) (λ h. let same : q ≡ p = sels_same q p h in let is = sels_are p in cc (ap (sels_eq p) same, is, e))

-- ---- what a path begins with

pub begins_itself : (p : Sels) → begins_with p p ≡ true
begins_itself [] = refl
begins_itself (s ∷ p) = ap (λ (x : Bool). x && begins_with p p) (sel_is s) ∙ begins_itself p

pub begins_longer : (at rest : Sels) → begins_with (at ++ rest) at ≡ true
begins_longer [] rest = refl
begins_longer (s ∷ at) rest = ap (λ (x : Bool). x && begins_with (at ++ rest) at) (sel_is s) ∙ begins_longer at rest

-- with a path also with what the path begins with
pub begins_above : (p at more : Sels) → begins_with p (at ++ more) ≡ true → begins_with p at ≡ true
begins_above p [] more e = refl
begins_above [] (t ∷ at) more e = absurd (cc e)
begins_above (s ∷ p) (t ∷ at) more e =
    let two = both_true (sel_eq s t) (begins_with p (at ++ more)) e in λ i. two.0 i && begins_above p at more two.1 i

-- what stands behind the beginning
pub rest_of : (p at : Sels) → begins_with p at ≡ true → (rest : Sels) × (p ≡ at ++ rest)
rest_of p [] e = (p, refl)
rest_of [] (t ∷ at) e = absurd (cc e)
rest_of (s ∷ p) (t ∷ at) e =
    let two = both_true (sel_eq s t) (begins_with p at) e in
    let behind = rest_of p at two.1 in
    (behind.0, λ i. sel_same s t two.0 i ∷ behind.1 i)

-- ---- off a path

-- what is off a path is off each path below it
pub off_below : (changed at more : Sels) → IsOff changed at → IsOff changed (at ++ more)
off_below changed at more off =
    not_true (begins_with changed (at ++ more)) (λ e. let above = begins_above changed at more e in cc)

-- what is off a path is none of those at or below it
pub off_differs : (changed at q : Sels) → IsOff changed at → begins_with q at ≡ true → sels_eq q changed ≡ false
off_differs changed at q off below =
    not_true (sels_eq q changed) (λ e. let same : q ≡ changed = sels_same q changed e in cc (ap (λ (x : Sels). begins_with x at) same, off, below))

pub off_here : (changed at : Sels) → IsOff changed at → sels_eq at changed ≡ false
off_here changed at off = off_differs changed at at off (begins_itself at)

-- a path is off all that is below it
pub off_own_children : (at more : Sels) (t : Sel) → IsOff at (at ++ t ∷ more)
off_own_children [] more t = refl
off_own_children (s ∷ at) more t =
    ap (λ (x : Bool). x && begins_with at (at ++ t ∷ more)) (sel_is s) ∙ off_own_children at more t

-- a path that goes on with one selector is off what goes on with another
pub off_other_child : (at rest more : Sels) (s t : Sel) → sel_eq s t ≡ false → IsOff (at ++ s ∷ rest) (at ++ t ∷ more)
off_other_child [] rest more s t e = ap (λ (x : Bool). x && begins_with rest more) e
off_other_child (a ∷ at) rest more s t e =
    ap (λ (x : Bool). x && begins_with (at ++ s ∷ rest) (at ++ t ∷ more)) (sel_is a) ∙ off_other_child at rest more s t e

-- the same of a path that is only known by its beginning
pub off_but_child : (changed at more : Sels) (s t : Sel) → begins_with changed (at ++ s ∷ []) ≡ true → sel_eq s t ≡ false → IsOff changed (at ++ t ∷ more)
off_but_child changed at more s t begun e =
    let behind = rest_of changed (at ++ s ∷ []) begun in
    subst (λ (x : Sels). IsOff x (at ++ t ∷ more)) (sym (behind.1 ∙ append_assoc at (s ∷ []) behind.0)) (off_other_child at behind.0 more s t e)

-- nothing changes at a path by what changes below it
pub above_differs : (at rest : Sels) (s : Sel) → sels_eq at (at ++ s ∷ rest) ≡ false
above_differs [] rest s = refl
above_differs (a ∷ at) rest s = ap (λ (x : Bool). x && sels_eq at (at ++ s ∷ rest)) (sel_is a) ∙ above_differs at rest s
