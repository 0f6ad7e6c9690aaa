-- Values in scopes, as a map keeps them.
use Rattle.std.proofs.Common.{◌≡◌, ℕ, zero, suc, ◌+◌, Bool, true, false, cond, List, [], ◌∷◌, ◌++◌, drop, Option, Some, None, MatchOption, Result, Ok, Err, IfOk, String, string_bytes, Bor, refl, sym, ap, ◌∙◌, inl, inr, arith}
use Rattle.std.specs.Prelude.{bytes_eq, codes, slice_get, if◌then◌else◌}
use Rattle.std.specs.Option.{option_copied}
use Rattle.std.specs.Map.{lookup}
use Rattle.std.proofs.lemmas.Bool.{cases_Bool, false_from_ne_true}
use Rattle.std.proofs.lemmas.Bool.Decides.{same_from_decides, Decides-like}
use Rattle.std.proofs.lemmas.List.{append-nil}
use Rattle.std.proofs.lemmas.Slice.Eq.{bytes_eq-Decides}
use Rattle.indexmap.specs.IndexMap.{insert_entry}
use Rattle.tree_types.specs.declared.outcome.Param.{Param}
use Rattle.scopes.specs.Inside.Entries.{shown}
use Rattle.scopes.specs.Substitution.{Scope, value_in, parameter_tags, workflow_tags, input_tags}
use Rattle.scopes.specs.Values.{HasValuesOf}

bytes_eq-comm : (a b : List ℕ) → bytes_eq a b ≡ bytes_eq b a
bytes_eq-comm a b = same_from_decides (bytes_eq a b) (bytes_eq b a) (bytes_eq-Decides a b) (Decides-like (bytes_eq b a) sym sym (bytes_eq-Decides b a))

-- a value in a scope is what the map has there
value_is_lookup : {Y : Type 0} (entries : List (String Y × List ℕ)) (tag : List ℕ) → value_in (shown entries) tag ≡ lookup (λ k. bytes_eq tag (string_bytes k)) entries
value_is_lookup [] tag = refl
value_is_lookup (e ∷ es) tag =
    ap (λ b. cond b (Some e.1) (value_in (shown es) tag)) (bytes_eq-comm (string_bytes e.0) tag)
    ∙ ap (λ o. cond (bytes_eq tag (string_bytes e.0)) (Some e.1) o) (value_is_lookup es tag)

copied_cases : (r : Option (Bor (List ℕ))) (o : Option (List ℕ)) → option_copied r ≡ o → MatchOption r (o ≡ None) (λ v. o ≡ Some v.now)
copied_cases None o e = sym e
copied_cases (Some v) o e = sym e

-- what a look-up in the map answers
pub value_found : {Y : Type 0} (entries : List (String Y × List ℕ)) (scope : Scope) (tag : List ℕ) (r : Option (Bor (List ℕ))) → shown entries ≡ scope → option_copied r ≡ lookup (λ k. bytes_eq tag (string_bytes k)) entries
    → MatchOption r (value_in scope tag ≡ None) (λ v. value_in scope tag ≡ Some v.now)
value_found entries scope tag r is e = copied_cases r (value_in scope tag) (e ∙ sym (value_is_lookup entries tag) ∙ ap (λ (s : Scope). value_in s tag) is)

if_true : {A : Type 0} (b : Bool) (x y : A) → b ≡ true → (if b then x else y) ≡ x
if_true b x y e = rw e refl

if_false : {A : Type 0} (b : Bool) (x y : A) → b ≡ false → (if b then x else y) ≡ y
if_false b x y e = rw e refl

same_texts : (a b : List ℕ) → bytes_eq a b ≡ true → a ≡ b
same_texts a b e = (bytes_eq-Decides a b).0 e

-- a value put into the map counts before the others
module _ {Y : Type 0} (eq : String Y → String Y → Bool) (by_bytes : (a b : String Y) → eq a b ≡ bytes_eq (string_bytes a) (string_bytes b)) where
  pub inserted : (entries : List (String Y × List ℕ)) (key : String Y) (value tag : List ℕ) → value_in (shown (insert_entry eq entries key value)) tag ≡ value_in ((string_bytes key, value) ∷ shown entries) tag
  inserted [] key value tag = refl
  inserted (e ∷ es) key value tag = elim (cases_Bool (eq key e.0)) [
    | inl same ↦
        let keys : string_bytes key ≡ string_bytes e.0 = same_texts _ _ (sym (by_bytes key e.0) ∙ same) in
        ap (λ (es : List (String Y × List ℕ)). value_in (shown es) tag) (if_true (eq key e.0) ((e.0, value) ∷ es) (e ∷ insert_entry eq es key value) same)
        ∙ replaced (string_bytes e.0) value e.1 (shown es)
        ∙ ap (λ t. value_in ((t, value) ∷ (string_bytes e.0, e.1) ∷ shown es) tag) (sym keys)
    | inr differs ↦
        ap (λ (es : List (String Y × List ℕ)). value_in (shown es) tag) (if_false (eq key e.0) ((e.0, value) ∷ es) (e ∷ insert_entry eq es key value) differs)
        ∙ ap (λ o. if bytes_eq (string_bytes e.0) tag then Some e.1 else o) (inserted es key value tag)
        ∙ swapped (string_bytes key) (string_bytes e.0) value e.1 (shown es) (sym (by_bytes key e.0) ∙ differs)
  ]
    where
      replaced : (t : List ℕ) (v w : List ℕ) (s : Scope) → value_in ((t, v) ∷ s) tag ≡ value_in ((t, v) ∷ (t, w) ∷ s) tag
      replaced t v w s = elim (cases_Bool (bytes_eq t tag)) [
        | inl here ↦ if_true (bytes_eq t tag) (Some v) (value_in s tag) here ∙ sym (if_true (bytes_eq t tag) (Some v) (value_in ((t, w) ∷ s) tag) here)
        | inr other ↦ if_false (bytes_eq t tag) (Some v) (value_in s tag) other ∙ sym (if_false (bytes_eq t tag) (Some w) (value_in s tag) other) ∙ sym (if_false (bytes_eq t tag) (Some v) (value_in ((t, w) ∷ s) tag) other)
      ]

      swapped : (t u v w : List ℕ) (s : Scope) → bytes_eq t u ≡ false → value_in ((u, w) ∷ (t, v) ∷ s) tag ≡ value_in ((t, v) ∷ (u, w) ∷ s) tag
      swapped t u v w s differ = elim (cases_Bool (bytes_eq t tag)) [
        | inl here ↦
            let other : bytes_eq u tag ≡ false = false_from_ne_true (bytes_eq u tag) (λ there. let h = (bytes_eq-Decides t u).1 (same_texts t tag here ∙ sym (same_texts u tag there)) in absurd (cc)) in
            if_false (bytes_eq u tag) (Some w) (value_in ((t, v) ∷ s) tag) other ∙ if_true (bytes_eq t tag) (Some v) (value_in s tag) here ∙ sym (if_true (bytes_eq t tag) (Some v) (value_in ((u, w) ∷ s) tag) here)
        | inr other ↦
            ap (λ o. if bytes_eq u tag then Some w else o) (if_false (bytes_eq t tag) (Some v) (value_in s tag) other) ∙ sym (if_false (bytes_eq t tag) (Some v) (value_in ((u, w) ∷ s) tag) other)
      ]

-- ---- scopes with the same values

pub cons_alike : (tag value : List ℕ) (scope other : Scope) → HasValuesOf scope other → HasValuesOf ((tag, value) ∷ scope) ((tag, value) ∷ other)
cons_alike tag value scope other same q = ap (λ o. if bytes_eq tag q then Some value else o) (same q)

pub append_alike : (front scope other : Scope) → HasValuesOf scope other → HasValuesOf (front ++ scope) (front ++ other)
append_alike [] scope other same = same
append_alike (e ∷ front) scope other same = cons_alike e.0 e.1 (front ++ scope) (front ++ other) (append_alike front scope other same)

pub alike_trans : (a b c : Scope) → HasValuesOf a b → HasValuesOf b c → HasValuesOf a c
alike_trans a b c p q tag = p tag ∙ q tag

-- the item at a place, in front of the others behind it
drop_at : {A : Type 0} (xs : List A) (i : ℕ) (x : A) → slice_get xs i ≡ Some x → drop i xs ≡ x ∷ drop (suc i) xs
drop_at [] i x e = absurd (cc)
drop_at (y ∷ ys) zero x e = let h : Some y ≡ Some x = e in let same : y ≡ x = cc in ap (λ z. z ∷ ys) same
drop_at (y ∷ ys) (suc i) x e = drop_at ys i x e

pub drop_place : {A : Type 0} (xs : List A) (i : ℕ) (x : A) → slice_get xs i ≡ Some x → drop i xs ≡ x ∷ drop (i + 1) xs
drop_place xs i x e = drop_at xs i x e ∙ ap (λ n. x ∷ drop n xs) (let h : suc i ≡ i + 1 = omega arith in h)

-- a parameter more has its value
pub given_more : (prefix : List ℕ) (params : List Param) (left : ℕ) (param : Param) (tag value : List ℕ) (old new before : Scope) → slice_get params left ≡ Some param → tag ≡ prefix ++ param.name → value ≡ param.value
    → HasValuesOf new ((tag, value) ∷ old) → HasValuesOf old (parameter_tags prefix (drop (left + 1) params) ++ before) → HasValuesOf new (parameter_tags prefix (drop left params) ++ before)
given_more prefix params left param tag value old new before at tag_is value_is added given q =
    let rest = parameter_tags prefix (drop (left + 1) params) ++ before in
    added q
    ∙ cons_alike tag value old rest given q
    ∙ ap (λ t. value_in ((t, value) ∷ rest) q) tag_is
    ∙ ap (λ v. value_in ((prefix ++ param.name, v) ∷ rest) q) value_is
    ∙ ap (λ ps. value_in (parameter_tags prefix ps ++ before) q) (sym (drop_place params left param at))

-- parameters' tags put into no tags
pub from_none : (front given none : Scope) → none ≡ [] → HasValuesOf given (front ++ none) → HasValuesOf given front
from_none front given none empty one q = one q ∙ ap (λ (s : Scope). value_in (front ++ s) q) empty ∙ ap (λ (s : Scope). value_in s q) (append-nil front)

-- a workflow's tags, made step by step
pub workflow_made : (workflow name value : List ℕ) (params : List Param) (first second none : Scope) → none ≡ [] → HasValuesOf first (parameter_tags (codes "workflow.parameters.") params ++ none)
    → name ≡ codes "workflow.name" → value ≡ workflow → HasValuesOf second ((name, value) ∷ first)
    → HasValuesOf second (workflow_tags workflow params)
workflow_made workflow name value params first second none empty one name_is value_is two q =
    let rest = parameter_tags (codes "workflow.parameters.") params in
    two q
    ∙ cons_alike name value first rest (from_none rest first none empty one) q
    ∙ ap (λ (t : List ℕ). value_in ((t, value) ∷ rest) q) name_is
    ∙ ap (λ (v : List ℕ). value_in ((codes "workflow.name", v) ∷ rest) q) value_is

-- a value in two lists of tags, one behind the other
abbrev one_or : Option (List ℕ) → Option (List ℕ) → Option (List ℕ)
one_or (Some v) rest = Some v
one_or None rest = rest

if_one : (b : Bool) (v : List ℕ) (x y : Option (List ℕ)) → (if b then Some v else one_or x y) ≡ one_or (if b then Some v else x) y
if_one true v x y = refl
if_one false v x y = refl

value_in_both : (front back : Scope) (tag : List ℕ) → value_in (front ++ back) tag ≡ one_or (value_in front tag) (value_in back tag)
value_in_both [] back tag = refl
value_in_both (e ∷ front) back tag =
    ap (λ o. if bytes_eq e.0 tag then Some e.1 else o) (value_in_both front back tag) ∙ if_one (bytes_eq e.0 tag) e.1 (value_in front tag) (value_in back tag)

-- tags over those of a scope
pub over_alike : (front back tags scope : Scope) → HasValuesOf tags front → HasValuesOf scope back → HasValuesOf (tags ++ scope) (front ++ back)
over_alike front back tags scope one two q =
    value_in_both tags scope q
    ∙ ap (λ o. one_or o (value_in scope q)) (one q)
    ∙ ap (λ o. one_or (value_in front q) o) (two q)
    ∙ sym (value_in_both front back q)

-- a value in tags, and behind them in those around
pub in_tags : (front back : Scope) (tag value : List ℕ) → value_in front tag ≡ Some value → value_in (front ++ back) tag ≡ Some value
in_tags front back tag value here = value_in_both front back tag ∙ ap (λ o. one_or o (value_in back tag)) here

pub behind_tags : (front back : Scope) (tag : List ℕ) → value_in front tag ≡ None → value_in (front ++ back) tag ≡ value_in back tag
behind_tags front back tag none = value_in_both front back tag ∙ ap (λ o. one_or o (value_in back tag)) none

pub made : {E : Type 0} (r : Result Scope E) (tags scope front back : Scope) → IfOk r (λ s. s ≡ tags ++ scope) → HasValuesOf tags front → HasValuesOf scope back → IfOk r (λ s. HasValuesOf s (front ++ back))
made (Ok s) tags scope front back is one two = λ q. ap (λ (x : Scope). value_in x q) is ∙ over_alike front back tags scope one two q
made (Err e) tags scope front back is one two = is
