-- The tags of a map's members, given one after the other.
use Rattle.std.proofs.Common.{◌≡◌, ℕ, false, cond, List, [], ◌∷◌, ◌++◌, Some, string_bytes, refl, sym, ap, subst, ◌∙◌, inl, inr, codes, nat_cmp, Less, Greater}
use Rattle.std.specs.Prelude.{bytes_eq, Result, Ok, Err, OnErr}
use Rattle.std.specs.Cmp.Lexicographic.{slice_cmp}
use Rattle.std.specs.List.{AllByRecursion}
use Rattle.std.specs.List.Sorted.{IsStrictlySortedBy}
use Rattle.std.specs.Map.{keys_of}
use Rattle.std.specs.Ordering.{ordering_reverse}
use Rattle.std.specs.String.{string_cmp}
use Rattle.std.proofs.lemmas.Bool.{cond-true, cond-false, cases_Bool, false_from_ne_true}
use Rattle.std.proofs.lemmas.Cmp.{nat_list_cmp_total}
use Rattle.std.proofs.lemmas.Slice.Eq.{bytes_eq-Decides}
use Rattle.serde_json.specs.Data.{Members, no_members, member}
use Rattle.serde_json.specs.View.{view, members_view}
use Rattle.serde_json.proofs.Views.{Entry}
use Rattle.scopes.specs.Substitution.{Scope, value_in}
use Rattle.scopes.specs.Values.{HasValuesOf, HasValuesOfEither}
use Rattle.scopes.proofs.ValueIn.{cons_alike}
use Rattle.serde_json.specs.Data.{Data, null, boolean, number, string, array, object}
use Rattle.serde_json.specs.Find.{as_object}
use Rattle.fanout.specs.ItemTexts.{item_text, item_tags, member_tags}

-- a scope to which the members are added, each in front of those before it
abbrev pub with_members : Scope → Members → Scope
with_members scope no_members = scope
with_members scope (member k d ms) = with_members ((codes "item." ++ k, item_text d) ∷ scope) ms

pub with_members-alike : (scope other : Scope) (ms : Members) → HasValuesOf scope other → HasValuesOf (with_members scope ms) (with_members other ms)
with_members-alike scope other no_members same = same
with_members-alike scope other (member k d ms) same =
    with_members-alike ((codes "item." ++ k, item_text d) ∷ scope) ((codes "item." ++ k, item_text d) ∷ other) ms (cons_alike (codes "item." ++ k) (item_text d) scope other same)

swapped : (t u v w q : List ℕ) (s : Scope) → bytes_eq t u ≡ false → value_in ((u, w) ∷ (t, v) ∷ s) q ≡ value_in ((t, v) ∷ (u, w) ∷ s) q
swapped t u v w q s differ = elim (cases_Bool (bytes_eq t q)) [
  | inl here ↦
      let same : t ≡ q = (bytes_eq-Decides t q).0 here in
      let other : bytes_eq u q ≡ false = false_from_ne_true (bytes_eq u q) (λ there. let h = (bytes_eq-Decides t u).1 (same ∙ sym ((bytes_eq-Decides u q).0 there)) in absurd (cc)) in
      cond-false (bytes_eq u q) (Some w) (value_in ((t, v) ∷ s) q) other ∙ cond-true (bytes_eq t q) (Some v) (value_in s q) here
      ∙ sym (cond-true (bytes_eq t q) (Some v) (value_in ((u, w) ∷ s) q) here)
  | inr not_here ↦
      ap (λ o. cond (bytes_eq u q) (Some w) o) (cond-false (bytes_eq t q) (Some v) (value_in s q) not_here)
      ∙ sym (cond-false (bytes_eq t q) (Some v) (value_in ((u, w) ∷ s) q) not_here)
]

not_below_itself : (a b : List ℕ) → slice_cmp nat_cmp a b ≡ Less → a ≡ b → ⊥
not_below_itself a b less same =
    let here : slice_cmp nat_cmp a a ≡ Less = ap (λ z. slice_cmp nat_cmp a z) same ∙ less in
    let turned : Less ≡ Greater = sym here ∙ nat_list_cmp_total.antisymm a a ∙ ap ordering_reverse here in
    absurd (cc)

tags_differ : (a b : List ℕ) → slice_cmp nat_cmp a b ≡ Less → bytes_eq (codes "item." ++ a) (codes "item." ++ b) ≡ false
tags_differ a b less =
    false_from_ne_true (bytes_eq (codes "item." ++ a) (codes "item." ++ b)) (λ same.
    let tags : codes "item." ++ a ≡ codes "item." ++ b = (bytes_eq-Decides (codes "item." ++ a) (codes "item." ++ b)).0 same in
    let keys : a ≡ b = cc in
    not_below_itself a b less keys)

-- a tag that is below those in front of it may as well go first
moved : (k v : List ℕ) (es : List Entry) (old : Scope) (q : List ℕ) → AllByRecursion (λ y. slice_cmp nat_cmp k (string_bytes y) ≡ Less) (keys_of es) →
    value_in (member_tags (members_view es) ++ (codes "item." ++ k, v) ∷ old) q ≡ value_in ((codes "item." ++ k, v) ∷ (member_tags (members_view es) ++ old)) q
moved k v [] old q below = refl
moved k v (e ∷ es) old q below =
    let tag = codes "item." ++ string_bytes e.0 in
    let text = item_text (view e.1) in
    ap (λ o. cond (bytes_eq tag q) (Some text) o) (moved k v es old q below.1)
    ∙ swapped (codes "item." ++ k) tag v text q (member_tags (members_view es) ++ old) (tags_differ k (string_bytes e.0) below.0)

-- members whose keys ascend
pub with_members-all : (es : List Entry) (old : Scope) → IsStrictlySortedBy string_cmp (keys_of es) → HasValuesOf (with_members old (members_view es)) (member_tags (members_view es) ++ old)
unfolding IsStrictlySortedBy
with_members-all [] old sorted q = refl
with_members-all (e ∷ es) old sorted q =
    with_members-all es ((codes "item." ++ string_bytes e.0, item_text (view e.1)) ∷ old) sorted.1 q
    ∙ moved (string_bytes e.0) (item_text (view e.1)) es old q sorted.0

-- ---- after want of memory

-- the members behind leave a member's tag as it is
kept : (k : List ℕ) (es : List Entry) (s : Scope) → AllByRecursion (λ y. slice_cmp nat_cmp k (string_bytes y) ≡ Less) (keys_of es) →
    value_in (with_members s (members_view es)) (codes "item." ++ k) ≡ value_in s (codes "item." ++ k)
kept k [] s below = refl
kept k (e ∷ es) s below =
    let tag = codes "item." ++ k in
    let other = codes "item." ++ string_bytes e.0 in
    let differ : bytes_eq other tag ≡ false =
    false_from_ne_true (bytes_eq other tag) (λ same.
    let h = (bytes_eq-Decides tag other).1 (sym ((bytes_eq-Decides other tag).0 same)) in
    let k = tags_differ k (string_bytes e.0) below.0 in
    absurd (cc)) in
    kept k es ((other, item_text (view e.1)) ∷ s) below.1 ∙ cond-false (bytes_eq other tag) (Some (item_text (view e.1))) (value_in s tag) differ

-- each tag has its value from before, or the one from after all members
pub between_next : (e : Entry) (left : List Entry) (s old final new : Scope) → IsStrictlySortedBy string_cmp (keys_of (e ∷ left)) → HasValuesOfEither s old final →
    HasValuesOf (with_members s (members_view (e ∷ left))) final → HasValuesOf new ((codes "item." ++ string_bytes e.0, item_text (view e.1)) ∷ s) → HasValuesOfEither new old final
unfolding IsStrictlySortedBy
between_next e left s old final new sorted between given added q =
    let tag = codes "item." ++ string_bytes e.0 in
    let text = item_text (view e.1) in
    elim (cases_Bool (bytes_eq tag q)) [
      | inl here ↦
          let same : tag ≡ q = (bytes_eq-Decides tag q).0 here in
          let at : value_in new tag ≡ value_in final tag = added tag ∙ sym (kept (string_bytes e.0) left ((tag, text) ∷ s) sorted.0) ∙ given tag in
          inr (subst (λ t. value_in new t ≡ value_in final t) same at)
      | inr other ↦
          let unchanged : value_in new q ≡ value_in s q = added q ∙ cond-false (bytes_eq tag q) (Some text) (value_in s q) other in
          elim (between q) [ inl before ↦ inl (unchanged ∙ before) | inr after ↦ inr (unchanged ∙ after) ]
    ]

pub sorted_next : (e : Entry) (left : List Entry) → IsStrictlySortedBy string_cmp (keys_of (e ∷ left)) → IsStrictlySortedBy string_cmp (keys_of left)
unfolding IsStrictlySortedBy
sorted_next e left sorted = sorted.1

pub either_alike : (s one other same : Scope) → HasValuesOfEither s one other → HasValuesOf other same → HasValuesOfEither s one same
either_alike s one other same either alike q = elim (either q) [ inl first ↦ inl first | inr second ↦ inr (second ∙ alike q) ]

-- no member has the tag `item`
no_item_tag : (ms : Members) (old : Scope) → value_in (member_tags ms ++ old) (codes "item") ≡ value_in old (codes "item")
no_item_tag no_members old = refl
no_item_tag (member k d ms) old = no_item_tag ms old

with_item : (s old : Scope) (text : List ℕ) (ms : Members) → HasValuesOfEither s old (member_tags ms ++ old) → HasValuesOfEither s old ((codes "item", text) ∷ member_tags ms ++ old)
with_item s old text ms either q =
    elim (cases_Bool (bytes_eq (codes "item") q)) [
      | inl here ↦
          let same : codes "item" ≡ q = (bytes_eq-Decides (codes "item") q).0 here in
          let none : value_in (member_tags ms ++ old) q ≡ value_in old q = subst (λ t. value_in (member_tags ms ++ old) t ≡ value_in old t) same (no_item_tag ms old) in
          elim (either q) [ inl before ↦ inl before | inr after ↦ inl (after ∙ none) ]
      | inr other ↦
          elim (either q) [ inl before ↦ inl before | inr after ↦ inr (after ∙ sym (cond-false (bytes_eq (codes "item") q) (Some text) (value_in (member_tags ms ++ old) q) other)) ]
    ]

-- the same of the tags of a map
pub of_map : (s old : Scope) (d : Data) (ms : Members) → as_object d ≡ Some ms → HasValuesOfEither s old (member_tags ms ++ old) → HasValuesOfEither s old (item_tags d ++ old)
of_map s old null ms e either = cc
of_map s old (boolean b) ms e either = cc
of_map s old (number n) ms e either = cc
of_map s old (string t) ms e either = cc
of_map s old (array ds) ms e either = cc
of_map s old (object es) ms e either =
    let here : Some es ≡ Some ms = e in
    let same : ms ≡ es = cc in
    with_item s old (item_text (object es)) es (subst (λ m. HasValuesOfEither s old (member_tags m ++ old)) same either)

pub on_err : {A E : Type 0} (r : Result A E) (P : Type 0) → P → OnErr r P
on_err (Ok x) P holds = tt
on_err (Err e) P holds = holds

pub on_err_too : {A E : Type 0} (r : Result A E) (P Q : Type 0) → (P → Q) → OnErr r P → OnErr r Q
on_err_too (Ok x) P Q more holds = tt
on_err_too (Err e) P Q more holds = more holds

pub only_later : (s old other : Scope) → HasValuesOf s other → HasValuesOfEither s old other
only_later s old other same q = inr (same q)
