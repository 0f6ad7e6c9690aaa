-- What holds of each value that a kind makes, carried through the words of the vocabulary.
use Rattle.std.proofs.Common.{◌≡◌, ℕ, suc, ◌≤◌, List, [], ◌∷◌, length, Bool, true, false, cond, Option, Some, None, Ok, Err, refl, sym, ap, subst, ◌∙◌}
use Rattle.std.specs.Prelude.{nat_lt, IfSome}
use Rattle.std.specs.List.{AllByRecursion}
use Rattle.std.proofs.lemmas.Bool.{ltb-false}
use Rattle.serde_json.specs.Data.{Data, null, boolean, number, string, array, object, Items, no_items, item}
use Rattle.serde_json.specs.Events.{items_len}
use Rattle.serde_json.specs.Find.{get}
use Rattle.json_fields.specs.Paths.{Path, field_of, member_of}
use Rattle.json_fields.specs.Kinds as is
use Rattle.field_kinds.specs.Reading.{Read, ◌>>=◌, Kind, refuse_by, or_wrong, or_bad, or_missing}
use Rattle.field_kinds.specs.Rules as rules
use Rattle.field_kinds.specs.Kinds.{of, members, at_most, needs_list, needs_object, list_of, object_of}
use Rattle.field_kinds.specs.Fields.{some, present, optional, required, default, else_}

abbrev pub Makes : {A : Type 0} → Kind A → (A → Type 0) → Type 0
Makes {A} kind P = (at : Path) (d : Data) (x : A) → kind at d ≡ Ok x → P x

-- what a step read that refused nothing
pub then_ok : {A B : Type 0} (r : Read A) (f : A → Read B) (y : B) → (r >>= f) ≡ Ok y → (x : A) × (r ≡ Ok x) × (f x ≡ Ok y)
then_ok (Ok x) f y e = (x, refl, e)
then_ok (Err refusal) f y e = absurd cc

abbrev good : {A : Type 0} → A → Read A
good x = Ok x

pub ok_is : {A : Type 0} (x y : A) → good x ≡ good y → x ≡ y
ok_is x y e = cc

-- ---- values

pub makes_object : {A : Type 0} (kind : Kind A) (P : A → Type 0) → Makes kind P → Makes (object_of kind) P
makes_object kind P makes at d x e = let s = then_ok (needs_object at d) (λ _. kind at d) x e in makes at d x s.2

by_grammar : {A : Type 0} (at : Path) (o : Option A) (x : A) → or_bad at o ≡ Ok x → o ≡ Some x
by_grammar at (Some y) x e = ap Some (ok_is y x e)
by_grammar at None x e = absurd cc

-- what is read by a grammar is the meaning of some text
pub makes_of : {A : Type 0} (grammar : List ℕ → Option A) (kind : Kind (List ℕ)) → Makes (of grammar kind) (λ x. (t : List ℕ) × (grammar t ≡ Some x))
makes_of grammar kind at d x e =
    let s = then_ok (kind at d) (λ t. or_bad at (grammar t)) x e in (s.0, by_grammar at (grammar s.0) x s.2)

-- ---- lists

members-length : {A : Type 0} (kind : Kind A) (at : Path) (i : ℕ) (ds : Items) (xs : List A) → members kind at i ds ≡ Ok xs → length xs ≡ items_len ds
members-length kind at i no_items xs e = rw (← ok_is [] xs e) refl
members-length kind at i (item d ds) xs e =
    let a = then_ok (kind (member_of at i) d) (λ x. members kind at (suc i) ds >>= λ ys. Ok (x ∷ ys)) xs e in
    let b = then_ok (members kind at (suc i) ds) (λ ys. Ok (a.0 ∷ ys)) xs a.2 in
    rw (← ok_is (a.0 ∷ b.0) xs b.2) (ap suc (members-length kind at (suc i) ds b.0 b.1))

pub makes_members : {A : Type 0} (kind : Kind A) (P : A → Type 0) → Makes kind P → (at : Path) (i : ℕ) (ds : Items) (xs : List A) → members kind at i ds ≡ Ok xs → AllByRecursion P xs
makes_members kind P makes at i no_items xs e = rw (← ok_is [] xs e) tt
makes_members kind P makes at i (item d ds) xs e =
    let a = then_ok (kind (member_of at i) d) (λ x. members kind at (suc i) ds >>= λ ys. Ok (x ∷ ys)) xs e in
    let b = then_ok (members kind at (suc i) ds) (λ ys. Ok (a.0 ∷ ys)) xs a.2 in
    rw (← ok_is (a.0 ∷ b.0) xs b.2) (makes (member_of at i) d a.0 a.1, makes_members kind P makes at (suc i) ds b.0 b.1)

at_most-length : (most : ℕ) (at : Path) (ds es : Items) (long : Bool) → nat_lt most (items_len ds) ≡ long → at_most most at ds ≡ Ok es → items_len es ≤ most
at_most-length most at ds es true is e = absurd (never (sym (ap (λ long. cond long (refuse_by rules.too_many at) (Ok ds)) is) ∙ e))
  where
    never : refuse_by {A = Items} rules.too_many at ≡ Ok es → ⊥
    never x = absurd cc
at_most-length most at ds es false is e =
    let same : ds ≡ es = ok_is ds es (sym (ap (λ long. cond long (refuse_by rules.too_many at) (Ok ds)) is) ∙ e) in
    subst (λ x. items_len x ≤ most) same (ltb-false most (items_len ds) is)

-- a list that is read is no longer than its limit
pub makes_list-length : {A : Type 0} (most : ℕ) (kind : Kind A) → Makes (list_of most kind) (λ xs. length xs ≤ most)
makes_list-length most kind at d xs e =
    let a = then_ok (needs_list most at d) (members kind at 0) xs e in
    let b = then_ok (or_wrong at (is.list d)) (at_most most at) a.0 a.1 in
    rw (members-length kind at 0 a.0 xs a.2) (at_most-length most at b.0 a.0 (nat_lt most (items_len b.0)) refl b.2)

-- and what holds of each value that its kind makes holds of each member
pub makes_list : {A : Type 0} (most : ℕ) (kind : Kind A) (P : A → Type 0) → Makes kind P → Makes (list_of most kind) (AllByRecursion P)
makes_list most kind P makes at d xs e =
    let a = then_ok (needs_list most at d) (members kind at 0) xs e in makes_members kind P makes at 0 a.0 xs a.2

-- ---- fields

some_is : {A : Type 0} (kind : Kind A) (P : A → Type 0) (at : Path) (d : Data) (o : Option A) → Makes kind P → some (kind at d) ≡ Ok o → IfSome o P
some_is {A} kind P at d o makes e = by (kind at d) refl e
  where
    by : (r : Read A) → kind at d ≡ r → some r ≡ Ok o → IfSome o P
    by (Ok x) is e = subst (λ o. IfSome o P) (ok_is (Some x) o e) (makes at d x is)
    by (Err refusal) is e = absurd cc

absent_is : {A : Type 0} (P : A → Type 0) (o : Option A) → good (let n : Option A = None in n) ≡ Ok o → IfSome o P
absent_is {A} P o e = subst (λ o. IfSome o P) (ok_is (let n : Option A = None in n) o e) tt

present_is : {A : Type 0} (kind : Kind A) (P : A → Type 0) (at : Path) (found : Option Data) (o : Option A) → Makes kind P → present kind at found ≡ Ok o → IfSome o P
present_is kind P at None o makes e = absent_is P o e
present_is kind P at (Some null) o makes e = absent_is P o e
present_is kind P at (Some (boolean b)) o makes e = some_is kind P at (boolean b) o makes e
present_is kind P at (Some (number n)) o makes e = some_is kind P at (number n) o makes e
present_is kind P at (Some (string s)) o makes e = some_is kind P at (string s) o makes e
present_is kind P at (Some (array ds)) o makes e = some_is kind P at (array ds) o makes e
present_is kind P at (Some (object ms)) o makes e = some_is kind P at (object ms) o makes e

pub makes_optional : {A : Type 0} (kind : Kind A) (P : A → Type 0) (name : List ℕ) → Makes kind P → Makes (optional kind name) (λ o. IfSome o P)
makes_optional kind P name makes at d o e = present_is kind P (field_of at name) (get name d) o makes e

required_is : {A : Type 0} (P : A → Type 0) (at : Path) (o : Option A) (x : A) → IfSome o P → or_missing at o ≡ Ok x → P x
required_is P at (Some y) x h e = subst P (ok_is y x e) h
required_is P at None x h e = absurd cc

pub makes_required : {A : Type 0} (kind : Kind A) (P : A → Type 0) (name : List ℕ) → Makes kind P → Makes (required kind name) P
makes_required kind P name makes at d x e =
    let s = then_ok (optional kind name at d) (or_missing (field_of at name)) x e in
    required_is P (field_of at name) s.0 x (makes_optional kind P name makes at d s.0 s.1) s.2

default_is : {A : Type 0} (P : A → Type 0) (otherwise : A) (o : Option A) (x : A) → P otherwise → IfSome o P → else_ otherwise o ≡ Ok x → P x
default_is P otherwise (Some y) x p h e = subst P (ok_is y x e) h
default_is P otherwise None x p h e = subst P (ok_is otherwise x e) p

pub makes_default : {A : Type 0} (kind : Kind A) (P : A → Type 0) (otherwise : A) (name : List ℕ) → P otherwise → Makes kind P → Makes (default otherwise kind name) P
makes_default kind P otherwise name p makes at d x e =
    let s = then_ok (optional kind name at d) (else_ otherwise) x e in
    default_is P otherwise s.0 x p (makes_optional kind P name makes at d s.0 s.1) s.2
