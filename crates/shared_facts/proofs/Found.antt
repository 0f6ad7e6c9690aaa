-- The first fact that passes a test.
use Rattle.std.proofs.Common.{◌≡◌, ℕ, ◌+◌, Bool, true, false, cond, ◌||◌, List, [], ◌∷◌, drop, drop-cons, eq-eqb, add-one, refl, sym, ◌∙◌, ap, ap₂}
use Rattle.std.specs.Prelude.{Option, Some, None, is_some, slice_get, option_copied}
use Rattle.std.specs.Borrow.{Bor}
use Rattle.std.specs.List.{filter, find}
use Rattle.std.proofs.lemmas.Option.{slice_get_within, get_or_from_slice_get}
use Rattle.tree_types.specs.declared.path.Sel.{Sel}
use Rattle.tree_types.specs.declared.fact.Fact.{Fact}
use Rattle.tree_types.specs.declared.fact.Fact.TheVariants.{Started, Settled, Carried, Granted, Memo, Armed, Due, Resumed, Begun}
use Rattle.tree_types.specs.Places.{sels_eq}
use Rattle.tree_types.specs.Journals.{is_alike, knows}
use Rattle.tree_types.proofs.Sels.{sels_same}
use Rattle.shared_facts.specs.declared.kind.Kind.{Kind}
use Rattle.shared_facts.specs.Inside.Kinds.{kind_of, kind_eq, sels_of, is_of}
use Rattle.shared_facts.specs.Inside.Keys.{key_of}
use Rattle.shared_facts.specs.Inside.Tables.{belongs, bucket_of}
use Rattle.shared_facts.proofs.Same.{both_true}

-- ---- in a bucket

passed : {A : Type 0} (b : Bool) (x y : A) → (b ≡ true → ⊥) → y ≡ cond b x y
passed true x y never = absurd (never refl)
passed false x y never = refl

found_step : (test : Fact → Bool) (f : Fact) (some all : List Fact) (b : Bool) → (test f ≡ true → b ≡ true) → find test some ≡ find test all → find test (cond b (f ∷ some) some) ≡ find test (f ∷ all)
found_step test f some all true only e = ap (λ (o : Option Fact). cond (test f) (Some f) o) e
found_step test f some all false only e =
    e ∙ passed (test f) (Some f) (find test all) (λ (t : test f ≡ true). let off : false ≡ true = only t in cc off)

found_among : (test chosen : Fact → Bool) → ((f : Fact) → test f ≡ true → chosen f ≡ true) → (J : List Fact) → find test (filter chosen J) ≡ find test J
found_among test chosen only [] = refl
found_among test chosen only (f ∷ J) = found_step test f (filter chosen J) J (chosen f) (only f) (found_among test chosen only J)

-- each fact of a path is in the bucket of the path
belongs_there : (kind : Kind) (p : List Sel) (f : Fact) → is_of kind p f ≡ true → belongs (key_of p) f ≡ true
belongs_there kind p f e =
    eq-eqb (key_of (sels_of f)) (key_of p) (ap key_of (sels_same (sels_of f) p (both_true (kind_eq (kind_of f) kind) (sels_eq (sels_of f) p) e).1))

pub found_in_bucket : (kind : Kind) (p : List Sel) (J : List Fact) → find (is_of kind p) (bucket_of (key_of p) J) ≡ find (is_of kind p) J
found_in_bucket kind p J = found_among (is_of kind p) (belongs (key_of p)) (belongs_there kind p) J

-- ---- a walk through a bucket

from_here : (J : List Fact) (i : ℕ) (f : Fact) → slice_get J i ≡ Some f → drop i J ≡ f ∷ drop (i + 1) J
from_here J i f there =
    drop-cons J i f (slice_get_within J i f there) ∙ ap₂ (λ (x : Fact) (n : ℕ). x ∷ drop n J) (get_or_from_slice_get J i f f there) (sym (add-one i))

-- the rest begins with this fact
rest_from : (test : Fact → Bool) (J : List Fact) (i : ℕ) (f : Fact) (b : Bool) → slice_get J i ≡ Some f → test f ≡ b → find test (drop i J) ≡ find test J → cond b (Some f) (find test (drop (i + 1) J)) ≡ find test J
rest_from test J i f b there is rest =
    ap (λ (t : Bool). cond t (Some f) (find test (drop (i + 1) J))) (sym is) ∙ ap (find test) (sym (from_here J i f there)) ∙ rest

pub found_here : (test : Fact → Bool) (J : List Fact) (i : ℕ) (f : Fact) → slice_get J i ≡ Some f → test f ≡ true → find test (drop i J) ≡ find test J → Some f ≡ find test J
found_here test J i f there is rest = rest_from test J i f true there is rest

pub found_later : (test : Fact → Bool) (J : List Fact) (i : ℕ) (f : Fact) → slice_get J i ≡ Some f → test f ≡ false → find test (drop i J) ≡ find test J → find test (drop (i + 1) J) ≡ find test J
found_later test J i f there is rest = rest_from test J i f false there is rest

-- ---- facts of one kind and path

alike_same : (g f : Fact) → is_alike g f ≡ is_of (kind_of f) (sels_of f) g
alike_same Started Started = refl
alike_same (Settled p o) (Settled q u) = refl
alike_same (Carried p o) (Carried q u) = refl
alike_same (Granted p) (Granted q) = refl
alike_same (Memo p a) (Memo q b) = refl
alike_same (Armed p m) (Armed q n) = refl
alike_same (Due p) (Due q) = refl
alike_same (Resumed p) (Resumed q) = refl
alike_same (Begun p) (Begun q) = refl
alike_same _ _ = refl

any_by : (b : Bool) (g : Fact) (o : Option Fact) → (b || is_some o) ≡ is_some (cond b (Some g) o)
any_by true g o = refl
any_by false g o = refl

pub knows_found : (J : List Fact) (f : Fact) → knows J f ≡ is_some (find (is_of (kind_of f) (sels_of f)) J)
knows_found [] f = refl
knows_found (g ∷ J) f =
    ap₂ (λ (a b : Bool). a || b) (alike_same g f) (knows_found J f) ∙ any_by (is_of (kind_of f) (sels_of f) g) g (find (is_of (kind_of f) (sels_of f)) J)

-- a fact that is lent is there
pub lent_is_some : (o : Option (Bor Fact)) → is_some o ≡ is_some (option_copied o)
lent_is_some None = refl
lent_is_some (Some f) = refl
