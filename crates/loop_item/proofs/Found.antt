-- Where something was found, each step before it found something.
use Rattle.std.proofs.Common.{◌≡◌, Bool, true, false, Ok, Err, refl, cond, ap}
use Rattle.tree_types.specs.declared.node.Note.{Note}
use Rattle.scopes.specs.Substitution.{Found, ◌>>=◌}

pub went_on : {A B : Type 0} (m : Found A) (f : A → Found B) (y : B) → (m >>= f) ≡ Ok y → (x : A) × (m ≡ Ok x) × (f x ≡ Ok y)
went_on (Ok x) f y e = (x, refl, e)
went_on (Err fault) f y e = absurd (cc)

pub if_ok : {A : Type 0} (c : Bool) (m : Found A) (fault : Note) (y : A) → cond c m (Err fault) ≡ Ok y → (c ≡ true) × (m ≡ Ok y)
if_ok true m fault y e = (refl, e)
if_ok false m fault y e = absurd (cc)

abbrev IsSame : {A : Type 0} → Found A → Found A → Type 0
IsSame m n = m ≡ n

pub same_ok : {A : Type 0} (x y : A) → IsSame (Ok x) (Ok y) → x ≡ y
same_ok x y e = cc

-- what follows a step that found something
pub follows : {A B : Type 0} (m : Found A) (f : A → Found B) (x : A) → m ≡ Ok x → (m >>= f) ≡ f x
follows m f x e = ap (λ k. k >>= f) e
