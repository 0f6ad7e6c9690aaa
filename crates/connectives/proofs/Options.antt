-- Equations between options.
use Rattle.std.specs.Prelude.{◌≡◌, Option, None, Some}
use Rattle.std.proofs.Common.{ap, subst}

abbrev get_some : {A : Type 0} → A → Option A → A
get_some x None = x
get_some x (Some y) = y

abbrev IsIt : {A : Type 0} → Option A → Type 0
IsIt None = Unit {0}
IsIt (Some x) = ⊥

pub none_some : {A : Type 0} {x : A} → None ≡ Some x → ⊥
none_some p = subst IsIt p tt

pub some_same : {A : Type 0} {x y : A} → Some x ≡ Some y → x ≡ y
some_same {A} {x} {y} p = ap (λ o. get_some x o) p
