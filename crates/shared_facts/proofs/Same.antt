-- The tests by which code compares kinds and paths are those of the definitions.
use Rattle.std.proofs.Common.{◌≡◌, Bool, true, false, ◌&&◌, refl}
use Rattle.shared_facts.specs.declared.kind.Kind.{Kind}
use Rattle.shared_facts.specs.declared.kind.Kind.TheVariants as kind
use Rattle.shared_facts.specs.Inside.Kinds.{kind_eq}

pub kind_itself : (k : Kind) → kind_eq k k ≡ true
kind_itself kind.Started = refl
kind_itself kind.Settled = refl
kind_itself kind.Carried = refl
kind_itself kind.Granted = refl
kind_itself kind.Memo = refl
kind_itself kind.Armed = refl
kind_itself kind.Due = refl
kind_itself kind.Resumed = refl
kind_itself kind.Begun = refl

pub both_true : (a b : Bool) → (a && b) ≡ true → (a ≡ true) × (b ≡ true)
both_true true b e = (refl, e)
both_true false b e = absurd (cc e)
