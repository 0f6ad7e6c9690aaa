-- The index tells keys apart as histories do.
use Rattle.std.proofs.Common.{◌≡◌, Bool, List, [], ◌∷◌, cond, Some, refl, ap, ◌∙◌}
use Rattle.std.specs.Map.{lookup}
use Rattle.tree_types.specs.declared.entry.Key.{Key}
use Rattle.tree_types.specs.declared.entry.Key.TheVariants.{Workflow, Pod, Locks, Caches}
use Rattle.tree_types.specs.contracts.entry.KeyPartialEq.TheImpl.{eq-value}
use Rattle.history.specs.Keys.{same_key}

abbrev pub key_eq : Key → Key → Bool
key_eq = eq-value.it

pub key_eq-same : (a b : Key) → key_eq a b ≡ same_key a b
key_eq-same (Workflow a) (Workflow b) = refl
key_eq-same (Pod a n) (Pod b m) = refl
key_eq-same Locks Locks = refl
key_eq-same Caches Caches = refl
key_eq-same (Workflow a) (Pod b m) = refl
key_eq-same (Workflow a) Locks = refl
key_eq-same (Workflow a) Caches = refl
key_eq-same (Pod a n) (Workflow b) = refl
key_eq-same (Pod a n) Locks = refl
key_eq-same (Pod a n) Caches = refl
key_eq-same Locks (Workflow b) = refl
key_eq-same Locks (Pod b m) = refl
key_eq-same Locks Caches = refl
key_eq-same Caches (Workflow b) = refl
key_eq-same Caches (Pod b m) = refl
key_eq-same Caches Locks = refl

pub lookup-key_eq : {V : Type 0} (k : Key) (es : List (Key × V)) → lookup (key_eq k) es ≡ lookup (same_key k) es
lookup-key_eq k [] = refl
lookup-key_eq k (e ∷ es) =
    ap (λ b. cond b (Some e.1) (lookup (key_eq k) es)) (key_eq-same k e.0)
    ∙ ap (cond (same_key k e.0) (Some e.1)) (lookup-key_eq k es)
