-- A snapshot that is kept under its key.
use Rattle.std.proofs.Common.{◌≡◌, List, cond, Some, sym, ap, ◌∙◌}
use Rattle.std.specs.Map.{lookup}
use Rattle.tree_types.specs.declared.entry.Key.{Key}
use Rattle.history.specs.Keys.{same_key}
use Rattle.object_store.proofs.KeyTests.{key_eq, key_eq-same, lookup-key_eq}

pub kept : {V : Type 0} (old new : List (Key × V)) (stored own key : Key) (s : V) → lookup (key_eq key) new ≡ cond (key_eq stored key) (Some s) (lookup (key_eq key) old) → stored ≡ own
    → lookup (same_key key) new ≡ cond (same_key own key) (Some s) (lookup (same_key key) old)
kept old new stored own key s updates same =
    sym (lookup-key_eq key new)
    ∙ updates
    ∙ ap (λ k. cond (key_eq k key) (Some s) (lookup (key_eq key) old)) same
    ∙ ap (λ b. cond b (Some s) (lookup (key_eq key) old)) (key_eq-same own key)
    ∙ ap (cond (same_key own key) (Some s)) (lookup-key_eq key old)
