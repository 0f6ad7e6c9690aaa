-- Pods that are known not to pass a test.
use Rattle.std.specs.Prelude.{◌≡◌, ℕ, Bool, List, take, None}
use Rattle.std.specs.List.{find}
use Rattle.tree_types.specs.declared.want.Want.{Want}

-- none of so many from the first passes
abbrev pub NoneAmong : ℕ → (Want → Bool) → List Want → Type 0
NoneAmong n accepts ws = find accepts (take n ws) ≡ None
