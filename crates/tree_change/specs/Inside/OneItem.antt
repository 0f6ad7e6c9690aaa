-- One item of a loop.
use Rattle.std.specs.Prelude.{◌≡◌, ℕ, List, Some, Ok, slice_get}
use Rattle.serde_json.specs.Data.{Data}
use Rattle.wf_manifest.specs.declared.calls.Loop.{Loop}
use Rattle.scopes.specs.Substitution.{Scope}
use Rattle.fanout.specs.Items.{items}

-- where the loop has items, and one stands at the position, it is this one
abbrev pub IsItemAt : Scope → Loop → ℕ → Data → Type 0
IsItemAt scope l place x = (all : List Data) (y : Data) → items scope l ≡ Ok all → slice_get all place ≡ Some y → x ≡ y
