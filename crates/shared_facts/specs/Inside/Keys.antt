-- In which bucket the facts of a path are.
use Rattle.std.specs.Prelude.{ℕ, List}
use Rattle.tree_types.specs.declared.path.Sel.{Sel}
use Rattle.buckets.specs.Buckets.{with_sels}

abbrev pub key_of : List Sel → ℕ
key_of p = with_sels 0 p
