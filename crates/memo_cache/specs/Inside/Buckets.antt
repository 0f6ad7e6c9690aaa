-- In which buckets a save is.
use Rattle.std.specs.Prelude.{ℕ, List}
use Rattle.tree_types.specs.declared.path.Sel.{Sel}
use Rattle.buckets.specs.Buckets.{with_text, with_sels}

-- the bucket of what a path of a workflow saved
abbrev pub writer_bucket : List ℕ → List Sel → ℕ
writer_bucket workflow sels = with_sels (with_text 0 workflow) sels

-- the bucket of the saves of a key in a cache
abbrev pub key_bucket : List ℕ → List ℕ → ℕ
key_bucket cache key = with_text (with_text 0 cache) key
