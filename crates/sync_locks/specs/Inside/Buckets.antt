-- In which bucket the requests of a key are.
use Rattle.std.specs.Prelude.{ℕ, List}
use Rattle.tree_types.specs.declared.path.Sel.{Sel}
use Rattle.buckets.specs.Buckets.{with_text, with_sels}
use Rattle.books.specs.Books.{Text}

-- the bucket of the key of a workflow and a path
abbrev pub bucket_of : Text → List Sel → ℕ
bucket_of workflow sels = with_sels (with_text 0 workflow) sels
