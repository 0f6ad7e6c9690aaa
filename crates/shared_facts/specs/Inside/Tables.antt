-- Facts in buckets.
use Rattle.std.specs.Prelude.{◌≡◌, ℕ, ◌<◌, ◌==◌, List, Bool, Some, slice_get}
use Rattle.std.specs.List.{filter}
use Rattle.tree_types.specs.declared.fact.Fact.{Fact}
use Rattle.shared_facts.specs.Inside.Kinds.{sels_of}
use Rattle.buckets.specs.Buckets.{buckets}
use Rattle.shared_facts.specs.Inside.Keys.{key_of}

-- the path of the fact belongs to this bucket
abbrev pub belongs : ℕ → Fact → Bool
belongs key f = key_of (sels_of f) == key

abbrev pub bucket_of : ℕ → List Fact → List Fact
bucket_of key J = filter (belongs key) J

-- each bucket has the facts that belong to it, in order
pub record IsTabled (J : List Fact) (table : List (List Fact)) : Type 0 where
  pub each : (key : ℕ) → key < buckets → slice_get table key ≡ Some (bucket_of key J)
