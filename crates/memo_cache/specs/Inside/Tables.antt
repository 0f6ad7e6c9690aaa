-- Saves in buckets.
use Rattle.std.specs.Prelude.{◌≡◌, ℕ, ◌<◌, ◌==◌, Bool, List, [], ◌∷◌, ◌++◌, Option, Some, None, get_or, slice_get, slice_set}
use Rattle.std.specs.List.{filter}
use Rattle.saves.specs.declared.Saved.{Saved}
use Rattle.buckets.specs.Buckets.{buckets}
use Rattle.memo_cache.specs.Inside.Buckets.{writer_bucket, key_bucket}

-- the bucket of a save among those by their writers
abbrev pub by_writer : Saved → ℕ
by_writer s = writer_bucket s.writer.workflow s.writer.path.sels

-- the bucket of a save among those by their caches and keys
abbrev pub by_key : Saved → ℕ
by_key s = key_bucket s.cache s.key

abbrev pub belongs : (Saved → ℕ) → ℕ → Saved → Bool
belongs by bucket s = by s == bucket

abbrev pub bucket_of : (Saved → ℕ) → ℕ → List Saved → List Saved
bucket_of by bucket ss = filter (belongs by bucket) ss

-- each bucket has the saves that belong to it, in order
pub record IsTabled (by : Saved → ℕ) (ss : List Saved) (table : List (List Saved)) : Type 0 where
  pub each : (bucket : ℕ) → bucket < buckets → slice_get table bucket ≡ Some (bucket_of by bucket ss)

-- the saves are in both tables
pub record IsIndexed (ss : List Saved) (writers keys : List (List Saved)) : Type 0 where
  pub by_writers : IsTabled by_writer ss writers
  pub by_keys : IsTabled by_key ss keys

-- with one more at the end of a bucket
abbrev pub with_one : ℕ → Saved → List (List Saved) → List (List Saved)
with_one bucket s table = slice_set table bucket (get_or table bucket [] ++ s ∷ [])

-- nothing is kept before the first save
abbrev pub saves_in : Option (List Saved) → List Saved
saves_in None = []
saves_in (Some ss) = ss
