-- Where requests stand, in buckets.
use Rattle.std.specs.Prelude.{◌≡◌, ℕ, suc, ◌<◌, ◌==◌, Bool, cond, List, [], ◌∷◌, Some, length, slice_get}
use Rattle.std.specs.List.{AllPairs}
use Rattle.books.specs.declared.Request.{Request}
use Rattle.books.specs.declared.LockState.{LockState}
use Rattle.books.specs.Books.{is_holding, is_waiting}
use Rattle.sync_locks.specs.declared.asked.Asked.{Asked}
use Rattle.buckets.specs.Buckets.{buckets}
use Rattle.sync_locks.specs.Inside.Buckets.{bucket_of}
use Rattle.sync_locks.specs.Inside.Rows.{requests_in}
use Rattle.sync_locks.specs.Inside.Queues.{Lists, GoesBefore}

-- the key of the request belongs to this bucket
abbrev pub belongs : ℕ → Request → Bool
belongs bucket r = bucket_of r.key.workflow r.key.path.sels == bucket

-- where those stand that belong to a bucket, if the first of all stands here
abbrev pub places_from : ℕ → ℕ → List Request → List ℕ
places_from here bucket [] = []
places_from here bucket (r ∷ rs) =
    cond (belongs bucket r) (here ∷ places_from (suc here) bucket rs) (places_from (suc here) bucket rs)

abbrev pub places_of : ℕ → List Request → List ℕ
places_of bucket rs = places_from 0 bucket rs

-- each bucket has the places of the requests that belong to it, in order
pub record IsTabled (rs : List Request) (table : List (List ℕ)) : Type 0 where
  pub each : (bucket : ℕ) → bucket < buckets → slice_get table bucket ≡ Some (places_of bucket rs)

-- what was asked for has a state each, and is in the table; those that hold are listed, and those that wait in the order in
-- which they go
pub record IsKept (asked : List Asked) (states : List LockState) (table : List (List ℕ)) (holding waiting : List ℕ) : Type 0 where
  pub each_stands : length states ≡ length asked
  pub tabled : IsTabled (requests_in asked states) table
  pub held : Lists is_holding holding (requests_in asked states)
  pub queued : Lists is_waiting waiting (requests_in asked states)
  pub in_turn : AllPairs (GoesBefore asked) waiting
