-- Requests that hold their locks, by their places and by the buckets of their keys.
use Rattle.std.specs.Prelude.{ℕ, Bool, cond, ◌&&◌, ◌==◌, List, [], ◌∷◌, ◌++◌, map, slice_get}
use Rattle.std.specs.List.{AllPass}
use Rattle.books.specs.declared.Request.{Request}
use Rattle.books.specs.declared.LockState.{LockState}
use Rattle.books.specs.Books.{is_holding}
use Rattle.sync_locks.specs.declared.asked.Asked.{Asked}
use Rattle.sync_locks.specs.declared.holder.Holder.{Holder}
use Rattle.sync_locks.specs.Inside.Buckets.{bucket_of}
use Rattle.sync_locks.specs.Inside.Queues.{asks}
use Rattle.sync_locks.specs.Inside.Rows.{is_at}
use Rattle.sync_locks.specs.Inside.Tables.{IsKept}

-- where they stand
abbrev pub places_in : List Holder → List ℕ
places_in holders = map (λ (h : Holder). h.place) holders

-- the key that was asked for at the holder's place belongs to the holder's bucket
abbrev pub is_bucketed : List Asked → Holder → Bool
is_bucketed asked h = asks (λ a. bucket_of a.key.workflow a.key.path.sels == h.bucket) (slice_get asked h.place)

-- the holder has this bucket, and the request at its place passes
abbrev pub is_there : ℕ → (Request → Bool) → List Request → Holder → Bool
is_there bucket test rs h = (h.bucket == bucket) && is_at test rs h.place

-- with a new request as the last holder, if it stands so
abbrev pub holding_with : LockState → Holder → List Holder → List Holder
holding_with state new holding = cond (is_holding state) (holding ++ new ∷ []) holding

-- requests are kept, and each holder has the bucket of its key
pub record IsStored (asked : List Asked) (states : List LockState) (table : List (List ℕ)) (holding : List Holder) (waiting : List ℕ) : Type 0 where
  pub kept : IsKept asked states table (places_in holding) waiting
  pub bucketed : AllPass (is_bucketed asked) holding
