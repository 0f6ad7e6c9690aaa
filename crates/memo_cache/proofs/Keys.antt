-- The test by which code compares paths is that of the definitions, and saves that pass a test have one bucket.
use Rattle.std.proofs.Common.{◌≡◌, ℕ, Bool, true, false, ◌&&◌, bytes_eq, List, eq-eqb, refl, ap₂}
use Rattle.std.proofs.lemmas.Slice.Eq.{bytes_eq-Decides}
use Rattle.tree_types.specs.declared.entry.HolderKey.{HolderKey}
use Rattle.tree_types.specs.Places.{sels_eq}
use Rattle.tree_types.proofs.Sels.{sels_same}
use Rattle.saves.specs.declared.Saved.{Saved}
use Rattle.saves.specs.Saves.{is_of, is_by}
use Rattle.memo_cache.specs.Inside.Buckets.{writer_bucket, key_bucket}
use Rattle.memo_cache.specs.Inside.Tables.{by_writer, by_key, belongs}

both_true : (a b : Bool) → (a && b) ≡ true → (a ≡ true) × (b ≡ true)
both_true true b e = (refl, e)
both_true false b e = absurd (cc e)

-- ---- saves that pass a test are in its bucket

pub by_writer_there : (key : HolderKey) (s : Saved) → is_by key s ≡ true → belongs by_writer (writer_bucket key.workflow key.path.sels) s ≡ true
by_writer_there key s e =
    let two = both_true (bytes_eq s.writer.workflow key.workflow) (sels_eq s.writer.path.sels key.path.sels) e in
    eq-eqb (by_writer s) (writer_bucket key.workflow key.path.sels)
    (ap₂ writer_bucket ((bytes_eq-Decides s.writer.workflow key.workflow).0 two.0) (sels_same s.writer.path.sels key.path.sels two.1))

pub by_key_there : (cache key : List ℕ) (s : Saved) → is_of cache key s ≡ true → belongs by_key (key_bucket cache key) s ≡ true
by_key_there cache key s e =
    let two = both_true (bytes_eq s.cache cache) (bytes_eq s.key key) e in
    eq-eqb (by_key s) (key_bucket cache key) (ap₂ key_bucket ((bytes_eq-Decides s.cache cache).0 two.0) ((bytes_eq-Decides s.key key).0 two.1))
