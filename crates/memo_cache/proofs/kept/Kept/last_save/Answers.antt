-- All saves of the key are in its bucket.
use Rattle.std.proofs.Common.{ℕ, List, ◌∙◌, ap}
use Rattle.saves.specs.declared.Saved.{Saved}
use Rattle.saves.specs.Saves.{last_save}
use Rattle.memo_cache.specs.Inside.Tables.{by_key, bucket_of}
use Rattle.memo_cache.proofs.Found.{last_in_bucket}
use Rattle.memo_cache.proofs.kept.Kept.last_save.Goals as goal

pub returns : goal.returns
returns c =
    let ss = c.args.self.now in
    let cache = c.args.cache.now in
    let key = c.args.key.now in
    c.last_in.ensures
    ∙ ap (λ (items : List Saved). last_save items cache key) c.by_key.ensures
    ∙ ap (λ (bucket : ℕ). last_save (bucket_of by_key bucket ss) cache key) c.key_bucket.ensures.is
    ∙ last_in_bucket cache key ss
