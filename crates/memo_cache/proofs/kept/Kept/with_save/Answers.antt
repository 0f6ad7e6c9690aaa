-- The buckets of the save have it at their ends, as the saves have.
use Rattle.std.proofs.Common.{◌≡◌, List, [], ◌∷◌, ◌++◌, ◌∙◌, ap, ap₂}
use Rattle.saves.specs.declared.Saved.{Saved}
use Rattle.memo_cache.specs.Inside.Tables.{by_writer, by_key, with_one}
use Rattle.memo_cache.proofs.Tabled.{bucket_within, indexed_more}
use Rattle.memo_cache.proofs.kept.Kept.with_save.Goals as goal

pub with_one-requires : goal.with_one-requires
with_one-requires c = bucket_within by_writer c.self.inside.saves c.self.inside.writers c.writer_bucket-writer.result c.writer_bucket-writer.ensures.few c.self.invariant.by_writers

pub with_one-requires-2 : goal.with_one-requires-2
with_one-requires-2 c = bucket_within by_key c.self.inside.saves c.self.inside.keys c.key_bucket-key.result c.key_bucket-key.ensures.few c.self.invariant.by_keys

pub invariant_of-result : goal.invariant_of-result
invariant_of-result c =
    let ss : List Saved = c.self.inside.saves in
    let writers : List (List Saved) = c.self.inside.writers in
    let keys : List (List Saved) = c.self.inside.keys in
    let s = c.args.saved in
    let writer = c.writer_bucket-writer.result in
    let key = c.key_bucket-key.result in
    let same : c.in_ok-saved.saved ≡ s = c.in_ok-saved.ensures in
    let saves : c.push_shared.new.self ≡ ss ++ s ∷ [] =
    c.in_ok-push_shared.ensures.ok ∙ ap₂ (λ (x : List Saved) (y : Saved). x ++ y ∷ []) c.in_ok-saves.ensures same in
    let in_writers : c.in_ok-writers.writers ≡ with_one writer s writers =
    c.in_ok-writers.ensures ∙ ap (λ (x : Saved). with_one writer x writers) (c.in_ok-copy.ensures ∙ same) in
    let in_keys : c.in_ok-keys.keys ≡ with_one key s keys =
    c.in_ok-keys.ensures ∙ ap (λ (x : Saved). with_one key x keys) (c.in_ok-copy-2.ensures ∙ same) in
    indexed_more ss c.push_shared.new.self writers c.in_ok-writers.writers keys c.in_ok-keys.keys s writer key c.writer_bucket-writer.ensures.is c.writer_bucket-writer.ensures.few c.key_bucket-key.ensures.is c.key_bucket-key.ensures.few c.self.invariant saves in_writers in_keys
