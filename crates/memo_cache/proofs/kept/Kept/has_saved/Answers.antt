-- All saves by the writer are in its bucket.
use Rattle.std.proofs.Common.{ℕ, List, ◌∙◌, ap}
use Rattle.saves.specs.declared.Saved.{Saved}
use Rattle.saves.specs.Saves.{has_saved}
use Rattle.memo_cache.specs.Saving.{writer}
use Rattle.memo_cache.specs.Inside.Tables.{by_writer, bucket_of}
use Rattle.memo_cache.proofs.Found.{has_in_bucket}
use Rattle.memo_cache.proofs.kept.Kept.has_saved.Goals as goal

pub returns : goal.returns
returns c =
    let ss = c.args.self.now in
    let key = writer c.args.workflow.now c.args.path.now in
    c.has_in.ensures
    ∙ ap (λ (items : List Saved). has_saved key items) c.by_writer.ensures
    ∙ ap (λ (bucket : ℕ). has_saved key (bucket_of by_writer bucket ss)) c.writer_bucket.ensures.is
    ∙ has_in_bucket key ss
