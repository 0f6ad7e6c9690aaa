-- All buckets are empty.
use Rattle.std.proofs.Common.{List, replicate, ◌∙◌, ap}
use Rattle.saves.specs.declared.Saved.{Saved}
use Rattle.buckets.specs.Buckets.{buckets}
use Rattle.memo_cache.proofs.table.empty_table.Goals as goal

pub returns : goal.returns
returns c = c.in_ok-filled.ensures ∙ ap (λ (bucket : List Saved). replicate buckets bucket) c.in_ok-empty.ensures
