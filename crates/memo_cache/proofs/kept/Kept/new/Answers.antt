-- All buckets are empty.
use Rattle.memo_cache.proofs.Tabled.{indexed_none}
use Rattle.memo_cache.proofs.kept.Kept.new.Goals as goal

pub invariant_of-result : goal.invariant_of-result
invariant_of-result c =
    indexed_none c.in_ok-new.field-0 c.in_ok-empty_table.field-0 c.in_ok-empty_table-2.field-0 c.in_ok-new.ensures c.in_ok-empty_table.ensures c.in_ok-empty_table-2.ensures
