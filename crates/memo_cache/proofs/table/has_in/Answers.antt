-- The save at the position is by the writer, or one that is stands behind it.
use Rattle.std.proofs.Common.{◌≡◌, true, false, sym, ◌∙◌, ap}
use Rattle.std.specs.Prelude.{Some, slice_get, option_copied}
use Rattle.memo_cache.specs.Saving.{writer}
use Rattle.memo_cache.proofs.Found.{has_from}
use Rattle.memo_cache.proofs.table.has_in.Goals as goal

pub returns-then-is_by : goal.returns-then-is_by
returns-then-is_by c =
    let there : slice_get c.args.bucket.now c.loop-position.position ≡ Some c.unwrap.result.now = sym c.get.ensures ∙ ap option_copied c.unwrap.ensures in
    has_from (writer c.args.workflow.now c.args.path.now) c.args.bucket.now c.loop-position.position c.unwrap.result.now true there (sym c.is_by.ensures ∙ c.if-is_by.true) c.loop-position.invariant

pub loop-position-preserved : goal.loop-position-preserved
loop-position-preserved c =
    let there : slice_get c.args.bucket.now c.loop-position.position ≡ Some c.unwrap.result.now = sym c.get.ensures ∙ ap option_copied c.unwrap.ensures in
    has_from (writer c.args.workflow.now c.args.path.now) c.args.bucket.now c.loop-position.position c.unwrap.result.now false there (sym c.is_by.ensures ∙ c.if-is_by.false) c.loop-position.invariant
