use Rattle.when_expr.proofs.Peaks.{low_found}
use Rattle.when_expr.proofs.when.parse_when.Goals as goal

pub from_draft-requires : goal.from_draft-requires
from_draft-requires c = low_found c.args.text.now c.as_bytes.result.now _ c.in-Ok.draft c.as_bytes.ensures.value c.in_ok-draft.ensures.ok c.in-Ok.is
