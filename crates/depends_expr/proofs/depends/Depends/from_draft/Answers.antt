use Rattle.std.proofs.Common.{sym}
use Rattle.depends_expr.proofs.Numberings.{draft_whole}
use Rattle.depends_expr.proofs.depends.Depends.from_draft.Goals as goal

pub invariant_of-result : goal.invariant_of-result
invariant_of-result c = (draft_whole c.in_ok-names.names c.in_ok-table.table c.in_ok-table.steps c.as_slice.result.now c.draft.inside.steps.items c.args.draft c.in_ok-names.ensures c.as_slice.ensures.value c.draft.invariant (sym c.draft.view_is) c.in_ok-table.ensures c.requires).0

pub returns : goal.returns
returns c = (draft_whole c.in_ok-names.names c.in_ok-table.table c.in_ok-table.steps c.as_slice.result.now c.draft.inside.steps.items c.args.draft c.in_ok-names.ensures c.as_slice.ensures.value c.draft.invariant (sym c.draft.view_is) c.in_ok-table.ensures c.requires).1
