-- What is read so far, and what the values that are left read as.
use Rattle.std.proofs.Common.{◌≡◌, drop}
use Rattle.serde_json.specs.View.{items_view}
use Rattle.field_kinds.specs.Kinds.{members}
use Rattle.field_kinds.proofs.Loops.{with_front}
use Rattle.field_kinds.proofs.values.members.Given as goal

abbrev pub invariant-loop-i : goal.invariant-loop-i
invariant-loop-i g l = with_front l.out (members (g.T.Readable.kind l.around) l.at l.i (items_view (drop l.i l.list))) ≡ members (g.T.Readable.kind l.around) l.at 0 (items_view l.list)
