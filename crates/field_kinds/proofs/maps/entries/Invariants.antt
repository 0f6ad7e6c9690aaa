-- What is read so far, and what the members that are left read as.
use Rattle.std.proofs.Common.{◌≡◌}
use Rattle.serde_json.specs.View.{members_view}
use Rattle.field_kinds.specs.Maps.{entries}
use Rattle.field_kinds.proofs.Loops.{with_front}
use Rattle.field_kinds.proofs.maps.entries.Given as goal

abbrev pub invariant-loop-key : goal.invariant-loop-key
invariant-loop-key g l =
    with_front l.out (entries (g.T.Keyed.entry l.around) l.at (members_view l.key-iterator)) ≡ entries (g.T.Keyed.entry l.around) l.at (members_view l.map.entries)
