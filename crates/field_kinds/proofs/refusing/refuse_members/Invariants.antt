-- The members that are left decide.
use Rattle.std.proofs.Common.{◌≡◌}
use Rattle.serde_json.specs.View.{members_view}
use Rattle.field_kinds.specs.Fields.{refused_members}
use Rattle.field_kinds.proofs.refusing.refuse_members.Given as goal

abbrev pub invariant-loop-key : goal.invariant-loop-key
invariant-loop-key l = refused_members l.but l.at (members_view l.key-iterator) ≡ refused_members l.but l.at (members_view l.map.entries)
