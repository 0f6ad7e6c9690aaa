-- What is left to be refused decides.
use Rattle.std.proofs.Common.{◌≡◌, drop, map}
use Rattle.serde_json.specs.View.{view}
use Rattle.field_kinds.specs.Fields.{refused_all}
use Rattle.field_kinds.proofs.refusing.refuse_all.Given as goal

abbrev pub invariant-loop-i : goal.invariant-loop-i
invariant-loop-i l = refused_all (map (λ name. name.now) (drop l.i l.names)) l.at (view l.object) ≡ refused_all (map (λ name. name.now) l.names) l.at (view l.object)
