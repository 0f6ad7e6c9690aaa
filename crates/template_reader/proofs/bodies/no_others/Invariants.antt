-- The names that are left decide.
use Rattle.std.proofs.Common.{◌≡◌, drop, map}
use Rattle.serde_json.specs.View.{view}
use Rattle.template_reader.specs.Templates.{no_others}
use Rattle.template_reader.proofs.bodies.no_others.Given as goal

abbrev pub invariant-loop-i : goal.invariant-loop-i
invariant-loop-i l = no_others (map (λ name. name.now) (drop l.i l.names)) l.at (view l.template) ≡ no_others (map (λ name. name.now) l.names) l.at (view l.template)
