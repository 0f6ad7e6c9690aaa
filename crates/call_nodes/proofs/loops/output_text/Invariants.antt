-- The values so far, and those of the items that are left.
use Rattle.std.proofs.Common.{◌≡◌, ◌++◌, drop, map}
use Rattle.serde_json.specs.View.{view}
use Rattle.tree_types.specs.declared.outcome.Outputs.{Outputs}
use Rattle.meaning.specs.Outputs.{param}
use Rattle.call_nodes.specs.Inside.Loops.{values}
use Rattle.call_nodes.proofs.loops.output_text.Given as goal

abbrev pub invariant-loop-i : goal.invariant-loop-i
invariant-loop-i l =
    let read = λ (o : Outputs). param l.name o.params in
    map view l.values.items ++ values read (drop l.i l.items) ≡ values read l.items
