-- The parts that are left decide.
use Rattle.std.proofs.Common.{◌≡◌, drop}
use Rattle.scopes.specs.Substitution.{has_item_tag}
use Rattle.call_texts.proofs.conditions.has_item_tag.Given as goal

abbrev pub invariant-loop-i : goal.invariant-loop-i
invariant-loop-i l = has_item_tag (drop l.i l.text) ≡ has_item_tag l.text
