-- What was found, and what is found of the rest, is what is found of the whole.
use Rattle.std.proofs.Common.{◌≡◌, drop}
use Rattle.scopes.specs.Substitution.{Scope}
use Rattle.meaning.specs.Calls.{inputs_said}
use Rattle.call_texts.specs.Inside.Given.{IsGiven}
use Rattle.call_texts.proofs.InOrder.{behind}
use Rattle.call_texts.proofs.inputs.inputs_said.Given as goal

abbrev pub invariant-loop-i : goal.invariant-loop-i
invariant-loop-i l =
    (scope : Scope) → IsGiven l.given scope →
    behind l.params (inputs_said l.globals scope (drop l.i l.inputs)) ≡ inputs_said l.globals scope l.inputs
