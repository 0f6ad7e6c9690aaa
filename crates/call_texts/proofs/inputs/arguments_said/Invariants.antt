-- What was said, and what is said of the rest, is what is said of the whole.
use Rattle.std.proofs.Common.{◌≡◌, drop}
use Rattle.scopes.specs.Substitution.{Scope}
use Rattle.meaning.specs.Calls.{arguments_said}
use Rattle.call_texts.specs.Inside.Given.{IsGiven}
use Rattle.call_texts.proofs.InOrder.{behind}
use Rattle.call_texts.proofs.inputs.arguments_said.Given as goal

abbrev pub invariant-loop-i : goal.invariant-loop-i
invariant-loop-i l =
    (before : Scope) × IsGiven l.given before
    × (behind before (arguments_said l.scope (drop l.i l.arguments)) ≡ arguments_said l.scope l.arguments)
