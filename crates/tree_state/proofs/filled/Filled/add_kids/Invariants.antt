-- The kids that were added.
use Rattle.std.proofs.Common.{◌≡◌, take}
use Rattle.meaning.specs.Lines.{then_parts}
use Rattle.tree_state.specs.Inside.Kids.{parts_of}
use Rattle.tree_state.proofs.filled.Filled.add_kids.Given as goal

abbrev pub invariant-loop-kid : goal.invariant-loop-kid
invariant-loop-kid l = l.self ≡ then_parts l.fn.self (parts_of (take l.kid-index l.kids))
