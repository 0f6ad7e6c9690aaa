use Rattle.std.proofs.Common.{◌≡◌, ◌++◌, length}
use denote.Text.{Utf8}
use denote.Shadow.{shadow}
use Rattle.fanout.specs.ItemTexts.{without_parentheses}
use Rattle.fanout.proofs.texts.push_without_parentheses.Given as goal

abbrev pub invariant-loop-front : goal.invariant-loop-front
invariant-loop-front l = shadow (Utf8 l.rest) × (l.fn.text ++ without_parentheses l.more ≡ l.text ++ without_parentheses l.rest)

abbrev pub decreases-loop-front : goal.decreases-loop-front
decreases-loop-front l = length l.rest
