use Rattle.std.proofs.Common.{◌≡◌, ◌++◌, take}
use Rattle.run_texts.specs.RunTexts.{too_large_text}
use Rattle.run_texts.proofs.large.too_large_text.Given as goal

abbrev pub invariant-loop-name : goal.invariant-loop-name
invariant-loop-name l = l.text ≡ l.initial.text ++ too_large_text (take l.name-index l.names)
