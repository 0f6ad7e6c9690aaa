use Rattle.std.proofs.Common.{◌≡◌, ◌++◌, codes, take}
use Rattle.std.specs.Prelude.{flat_map}
use Rattle.history_text.specs.Lines.{sel_text}
use Rattle.history_text.proofs.parts.path_text.Given as goal

abbrev pub invariant-loop-sel : goal.invariant-loop-sel
invariant-loop-sel l = l.text ≡ l.initial.text ++ flat_map (λ sel. codes "/" ++ sel_text sel) (take l.sel-index l.further)
