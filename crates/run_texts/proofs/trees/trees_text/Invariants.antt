use Rattle.std.proofs.Common.{◌≡◌, ◌++◌, take}
use Rattle.std.specs.List.{flat_map}
use Rattle.run_texts.specs.Inside.Trees.{text_by}
use Rattle.run_texts.proofs.trees.trees_text.Given as goal

abbrev pub invariant-loop-entry : goal.invariant-loop-entry
invariant-loop-entry g l = l.text ≡ l.initial.text ++ flat_map (text_by l.store.history) (take l.entry-index l.entries)
