use Rattle.std.proofs.Common.{List, ℕ, ◌++◌, take, ap, ◌∙◌}
use Rattle.std.specs.List.{flat_map}
use Rattle.run_texts.specs.Inside.Trees.{text_by}
use Rattle.run_texts.proofs.Submitted.{trees_ended}
use Rattle.run_texts.proofs.trees.trees_text.Goals as goal

pub returns : goal.returns
returns g c =
    let h = c.args.store.now.history in
    let es = c.as_slice-entries.result.now in
    let i = c.loop-entry.entry-index in
    trees_ended h es i c.loop-entry.text c.loop-entry-test.false (c.as_slice-entries.ensures ∙ c.entries.ensures)
    (c.loop-entry.invariant ∙ ap (λ (t : List ℕ). t ++ flat_map (text_by h) (take i es)) c.new-text.ensures)
