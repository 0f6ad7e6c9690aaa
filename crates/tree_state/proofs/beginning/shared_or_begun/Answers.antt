-- The task does not begin in the chunk.
use Rattle.std.proofs.Common.{sym, ap, ◌∙◌}
use Rattle.std.specs.Prelude.{option_map}
use Rattle.meaning.specs.Lines.{Parts, then_parts}
use Rattle.tree_state.specs.Inside.Begun.{begins_in, begun_by}
use Rattle.tree_state.proofs.Begins.{skips}
use Rattle.tree_state.proofs.beginning.shared_or_begun.Goals as goal

pub returns-then-not-begins : goal.returns-then-not-begins
returns-then-not-begins c = λ rest.
    let path = c.args.path.now in
    let call = c.args.call.now in
    ap (λ (p : Parts). option_map (then_parts p) (begun_by rest path call)) c.in_ok-try_clone-2.ensures
    ∙ skips c.args.chunk.now.value rest path call (ap (λ (p : Parts). begins_in p path) (sym c.deref.ensures) ∙ sym c.begins.ensures ∙ c.if-not-begins.true)
