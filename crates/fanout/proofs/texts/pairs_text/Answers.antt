use Rattle.std.proofs.Common.{◌≡◌, [], sym, ap, ◌∙◌}
use Rattle.serde_json.specs.View.{members_view}
use Rattle.fanout.proofs.NameText.{with_pairs, with_pairs-all}
use Rattle.fanout.proofs.texts.pairs_text.Goals as goal

pub returns : goal.returns
returns c =
    let l = c.loop-key in
    let end : l.key-iterator ≡ [] = c.in-None.ensures.steps.0 in
    ap (λ es. with_pairs l.pairs (members_view es)) (sym end) ∙ l.invariant.said ∙ with_pairs-all (members_view c.args.members.now.entries)
