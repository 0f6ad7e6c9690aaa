-- All of the kind are ahead, and those that are done at the front are passed.
use Rattle.std.proofs.Common.{sym, subst, List, Option}
use Rattle.tree_types.specs.declared.want.Want.{Want}
use Rattle.meaning.specs.Trees.{wants}
use Rattle.ahead.specs.Left.{AheadOf}
use Rattle.ahead.proofs.Laws.{all_ahead, known_ahead, none_known}
use Rattle.ahead.proofs.listed.Ahead.moved.Goals as goal

pub returns : goal.returns
returns g c =
    let ws = wants c.args.state.now.manifest c.args.state.now.facts in
    let left = g.T.WantTest.accepts c.args.left.now in
    c.passed-2.ensures c.args.kind ws
    (subst (λ (o : Option (List Want)). AheadOf c.args.kind left o ws) (sym c.of.ensures) (known_ahead c.args.kind left c.in_ok-all.all ws (all_ahead c.args.kind left c.in_ok-all.all ws c.in_ok-all.ensures)))
