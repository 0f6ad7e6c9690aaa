-- The tags of groups, one group after the other.
use Rattle.std.proofs.Common.{◌≤◌, List, length, take, ap, ◌∙◌, arith}
use Rattle.meaning.specs.Lines.{Made, row_in}
use Rattle.tree_change.proofs.Fronts.{groups_few}
use Rattle.tree_change.proofs.Tagging.{tags_more, tags_done, take_short}
use Rattle.tree_change.proofs.front.scope_behind.Goals as goal

pub loop-i-preserved : goal.loop-i-preserved
loop-i-preserved c called place n is =
    let row = c.in_ok-members.ensures ∙ ap (λ (b : Made). row_in b.parts) c.state.ensures in
    tags_more called place c.args.scope.now c.args.groups.now n c.args.states.now is c.loop-i.i c.loop-i.behind c.in_ok-behind-2.behind c.in_ok-tags.tags c.get.result.now c.get-in-loop-i.result.now c.in_ok-members.members c.get.ensures c.get-in-loop-i.ensures row c.in_ok-tags.ensures c.in_ok-behind-2.ensures (c.loop-i.invariant called place n is)

pub returns : goal.returns
returns c called place n is =
    let few = groups_few called place 0 c.args.scope.now (take n c.args.groups.now) in
    let short = take_short n c.args.groups.now in
    let long = ap (λ (ms : List Made). length ms) is in
    let past : length c.args.states.now ≤ c.loop-i.i = omega (arith, few, short, long) in
    let low : c.loop-i.i ≤ length c.args.states.now = omega arith in
    tags_done called place c.args.scope.now c.args.groups.now n c.args.states.now is c.loop-i.i c.loop-i.behind past low (c.loop-i.invariant called place n is)
