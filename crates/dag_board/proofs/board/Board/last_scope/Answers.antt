-- The scope has the values of the tags of all tasks.
use Rattle.std.proofs.Common.{◌≡◌, ◌++◌, subst}
use Rattle.scopes.specs.Values.{HasValuesOf}
use Rattle.scopes.proofs.ValueIn.{alike_trans, over_alike}
use Rattle.meaning.specs.Dags.{standings, dag_tags}
use Rattle.dag_board.specs.Ends.{SeesAll}
use Rattle.dag_board.proofs.Values.{alike_refl, alike_is}
use Rattle.dag_board.proofs.Endings.{tags_are}
use Rattle.dag_board.proofs.Results.{ok_more}
use Rattle.dag_board.proofs.board.Board.last_scope.Goals as goal

pub returns : goal.returns
returns c =
    let d = c.args.dag.now in
    let plan = c.args.plan.now in
    let b = c.args.self.now in
    let around = c.args.scope.now in
    let tags = c.in_ok-tags.tags in
    ok_more c.with.result (λ s. s ≡ tags ++ around) (λ s. SeesAll d plan b around s)
    (λ s e A called place scope shown.
    (let all = dag_tags (standings A called place scope d) in
    alike_trans s (tags ++ around) (all ++ around) (alike_is s (tags ++ around) e)
    (over_alike all around tags around
    (subst (HasValuesOf tags) (tags_are d plan c.requires.plan b c.rounds_settle.ensures A called place scope shown) c.in_ok-tags.ensures)
    (alike_refl around))))
    c.with.ensures
