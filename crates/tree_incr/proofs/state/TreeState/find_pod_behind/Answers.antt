-- The pods that the tree that is kept asks for are those that are meant.
use Rattle.std.proofs.Common.{Bool, List, ap, sym, ◌∙◌, subst}
use Rattle.std.specs.Prelude.{IfSome}
use Rattle.std.specs.List.{find}
use Rattle.tree_types.specs.declared.want.Want.{Want}
use Rattle.meaning.specs.declared.lines.Line.{Line}
use Rattle.meaning.specs.Trees.{wants_in}
use Rattle.tree_state.specs.Finding.{pods_in}
use Rattle.tree_eval.specs.Pods.{NoneAmong}
use Rattle.tree_incr.proofs.Found.{lines_kept}
use Rattle.tree_incr.proofs.state.TreeState.find_pod_behind.Goals as goal

pub returns-clause-first : goal.returns-clause-first
returns-clause-first g c none =
    let p : Want → Bool = g.T.WantTest.accepts c.args.test.now in
    let same = lines_kept c.lines_are_meant.ensures c.self.inside c.args.self.now c.self.invariant c.self.view_is c.deref.result.now c.deref.ensures in
    c.find_pod_behind.ensures.first (subst (λ (ls : List Line). NoneAmong c.args.known p (pods_in (wants_in ls))) (sym same) none)
    ∙ ap (λ (ls : List Line). find p (pods_in (wants_in ls))) same

pub returns-clause-known : goal.returns-clause-known
returns-clause-known g c none =
    let p : Want → Bool = g.T.WantTest.accepts c.args.test.now in
    let same = lines_kept c.lines_are_meant.ensures c.self.inside c.args.self.now c.self.invariant c.self.view_is c.deref.result.now c.deref.ensures in
    subst (λ (ls : List Line). IfSome c.find_pod_behind.result (λ f. NoneAmong f.0 p (pods_in (wants_in ls)))) same
    (c.find_pod_behind.ensures.known (subst (λ (ls : List Line). NoneAmong c.args.known p (pods_in (wants_in ls))) (sym same) none))
