-- The counts are those of the two trees.
use Rattle.std.proofs.Common.{ℕ, ◌++◌, [], ◌∷◌, List, length, Option, ap, ◌∙◌, subst}
use Rattle.std.specs.Prelude.{IfSome}
use Rattle.meaning.specs.declared.lines.Line.{Line}
use Rattle.meaning.specs.Answers.{answers}
use Rattle.meaning.specs.Trees.{wants_in}
use Rattle.pod_laws.specs.NewPods.{IsAnswer}
use Rattle.tree_state.specs.Finding.{pods_in}
use Rattle.tree_eval.specs.Whole.{lines_of}
use Rattle.tree_incr.specs.declared.answered.Answered.{Answered}
use Rattle.tree_incr.specs.Inside.{IsMany}
use Rattle.tree_incr.proofs.Counted.{told_by}
use Rattle.tree_incr.proofs.Found.{lines_kept}
use Rattle.tree_incr.proofs.state.TreeState.new_pods_in.Goals as goal

abbrev many : List Line → ℕ
many ls = length (pods_in (wants_in ls))

pub returns : goal.returns
returns c f answer is =
    let w = c.args.self.now in
    let law = c.lines_are_meant.ensures in
    let answers_so = subst (λ (o : Option Answered). IfSome o (λ a. IsAnswer w.manifest w.facts f × IsMany f a)) c.in-Some.is answer.counts in
    let then = lines_kept law c.self.inside w c.self.invariant c.self.view_is c.deref.result.now c.deref.ensures in
    let now = ap lines_of is.meant ∙ law w.manifest (answers (w.facts ++ f ∷ [])) in
    told_by c.none_new_by_count.ensures c.one_new_by_count.ensures c.names_are_kept.ensures c.front_is_kept.ensures w.manifest w.facts f answers_so.0
    c.in-Some.answered.pods c.in-Some-pods.before c.in-Some-pods-2.now c.by_counts.result answers_so.1.pods
    (c.in-Some-pods.ensures ∙ ap many then) (c.in-Some-pods-2.ensures ∙ ap many now) c.by_counts.ensures
