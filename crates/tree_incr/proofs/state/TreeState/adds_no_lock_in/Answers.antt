-- The counts are those of the two trees.
use Rattle.std.proofs.Common.{ℕ, ◌++◌, [], ◌∷◌, List, length, Option, ap, ◌∙◌, subst}
use Rattle.std.specs.Prelude.{IfSome}
use Rattle.meaning.specs.declared.lines.Line.{Line}
use Rattle.meaning.specs.Answers.{answers}
use Rattle.meaning.specs.Trees.{wants_in}
use Rattle.pod_laws.specs.NewPods.{IsAnswer}
use Rattle.tree_state.specs.Finding.{locks_in}
use Rattle.tree_eval.specs.Whole.{lines_of}
use Rattle.tree_incr.specs.declared.answered.Answered.{Answered}
use Rattle.tree_incr.specs.Inside.{IsMany}
use Rattle.tree_incr.proofs.Counted.{no_lock_by}
use Rattle.tree_incr.proofs.Found.{lines_kept}
use Rattle.tree_incr.proofs.state.TreeState.adds_no_lock_in.Goals as goal

abbrev many : List Line → ℕ
many ls = length (locks_in (wants_in ls))

pub returns : goal.returns
returns c f answer is true_so =
    let w = c.args.self.now in
    let law = c.lines_are_meant.ensures in
    let answers_so = subst (λ (o : Option Answered). IfSome o (λ a. IsAnswer w.manifest w.facts f × IsMany f a)) c.in-Some.is answer.counts in
    let then = lines_kept law c.self.inside w c.self.invariant c.self.view_is c.deref.result.now c.deref.ensures in
    let now = ap lines_of is.meant ∙ law w.manifest (answers (w.facts ++ f ∷ [])) in
    no_lock_by c.none_new_locks_by_count.ensures w.manifest w.facts f answers_so.0
    c.in-Some.answered.locks c.in-Some-locks.before c.in-Some-locks-2.now answers_so.1.locks
    (c.in-Some-locks.ensures ∙ ap many then) (c.in-Some-locks-2.ensures ∙ ap many now) (c.none_by_counts.ensures.0 true_so)
