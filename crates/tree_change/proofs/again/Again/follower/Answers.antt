-- By what becomes of the task, whatever the others made.
use Rattle.std.proofs.Common.{false, ap, subst, ◌∙◌}
use Rattle.meaning.specs.Dags.{look, standing}
use Rattle.meaning.specs.Calls.{calls}
use Rattle.dag_stays.specs.declared.following.Following.{Following}
use Rattle.dag_stays.specs.Behind.{standing_of}
use Rattle.dag_stays.specs.Following.{StandsSo}
use Rattle.tree_change.proofs.Waiting.{task_there}
use Rattle.tree_change.proofs.again.Again.follower.Goals as goal

pub returns-in-Waits : goal.returns-in-Waits
returns-in-Waits g c us ks tagged behind =
    let m = c.args.self.now.walk.manifest.now in
    let A = g.R.Recorded.answers c.args.self.now.walk.recorded.now in
    let called = calls m A c.args.self.now.walk.globals.now c.args.left in
    let place = c.args.place.now in
    let scope = c.args.scope.now in
    let d = c.args.dag.now in
    let k = c.args.k in
    let (t, there) = task_there d.tasks k c.requires.place in
    ap (standing_of A called place scope d us k) there
    ∙ subst (λ (f : Following). StandsSo A called place scope d us k t (standing A called place scope d (look us) k t) f) c.in-Waits.is
    (c.in_ok-what_becomes.ensures false A called place scope us t behind.over behind.tasks there)

pub returns-in-Freed : goal.returns-in-Freed
returns-in-Freed g c us ks tagged behind =
    let m = c.args.self.now.walk.manifest.now in
    let A = g.R.Recorded.answers c.args.self.now.walk.recorded.now in
    let called = calls m A c.args.self.now.walk.globals.now c.args.left in
    let place = c.args.place.now in
    let scope = c.args.scope.now in
    let d = c.args.dag.now in
    let k = c.args.k in
    let t = c.get.result.now in
    c.freed_behind.ensures us tagged
    (subst (λ (f : Following). StandsSo A called place scope d us k t (standing A called place scope d (look us) k t) f) c.in-Freed.is
    (c.in_ok-what_becomes.ensures false A called place scope us t behind.over behind.tasks c.get.ensures))
