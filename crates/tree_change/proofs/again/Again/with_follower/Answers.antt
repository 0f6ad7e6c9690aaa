-- A task that waits changes nothing, and the entry of one that enters is put where it belongs.
use Rattle.std.proofs.Common.{subst}
use Rattle.meaning.specs.Lines.{Made}
use Rattle.meaning.specs.Calls.{calls}
use Rattle.tree_state.specs.Inserting.{HasPut}
use Rattle.dag_stays.proofs.Placed.{call_is_here}
use Rattle.dag_stays.proofs.RunsBehind.{step_waits, step_enters, one_goes, still_goes}
use Rattle.tree_change.specs.declared.behind.Follower.{Follower}
use Rattle.tree_change.specs.declared.behind.Follower.TheVariants.{Waits}
use Rattle.tree_change.specs.Inside.Behind.{newest, TellsFollower, EntersSo}
use Rattle.tree_change.proofs.Waiting.{some_of}
use Rattle.tree_change.proofs.again.Again.with_follower.Goals as goal

pub returns-in-Some-Waits : goal.returns-in-Some-Waits
returns-in-Some-Waits g c us ks done tagged behind among fresh so_far =
    let m = c.args.self.now.walk.manifest.now in
    let A = g.R.Recorded.answers c.args.self.now.walk.recorded.now in
    let scopes = c.args.self.now.walk.globals.now in
    let left = c.args.left in
    let called = calls m A scopes left in
    let place = c.args.place.now in
    let scope = c.args.scope.now in
    let d = c.args.dag.now in
    let k = c.args.k in
    let middle = c.args.middle.now in
    let told : TellsFollower A called place scope d us k Waits =
    subst (λ (f : Follower). TellsFollower A called place scope d us k f) c.in-Some-Waits.field-0-is
    (some_of c.in_ok-follower.field-0 c.in-Some-Waits.field-0 (TellsFollower A called place scope d us k) c.in-Some-Waits.is (c.in_ok-follower.ensures us ks tagged behind)) in
    record {
      followed = step_waits A called (call_is_here m A scopes left) place scope d us ks middle behind done k among fresh (newest c.args.so_far.state middle) so_far.followed told;
      goes = λ on. still_goes A called place scope d us done k (so_far.goes on);
    }

pub returns : goal.returns
returns g c us ks done tagged behind among fresh so_far =
    let m = c.args.self.now.walk.manifest.now in
    let A = g.R.Recorded.answers c.args.self.now.walk.recorded.now in
    let scopes = c.args.self.now.walk.globals.now in
    let left = c.args.left in
    let called = calls m A scopes left in
    let place = c.args.place.now in
    let scope = c.args.scope.now in
    let d = c.args.dag.now in
    let k = c.args.k in
    let middle = c.args.middle.now in
    let e = c.in-Some-Enters.entry in
    let enters : EntersSo A called place scope d us k e =
    subst (λ (f : Follower). TellsFollower A called place scope d us k f) c.in-Some-Enters.field-0-is
    (some_of c.in_ok-follower.field-0 c.in-Some-Enters.field-0 (TellsFollower A called place scope d us k) c.in-Some-Enters.is (c.in_ok-follower.ensures us ks tagged behind)) in
    let put : HasPut k e (newest c.args.so_far.state middle) c.in-Some.state =
    subst (λ (b : Made). HasPut k e b c.in-Some.state) c.newest-newest.ensures
    (some_of c.in_ok-with_entry-in-Some-Enters.field-0 c.in-Some.state (HasPut k e c.newest-newest.result.now) c.in-Some.is c.in_ok-with_entry-in-Some-Enters.ensures) in
    record {
      followed =
          step_enters A called (call_is_here m A scopes left) place scope d us ks middle behind done k among fresh (newest c.args.so_far.state middle) so_far.followed e c.in-Some.state enters.not_over enters.entry
          c.requires.place put;
      goes = λ on. one_goes A called (call_is_here m A scopes left) place scope d us ks middle behind done k among fresh (newest c.args.so_far.state middle) so_far.followed c.requires.place enters.goes;
    }
