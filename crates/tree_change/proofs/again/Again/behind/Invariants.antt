-- The tasks so far were looked at.
use Rattle.std.proofs.Common.{◌≡◌, [], get_or, take}
use Rattle.meaning.specs.Dags.{Standings}
use Rattle.dag_stays.specs.Behind.{AreBehind}
use Rattle.tree_change.specs.Inside.Behind.{AreTagged, IsSoFar}
use Rattle.tree_change.specs.Inside.Resuming.{calls_now}
use Rattle.tree_change.proofs.again.Again.behind.Given as goal

abbrev pub invariant-loop-i : goal.invariant-loop-i
invariant-loop-i g l =
    let A = g.R.Recorded.answers l.self.walk.recorded.now in
    let called = calls_now g.R.Recorded.answers l.self l.left in
    let ks = get_or l.plan.behind l.j [] in
    record {
      followers : l.followers ≡ ks;
      so_far : (us : Standings) → AreTagged us → AreBehind A called l.place l.scope l.dag us ks l.middle → IsSoFar A called l.place l.scope l.dag us (take l.i ks) l.middle l.so_far;
    }
