-- The attempts so far stand before those that are meant to follow, and their room is taken.
use Rattle.std.proofs.Common.{◌≡◌, ◌+◌, ◌-◌, length}
use Rattle.meaning.specs.Lines.{row_of}
use Rattle.meaning.specs.Pods.{further, attempts}
use Rattle.tree_state.specs.Counting.{count_below}
use Rattle.leaf_states.specs.Inside.Attempts.{AreSoFar}
use Rattle.leaf_states.proofs.retries.try_all.Given as goal

abbrev pub invariant-loop-follow : goal.invariant-loop-follow
invariant-loop-follow g l =
    let A = g.R.Recorded.answers l.recorded in
    record {
      stand : AreSoFar A l.place l.declared l.retry l.all l.follow (attempts A l.place l.declared l.retry);
      taken : l.room + count_below (row_of l.all) ≡ l.fn.room;
    }

abbrev pub decreases-loop-follow : goal.decreases-loop-follow
decreases-loop-follow g l = 1 + further l.retry - length l.all
