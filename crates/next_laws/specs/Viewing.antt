-- The views of a job stay views of what was seen, however many entries of others come between.
use Rattle.std.specs.Prelude.{◌≡◌, Some, None}
use Rattle.tree_types.specs.declared.entry.Key.{Key}
use Rattle.tree_types.specs.declared.entry.Key.TheVariants as of_key
use Rattle.meaning.specs.Answers.{Facts}
use Rattle.history.specs.History.{Extends, version_at, IsVersionOf}
use Rattle.law.specs.Documents.{Text, Document}
use Rattle.law.specs.Contents.{Flow, Content, apply, Story}
use Rattle.law.specs.Due.{Matter}
use Rattle.next_step.specs.Views.{Seen, Views, nothing}
use Rattle.next_step.specs.Next.{get, act, worker_next}
use Rattle.next_step.specs.Changes.{change_of, ShownAt, ViewsOf}
use Rattle.next_step.specs.Replies.{Reply, found, no_object, fault, goes_on, after}
use Rattle.next_step.specs.Calls.{Did}

-- the saves are read as they stand, anything else perhaps as an older version
abbrev pub IsRead : Story → Key → Seen Content → Type 0
IsRead h of_key.Caches x = ShownAt h of_key.Caches x.number x.content x.tick
IsRead h k x = IsVersionOf apply h k x.number x.content x.tick

-- a get is answered at this history
abbrev pub Answers : Story → Key → Reply → Type 0
Answers h k (found x) = IsRead h k x
Answers h k no_object = version_at apply h k ≡ None
Answers h k fault = Unit {0}
Answers h k _ = ⊥

-- a job begins with views of what was seen; they stay so where more is seen, where the next read is answered at a history
-- that goes on from what was seen, and where the next change is
pub record ViewsStay : Type 0 where
  pub begin : (seen : Story) (w : Text) → ViewsOf seen w nothing
  pub later : (seen now : Story) (w : Text) (v : Views) → Extends now seen → ViewsOf seen w v → ViewsOf now w v
  pub reads :
      (D : Document) (seen now : Story) (w : Text) (v x : Views) (k : Key) (r : Reply) → Extends now seen →
      ViewsOf seen w v → worker_next D w v ≡ get k → Answers now k r → after v (get k) r ≡ goes_on x →
      ViewsOf now w x
  pub acts :
      (D : Document) (seen at now : Story) (w : Text) (v x : Views) (s : Seen Flow) (facts : Facts) (m : Matter)
      (r : Reply) → Extends at seen → ViewsOf seen w v → v.flow ≡ Some s → worker_next D w v ≡ act m →
      Did at (change_of w v s facts m) r now → after v (act m) r ≡ goes_on x → ViewsOf now w x
