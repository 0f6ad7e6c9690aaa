-- What a get reads that reads versions back.
use Rattle.std.specs.Prelude.{◌≡◌, ℕ, Some}
use Rattle.tree_types.specs.declared.entry.Key.{Key}
use Rattle.history.specs.History.{Version, version_at, IsVersionOf}
use Rattle.history.specs.Versions.{lowered}
use Rattle.law.specs.Contents.{Content, apply, Story, number_at}
use Rattle.next_step.specs.Views.{Seen}
use Rattle.next_step.specs.Backward.{read_back}

-- it has that number, and was so at some moment
pub record IsBack (h : Story) (k : Key) (back : ℕ) (x : Seen Content) : Type 0 where
  pub number : x.number ≡ lowered (number_at h k) back
  pub shown : IsVersionOf apply h k x.number x.content x.tick

-- and where the object stands, there is something to read
pub record ReadsBack : Type 0 where
  pub older : (h : Story) (k : Key) (back : ℕ) (x : Seen Content) → read_back h k back ≡ Some x → IsBack h k back x
  pub some :
      (h : Story) (k : Key) (back : ℕ) (v : Version Content) → version_at apply h k ≡ Some v →
      (x : Seen Content) × (read_back h k back ≡ Some x)
