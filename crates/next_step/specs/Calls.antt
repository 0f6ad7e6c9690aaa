-- What a call is answered at a history, and a worker's job that nobody disturbs.
use Rattle.std.specs.Prelude.{◌≡◌, ℕ, ◌+◌, ◌<◌, Some, None}
use Rattle.tree_types.specs.declared.entry.Key.{Key}
use Rattle.meaning.specs.Answers.{Facts}
use Rattle.history.specs.History.{version_at, grown}
use Rattle.law.specs.Documents.{Text, Document}
use Rattle.law.specs.Contents.{Flow, Content, apply, Story, number_at}
use Rattle.law.specs.Due.{Matter}
use Rattle.next_step.specs.Views.{Seen, Views}
use Rattle.next_step.specs.Next.{get, act, worker_next}
use Rattle.next_step.specs.Changes.{Change, change_of, AddsFor, ShownAt}
use Rattle.next_step.specs.Replies.{Reply, found, accepted, no_object, exists, conflict, fault, goes_on, after}

-- a get
abbrev pub Got : Story → Key → Reply → Type 0
Got h k (found x) = ShownAt h k x.number x.content x.tick
Got h k no_object = version_at apply h k ≡ None
Got h k fault = Unit {0}
Got h k _ = ⊥

-- the object stood at the version from which the change is made, and the history has one entry more
pub record Accepts (h : Story) (c : Change) (x : Seen Content) (g : Story) : Type 0 where
  pub unmoved : number_at h c.key ≡ c.number
  pub grows : g ≡ grown h c.event
  pub shows : ShownAt g c.key x.number x.content x.tick

-- a create or a write, with the history after it
abbrev pub Did : Story → Change → Reply → Story → Type 0
Did h c (accepted x) g = Accepts h c x g
Did h c exists g = (c.number ≡ 0) × (0 < number_at h c.key) × (g ≡ h)
Did h c (conflict expected there) g =
    (0 < c.number) × (expected ≡ c.number) × (there ≡ number_at h c.key) × (expected < there) × (g ≡ h)
Did h c fault g = g ≡ h
Did h c _ g = ⊥

-- From a history and views on to a history and views: each call is the next one by the views, and is answered at the
-- history that the call before it left.
pub data Undisturbed (D : Document) (w : Text) : Story → Views → Story → Views → Type 0 where
  stays : {h : Story} {v : Views} → Undisturbed D w h v h v
  reads :
      {h g : Story} {v u : Views} (k : Key) (r : Reply) (x : Views) → worker_next D w v ≡ get k → Got h k r →
      after v (get k) r ≡ goes_on x → Undisturbed D w h x g u → Undisturbed D w h v g u
  acts :
      {h i g : Story} {v u : Views} (m : Matter) (s : Seen Flow) (facts : Facts) (r : Reply) (x : Views) →
      worker_next D w v ≡ act m → v.flow ≡ Some s → AddsFor s facts m → Did h (change_of w v s facts m) r i →
      after v (act m) r ≡ goes_on x → Undisturbed D w i x g u → Undisturbed D w h v g u

-- how many calls that were
abbrev pub calls_of :
    {D : Document} {w : Text} {h g : Story} {v u : Views} → Undisturbed D w h v g u → ℕ
calls_of stays = 0
calls_of (reads k r x e got on rest) = calls_of rest + 1
calls_of (acts m s facts r x e viewed adds d on rest) = calls_of rest + 1
