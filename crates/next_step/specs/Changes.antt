-- The change that a worker makes where it acts, and when its views are of a history.
use Rattle.std.specs.Prelude.{◌≡◌, ℕ, ◌+◌, List, Option, Some, None}
use Rattle.tree_types.specs.declared.entry.Key.{Key}
use Rattle.tree_types.specs.declared.entry.Key.TheVariants as of_key
use Rattle.tree_types.specs.declared.entry.Entry.TheVariants.{Submit, Write, Create, File, Release, Save}
use Rattle.meaning.specs.Answers.{Facts}
use Rattle.history.specs.History.{Event, event, Extends, clock_of, version_at, IsVersionOf}
use Rattle.saves.specs.declared.Saved.{Saved}
use Rattle.law.specs.Documents.{Text}
use Rattle.law.specs.Contents.{Flow, PodObject, Book, Content, OfWorkflow, OfPod, OfLocks, OfCaches, flow, begun_pod, apply, Story}
use Rattle.law.specs.Justified.{Adds, carried_facts, renamed}
use Rattle.law.specs.Due.{Matter, record_fact, file, create, save, release, submit}
use Rattle.next_step.specs.Views.{Seen, Views, look_at, found_in}

-- of a key's object, from a version of it, or from 0 where the object is made
pub record Change : Type 0 where
  pub key : Key
  pub number : ℕ
  pub event : Event Content

abbrev pub change : Key → ℕ → Event Content → Change
change k n e = record { key = k; number = n; event = e }

-- 0 where there is no view
abbrev pub number_seen : {C : Type 0} → Option (Seen C) → ℕ
number_seen None = 0
number_seen (Some x) = x.number

abbrev pub tick_seen : {C : Type 0} → Option (Seen C) → ℕ
tick_seen None = 0
tick_seen (Some x) = x.tick

module _ (w : Text) (v : Views) (s : Seen Flow) where
  -- these facts, which are a fact and what closes the journal with it, are written
  abbrev pub writes : Facts → Change
  writes facts = change (of_key.Workflow w) s.number (event (Write w (s.number + 1) facts) None)

  abbrev pub resubmission : Text → Facts → Flow → Change
  resubmission name facts f =
      change (of_key.Workflow name) 0 (event (Submit name (Some w) facts) (Some (OfWorkflow f)))

  -- the pod begins at the view's tick; a save has the tick at which the saves were read
  abbrev pub change_of : Facts → Matter → Change
  change_of facts (record_fact x) = writes facts
  change_of facts (file lock k rank) = change of_key.Locks (number_seen v.book) (event (File lock k rank) None)
  change_of facts (create p name) =
      change (of_key.Pod w name) 0 (event (Create w name p s.tick) (Some (OfPod (begun_pod p s.tick))))
  change_of facts (save cache entry k outputs) =
      change of_key.Caches (number_seen v.saves) (event (Save cache entry k outputs (tick_seen v.saves)) None)
  change_of facts (release lock k) = change of_key.Locks (number_seen v.book) (event (Release lock k) None)
  change_of facts (submit c) =
      let carried = carried_facts c.memoized s.content in
      resubmission c.name carried (flow (renamed s.content.manifest c.name c.created) carried)

-- what a write of a fact needs
abbrev pub AddsFor : Seen Flow → Facts → Matter → Type 0
AddsFor s facts (record_fact x) = Adds s.content x facts
AddsFor s facts _ = Unit {0}

-- ---- views of a history

-- the object of a key stands so, and this is the clock
pub record ShownAt (h : Story) (k : Key) (number : ℕ) (content : Content) (tick : ℕ) : Type 0 where
  pub stood : version_at apply h k ≡ Some record { number = number; content = content }
  pub clock : clock_of h ≡ tick

-- saves that were read at this moment or later
pub record SavesSince (seen moment : Story) (c : Seen (List Saved)) : Type 0 where
  pub then : Story
  pub extends : Extends seen then
  pub since : Extends then moment
  pub shown : ShownAt then of_key.Caches c.number (OfCaches c.content) c.tick

-- each view shows its object as it stood at some moment of what was seen; the saves were read after the workflow
pub record ViewsOf (seen : Story) (w : Text) (v : Views) : Type 0 where
  -- when the workflow was read
  pub moment : Story
  pub extends : Extends seen moment
  pub flow :
      (s : Seen Flow) → v.flow ≡ Some s → ShownAt moment (of_key.Workflow w) s.number (OfWorkflow s.content) s.tick
  pub book :
      (b : Seen Book) → v.book ≡ Some b → IsVersionOf apply seen of_key.Locks b.number (OfLocks b.content) b.tick
  pub saves : (c : Seen (List Saved)) → v.saves ≡ Some c → SavesSince seen moment c
  pub pods :
      (name : Text) (x : Seen PodObject) → found_in (look_at v name) ≡ Some x →
      IsVersionOf apply seen (of_key.Pod w name) x.number (OfPod x.content) x.tick
