-- What speaks only of private code.
pub mod Filing
pub mod Held
pub mod Left
pub mod Marks
pub mod Saving
use Rattle.std.specs.Prelude.{◌≡◌, ℕ, true, List, map, reverse, Option, Some, None, is_some, option_map, option_and_then}
use Rattle.tree_types.specs.declared.entry.Key.{Key}
use Rattle.tree_types.specs.declared.entry.Key.TheVariants.{Workflow, Locks, Caches}
use Rattle.saves.specs.declared.Saved.{Saved}
use Rattle.object_store.specs.declared.snapshot.Snapshot.{Snapshot}
use Rattle.looks.specs.declared.Look.{Look}
use Rattle.law.specs.Documents.{Text}
use Rattle.law.specs.Contents.{Flow, PodObject, Book, Content, flow_in}
use Rattle.wf_object.specs.Kept.{locks_in, caches_in}
use Rattle.next_step.specs.Views.{Seen, Look as PodLook, Views}
use Rattle.next_step.specs.Replies.{seen}
use Rattle.worker_job.specs.declared.job.SeenPod.{SeenPod}
use Rattle.worker_job.specs.declared.job.Job.TheInside.{Inside}
use Rattle.worker_job.specs.Jobs.{OneJob}
use Rattle.worker_job.specs.Inside.Filing.{FilingFits}
use Rattle.worker_job.specs.Inside.Marks.{MarksFit, FoundFits}
use Rattle.worker_job.specs.Inside.Saving.{SavingFits}

-- ---- what was read, as views

abbrev pub flow_seen : Snapshot Content → Option (Seen Flow)
flow_seen s = option_map (λ f. seen s.version f s.tick) (flow_in (Some s.content))

abbrev pub book_seen : Snapshot Content → Option (Seen Book)
book_seen s = option_map (λ b. seen s.version b s.tick) (locks_in (Some s.content))

abbrev pub saves_seen : Snapshot Content → Option (Seen (List Saved))
saves_seen s = option_map (λ ss. seen s.version ss s.tick) (caches_in (Some s.content))

-- the saves, and the tick at which they were read
abbrev pub kept_saves : Option (Seen (List Saved)) → Option (List Saved × ℕ)
kept_saves None = None
kept_saves (Some c) = Some (c.content, c.tick)

abbrev pub pod_told : SeenPod → Seen PodObject
pod_told s = seen s.version s.pod s.tick

abbrev pub look_told : Look SeenPod → PodLook
look_told l = record { name = l.name; found = option_map pod_told l.found }

abbrev pub views_of : Inside → Views
views_of a = record {
  flow = option_and_then flow_seen a.flow;
  book = option_and_then book_seen a.book;
  saves = option_and_then saves_seen a.saves;
  pods = map look_told a.looks;
  tried = reverse a.tried;
}

abbrev pub job_of : Inside → OneJob
job_of a = record { workflow = a.workflow; views = views_of a }

-- the looks at pods, and the workflow that was read
abbrev pub looks_of : Inside → List PodLook
looks_of a = map look_told a.looks

abbrev pub flow_of : Inside → Option Flow
flow_of a = option_and_then (λ s. flow_in (Some s.content)) a.flow

-- a snapshot is of this key, and of its kind
abbrev pub IsOf : {C : Type 0} → Key → (Snapshot Content → Option (Seen C)) → Option (Snapshot Content) → Type 0
IsOf k see None = Unit {0}
IsOf k see (Some s) = (s.key ≡ k) × (is_some (see s) ≡ true)

pub record IsKept (w : Text) (flow book saves : Option (Snapshot Content)) : Type 0 where
  pub flow_of : IsOf (Workflow w) flow_seen flow
  pub book_of : IsOf Locks book_seen book
  pub saves_of : IsOf Caches saves_seen saves

-- and the marks, the pod that was found and what is left are right
pub record IsHeld (a : Inside) : Type 0 where
  pub kept : IsKept a.workflow a.flow a.book a.saves
  pub marked : MarksFit (looks_of a) (flow_of a) a.marks
  pub found : FoundFits (looks_of a) (flow_of a) a.found
  pub to_save : SavingFits a.to_save a.workflow (option_and_then flow_seen a.flow) (option_and_then saves_seen a.saves)
  pub to_file : FilingFits a.to_file a.workflow (option_and_then flow_seen a.flow) (option_and_then book_seen a.book)
