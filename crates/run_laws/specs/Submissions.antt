-- The submissions of the workflows of a document, with which its history begins.
use Rattle.std.specs.Prelude.{◌≡◌, List, [], ◌∷◌, ◌++◌, length, map, filter_map, Option, Some, None}
use Rattle.tree_types.specs.declared.entry.Key.TheVariants as of_key
use Rattle.tree_types.specs.declared.entry.Entry.{Entry}
use Rattle.tree_types.specs.declared.entry.Entry.TheVariants.{Submit}
use Rattle.wf_manifest.specs.declared.manifest.Manifest.{Manifest}
use Rattle.growth.specs.Growth.{Among}
use Rattle.history.specs.History.{Event, event, Extends, grown, version_at}
use Rattle.law.specs.Documents.{Text, Document}
use Rattle.law.specs.Contents.{Content, OfWorkflow, flow, apply, Story, starts}
use Rattle.law.specs.Due.{IsPaced}

abbrev pub submitted_name : Entry → Option Text
submitted_name (Submit w old facts) = Some w
submitted_name _ = None

-- the names of the workflows, in order of submission
abbrev pub submitted : Story → List Text
submitted h = filter_map (λ e. submitted_name e.entry) h.events

-- the first submission of a workflow
abbrev pub submission : Manifest → Event Content
submission m = event (Submit m.name None []) (Some (OfWorkflow (flow m [])))

-- the store of a document after the submissions of these workflows
abbrev pub begun : Document → List Manifest → Story
begun D ms = record { start = starts D; events = map submission ms }

-- no two of them have one name
abbrev pub NamesDiffer : List Manifest → Type 0
NamesDiffer [] = Unit {0}
NamesDiffer (m ∷ ms) = ((x : Manifest) → Among x ms → x.name ≡ m.name → ⊥) × NamesDiffer ms

pub record SubmissionsGoWell : Type 0 where
  -- a workflow of another name than those before it is not there yet
  pub absent :
      (D : Document) (ms ls : List Manifest) (m : Manifest) → NamesDiffer (ms ++ m ∷ ls) →
      version_at apply (begun D ms) (of_key.Workflow m.name) ≡ None
  -- its submission is the next
  pub grows :
      (D : Document) (ms : List Manifest) (m : Manifest) → grown (begun D ms) (submission m) ≡ begun D (ms ++ m ∷ [])
  -- they are submitted in their order
  pub names : (D : Document) (ms : List Manifest) → submitted (begun D ms) ≡ map (λ m. m.name) ms
  -- none of the submissions moves the clock
  pub paced :
      (D : Document) (h : Story) → Extends h (begun D D.workflows) → IsPaced D (length D.workflows) h → IsPaced D 0 h
