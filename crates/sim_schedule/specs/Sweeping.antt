-- What a run leaves.
use Rattle.std.specs.Prelude.{◌≢◌, ℕ, List, [], ◌∷◌, Bool, Result, Ok, Err, is_some, if◌then◌else◌}
use Rattle.tree_types.specs.declared.entry.Key.TheVariants as of_key
use Rattle.wf_manifest.specs.declared.manifest.Manifest.{Manifest}
use Rattle.history.specs.History.{Extends, grown, version_at}
use Rattle.law.specs.Documents.{Text, Document}
use Rattle.law.specs.Contents.{apply, Story}
use Rattle.law.specs.Justified.{IsLawful}
use Rattle.law.specs.Due.{IsQuiet, IsPaced}
use Rattle.next_step.specs.Rounds.{entries_in}
use Rattle.run_laws.specs.Submissions.{submitted, submission}
use Rattle.run_laws.specs.Fulls.{Fulls}
use Rattle.sim_schedule.specs.declared.end.RunEnd.{RunEnd}
use Rattle.sim_schedule.specs.declared.end.RunEnd.TheVariants.{StoreFault, TooLarge, Memory}

-- ---- submissions

abbrev pub has_workflow : Story → Manifest → Bool
has_workflow h m = is_some (version_at apply h (of_key.Workflow m.name))

-- a workflow is submitted where none of its name is there
abbrev pub with_submission : Story → Manifest → Story
with_submission h m = if has_workflow h m then h else grown h (submission m)

-- these are, one after the other
abbrev pub with_submissions : Story → List Manifest → Story
with_submissions h [] = h
with_submissions h (m ∷ ms) = with_submissions (with_submission h m) ms

-- ---- what is kept from one moment of a run to another

pub record GoesOn (D : Document) (h g : Story) : Type 0 where
  pub later : Extends g h
  pub lawful : IsLawful D h → IsLawful D g

-- whatever the entries are from which on it is paced
abbrev pub KeepsPace : Document → Story → Story → Type 0
KeepsPace D h g = (n : ℕ) → IsPaced D n h → IsPaced D n g

-- a part of a run does not end it for full workflows
abbrev pub NamesNone : {A : Type 0} → Result A RunEnd → Type 0
NamesNone (Ok x) = Unit {0}
NamesNone (Err (TooLarge full)) = ⊥
NamesNone (Err StoreFault) = Unit {0}
NamesNone (Err Memory) = Unit {0}

-- ---- the end

-- nothing is due but in these workflows, which are full, and nothing will be at a later tick
pub record IsOver (D : Document) (h : Story) (full : List Text) : Type 0 where
  pub quiet : IsQuiet D h
  pub fulls : Fulls D h (submitted h) full

-- the run has submitted what was lacking, and from there on kept the pace, up to an end that is quiet
pub record Swept (D : Document) (h g : Story) (full : List Text) : Type 0 where
  pub later : Extends g (with_submissions h D.workflows)
  pub paced : IsPaced D (entries_in (with_submissions h D.workflows)) g
  pub over : IsOver D g full

abbrev pub SweepGives : Document → Story → Result Unit RunEnd → Story → Type 0
SweepGives D h (Ok _) g = Swept D h g []
SweepGives D h (Err (TooLarge full)) g = Swept D h g full × (full ≢ [])
SweepGives D h (Err StoreFault) g = Unit {0}
SweepGives D h (Err Memory) g = Unit {0}
