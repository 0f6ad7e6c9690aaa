-- The parts of a run, as the functions below the top call see them.
use Rattle.std.specs.Prelude.{◌≡◌, ◌≢◌, ◌⊎◌, ℕ, List, [], ◌∷◌, ◌++◌, true, false, Ok as Found, Err as Broken}
use Rattle.serde_json.specs.Data.{Data}
use Rattle.std.specs.declared.option.Option.{Option}
use Rattle.std.specs.declared.option.Option.TheVariants.{Some, None}
use Rattle.std.specs.declared.result.Result.{Result}
use Rattle.std.specs.declared.result.Result.TheVariants.{Ok, Err}
use Rattle.std.specs.Io.KnownBytes.{Appends}
use Rattle.io_edge.specs.Transfer.{StoppedAt}
use Rattle.object_store.specs.Stored.{Stored, most_faults}
use Rattle.law.specs.Contents.{Content}
use Rattle.lawful.specs.Manifests.{HasValidWorkflows}
use Rattle.run_laws.specs.Submissions.{NamesDiffer}
use Rattle.bundle_rules.specs.Findings.{Refused}
use Rattle.document_laws.specs.Schedules.{HasItsHands}
use Rattle.wf_bundle.specs.Documents.{document_of}
use Rattle.generator.specs.Bundles.{bundle, bundle_text}
use Rattle.wf_object.specs.Documents.{law_of}
use Rattle.sim_schedule.specs.declared.end.RunEnd.{RunEnd}
use Rattle.sim_schedule.specs.declared.end.RunEnd.TheVariants as end
use Rattle.command_words.specs.declared.order.Mode.{Mode}
use Rattle.command_words.specs.declared.order.Mode.TheVariants as mode
use Rattle.command_words.specs.declared.order.Order.{Order}
use Rattle.run_texts.specs.declared.shown.Shown.{Shown}
use Rattle.wf_bundle.specs.declared.document.Document.{Document}
use Rattle.wf_program.specs.declared.asked.Asked.{Asked}
use Rattle.wf_program.specs.declared.asked.Asked.TheVariants as asked
use Rattle.wf_program.specs.declared.texts.Made.{Made}
use Rattle.wf_program.specs.declared.status.Status.{Status}
use Rattle.wf_program.specs.declared.status.Status.TheVariants.{Done, Memory, WriteFault}
use Rattle.wf_program.specs.declared.status.Status.TheVariants as status
use Rattle.wf_program.specs.Statuses.{fixed_text}
use Rattle.wf_program.specs.Answers.{IsDocument, Answers, valid_text, refused_text}
use Rattle.wf_program.specs.Runs.{Edge, Kept, SomeFailed, NoneFailed, EndsBefore, IsToRun, shown, Promised, RanIn, RunEnds}

-- the status of an end whose text was made or is fixed
abbrev pub status_in : Result Made Status → Status
status_in (Ok made) = made.status
status_in (Err status) = status

-- its text
abbrev pub text_in : Result Made Status → List ℕ
text_in (Ok made) = made.text
text_in (Err status) = fixed_text status

abbrev pub kept_of : {O : Type 0} → (O → ℕ) → Stored Content O → Kept
kept_of faults s = record { history = s.history; row = s.row; faults = faults s.outage }

-- the store that is left
abbrev pub kept_in : {O : Type 0} → (O → ℕ) → Option (Stored Content O) → Option Kept
kept_in faults None = None
kept_in faults (Some s) = Some (kept_of faults s)

-- each of its workflows is valid, no two have one name, and the hands of its schedule are there
pub record IsSound (D : Document) : Type 0 where
  pub valid : HasValidWorkflows (law_of D)
  pub names : NamesDiffer (law_of D).workflows
  pub hands : HasItsHands D.schedule

-- a mode in which the document that is read is run
abbrev pub RunsInput : Mode → Type 0
RunsInput mode.Run = Unit {0}
RunsInput mode.Simulate = Unit {0}
RunsInput _ = ⊥

-- what an order asks for of its whole input: to write a text, or to run the document that it is
abbrev pub AsksOf : Order → List ℕ → Result Asked Status → Type 0
AsksOf order input (Ok (asked.Told made)) = Answers order input made.status made.text
AsksOf order input (Ok (asked.Run m D s)) =
    IsDocument input D × (order.mode ≡ m) × RunsInput m × (s ≡ shown order.summary order.history) × IsSound D
AsksOf order input (Err status) = Answers order input status (fixed_text status)

-- what words ask for of a source: to write a text, or to run a document
abbrev pub Asks : List (List ℕ) → Edge → Result Asked Status → Type 0
Asks words source (Ok (asked.Told made)) = EndsBefore words source made.status made.text
Asks words source (Ok (asked.Run m D s)) = IsToRun words source m D s × IsSound D
Asks words source (Err status) = EndsBefore words source status (fixed_text status)

-- the same of a document that is read, and of a JSON value
abbrev pub OfDocument : Order → Document → Result Asked Status → Type 0
OfDocument order D (Ok (asked.Told made)) =
    (order.mode ≡ mode.Check) × (made.status ≡ Done) × (made.text ≡ valid_text D)
OfDocument order D (Ok (asked.Run m E s)) =
    (E ≡ D) × (order.mode ≡ m) × RunsInput m × (s ≡ shown order.summary order.history)
OfDocument order D (Err Memory) = Unit {0}
OfDocument order D (Err status) = ⊥

pub record OfRead (order : Order) (value : Data) (result : Result Asked Status) : Type 0 where
  pub document : Document
  pub sound : IsSound document
  pub reads : document_of value ≡ Found document
  pub is : OfDocument order document result

abbrev pub IsRefusal : Data → Result Asked Status → Type 0
IsRefusal value (Ok (asked.Told made)) = (refused : Refused) × (document_of value ≡ Broken refused)
    × (made.status ≡ status.Refused) × (made.text ≡ refused_text refused.item refused.rule refused.field)
IsRefusal value (Ok (asked.Run m D s)) = ⊥
IsRefusal value (Err Memory) = Unit {0}
IsRefusal value (Err status) = ⊥

abbrev pub OfValue : Order → Data → Result Asked Status → Type 0
OfValue order value result = OfRead order value result ⊎ IsRefusal value result

-- the same of an order to make a document by a number
abbrev pub AsksOfNumber : Order → Result Asked Status → Type 0
AsksOfNumber order (Ok (asked.Told made)) =
    (order.bundle ≡ true) × (made.status ≡ Done) × (made.text ≡ bundle_text order.seed order.size ++ 10 ∷ [])
AsksOfNumber order (Ok (asked.Run m D s)) =
    (m ≡ mode.Generate) × (order.bundle ≡ false) × (document_of (bundle order.seed order.size) ≡ Found D)
    × (s ≡ shown true false) × IsSound D
AsksOfNumber order (Err Memory) = Unit {0}
AsksOfNumber order (Err status) = ⊥

-- ---- a run over a new store

-- what a run in a mode has left of it
abbrev pub EndedSo : Mode → ℕ → Document → Kept → Result Unit RunEnd → Type 0
EndedSo m before D k (Ok _) = RanIn m before D k []
EndedSo m before D k (Err (end.TooLarge full)) = RanIn m before D k full × (full ≢ [])
EndedSo m before D k (Err end.StoreFault) = Promised (law_of D) k.history × (k.row ≡ most_faults)
EndedSo m before D k (Err end.Memory) = Promised (law_of D) k.history

-- without memory for a store there is none
abbrev pub RunLeaves : Mode → ℕ → Document → Shown → Option Kept → Status → List ℕ → Type 0
RunLeaves m before D s None status text = (status ≡ Memory) × (text ≡ fixed_text Memory)
RunLeaves m before D s (Some k) status text = RunEnds m before D s k status text

-- what was written of an end of this status and text, by the status that is answered
abbrev pub Wrote : Edge → Status → List ℕ → Status → Type 0
Wrote sink status text result =
    ((result ≡ status) × NoneFailed sink × Appends sink.bytes_before sink.bytes_after text)
    ⊎ ((result ≡ WriteFault) × SomeFailed sink
    × ((count : ℕ) × StoppedAt sink.bytes_before sink.bytes_after text count))
