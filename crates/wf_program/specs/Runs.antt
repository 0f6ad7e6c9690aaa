-- What a whole run did, by the status that it answers. All of it is this project's own.
use Rattle.std.specs.Prelude.{◌≡◌, ◌≢◌, ◌⊎◌, ℕ, ◌+◌, ◌-◌, ◌^◌, ◌<◌, ◌≤◌, List, [], ◌∷◌, ◌++◌, length, Bool, true, false, Ok}
use Rattle.std.specs.Io.KnownBytes.{Appends, Consumes, IsAtEnd}
use Rattle.std.specs.declared.option.Option.{Option}
use Rattle.std.specs.declared.option.Option.TheVariants.{Some, None}
use Rattle.base_types.specs.Limits.{longest_input}
use Rattle.io_edge.specs.Cause.{Rose}
use Rattle.io_edge.specs.Transfer.{StoppedAt}
use Rattle.history.specs.History.{Extends}
use Rattle.object_store.specs.Stored.{most_faults}
use Rattle.law.specs.Documents as law
use Rattle.law.specs.Contents.{Story}
use Rattle.law.specs.Justified.{IsLawful}
use Rattle.law.specs.Due.{IsPaced}
use Rattle.law.specs.Once.{Once}
use Rattle.law.specs.States.{IsAsSaid}
use Rattle.next_step.specs.Rounds.{entries_in}
use Rattle.plain_laws.specs.PlainTrees.{PlainTrees}
use Rattle.run_laws.specs.Submissions.{begun}
use Rattle.sim_schedule.specs.Sweeping.{IsOver}
use Rattle.sim_schedule.specs.Simulating.{Followed}
use Rattle.run_texts.specs.declared.shown.Shown.{Shown}
use Rattle.run_texts.specs.RunTexts.{run_text, too_large_text}
use Rattle.command_words.specs.declared.order.Mode.{Mode}
use Rattle.command_words.specs.declared.order.Mode.TheVariants as mode
use Rattle.command_words.specs.declared.order.Order.{Order}
use Rattle.command_words.specs.Orders.{order_of}
use Rattle.wf_bundle.specs.declared.document.Document.{Document}
use Rattle.wf_bundle.specs.Documents.{document_of}
use Rattle.generator.specs.Bundles.{bundle, bundle_text}
use Rattle.wf_object.specs.Documents.{law_of}
use Rattle.wf_program.specs.declared.status.Status.{Status}
use Rattle.wf_program.specs.declared.status.Status.TheVariants.{Done, Usage, ReadFault, WriteFault, NotJson, Refused, StoreFault, TooLarge, Memory, TooLong}
use Rattle.wf_program.specs.Statuses.{fixed_text}
use Rattle.wf_program.specs.Answers.{IsDocument, Answers}

-- ---- what is seen of a run

-- A source or a sink, before the run and after it: the bytes that the source has left or the sink holds, where they are
-- known, and how many of its calls have failed.
pub record Edge : Type 0 where
  pub bytes_before : Option (List ℕ)
  pub bytes_after : Option (List ℕ)
  pub faults_before : ℕ
  pub faults_after : ℕ

abbrev pub edge : Option (List ℕ) → Option (List ℕ) → ℕ → ℕ → Edge
edge before after faults now =
    record { bytes_before = before; bytes_after = after; faults_before = faults; faults_after = now }

-- the store of a run at its end: its history, how many of its last calls in a row failed, and how many its outage has failed
pub record Kept : Type 0 where
  pub history : Story
  pub row : ℕ
  pub faults : ℕ

-- the store is there only where one was made; the outage had failed so many calls before the run
pub record Run : Type 0 where
  pub words : List (List ℕ)
  pub source : Edge
  pub sink : Edge
  pub faults_before : ℕ
  pub store : Option Kept

abbrev pub run_of : List (List ℕ) → Edge → Edge → ℕ → Option Kept → Run
run_of words source sink before store =
    record { words = words; source = source; sink = sink; faults_before = before; store = store }

-- a call failed in this run
abbrev pub SomeFailed : Edge → Type 0
SomeFailed edge = Rose edge.faults_before edge.faults_after

-- no call failed in this run
abbrev pub NoneFailed : Edge → Type 0
NoneFailed edge = edge.faults_after ≡ edge.faults_before

-- ---- what was read

-- `generate` reads no input
abbrev pub reads_input : Mode → Bool
reads_input mode.Run = true
reads_input mode.Simulate = true
reads_input mode.Check = true
reads_input mode.Generate = false

-- nothing was read, and no read failed
abbrev pub IsUntouched : Edge → Type 0
IsUntouched source = (source.bytes_after ≡ source.bytes_before) × NoneFailed source

-- the words say this order, which reads its input, and these bytes were read
pub record HasRead (words : List (List ℕ)) (source : Edge) (order : Order) (input : List ℕ) : Type 0 where
  pub said : order_of words ≡ Some order
  pub reads : reads_input order.mode ≡ true
  pub consumed : Consumes source.bytes_before source.bytes_after input

-- besides, they are all that was left and not too many, and no read failed
pub record HasReadAll (words : List (List ℕ)) (source : Edge) (order : Order) (input : List ℕ) : Type 0 where
  pub read : HasRead words source order input
  pub all : IsAtEnd source.bytes_after
  pub bound : length input ≤ longest_input
  pub unfailed : NoneFailed source

-- all was read, and so it is answered
pub record IsAnswered (words : List (List ℕ)) (source : Edge) (status : Status) (text : List ℕ) : Type 0 where
  pub order : Order
  pub input : List ℕ
  pub read : HasReadAll words source order input
  pub answers : Answers order input status text

-- the words say an order to make a document by a number, and nothing was read
pub record Generates (words : List (List ℕ)) (source : Edge) (order : Order) : Type 0 where
  pub said : order_of words ≡ Some order
  pub mode : order.mode ≡ mode.Generate
  pub untouched : IsUntouched source

-- ---- the document that is run

abbrev pub shown : Bool → Bool → Shown
shown summary history = record { summary = summary; history = history }

-- the document that was read, of which the words say in which mode it is run and what is shown
pub record IsRead (words : List (List ℕ)) (source : Edge) (m : Mode) (D : Document) (s : Shown) : Type 0 where
  pub order : Order
  pub input : List ℕ
  pub read : HasReadAll words source order input
  pub mode : order.mode ≡ m
  pub document : IsDocument input D
  pub shows : s ≡ shown order.summary order.history

-- the document that was made, of which the summary is shown
pub record IsMade (words : List (List ℕ)) (source : Edge) (D : Document) (s : Shown) : Type 0 where
  pub order : Order
  pub generates : Generates words source order
  pub itself : order.bundle ≡ false
  pub document : document_of (bundle order.seed order.size) ≡ Ok D
  pub shows : s ≡ shown true false

-- a document is to be run in this mode
abbrev pub IsToRun : List (List ℕ) → Edge → Mode → Document → Shown → Type 0
IsToRun words source mode.Run D s = IsRead words source mode.Run D s
IsToRun words source mode.Simulate D s = IsRead words source mode.Simulate D s
IsToRun words source mode.Generate D s = IsMade words source D s
IsToRun words source mode.Check D s = ⊥

-- ---- a run over a store

-- What is promised of every history that a run leaves, at every moment of it: no attempt has two pods and no pod's name is made
-- twice, no lock has more holders than its limit, each grant went to the first eligible waiter, and each stored tree is the
-- written meaning of its manifest and its facts (`Once`); and the store keeps what the entries say.
pub record Promised (D : law.Document) (h : Story) : Type 0 where
  pub lawful : IsLawful D h
  pub once : Once D h
  pub said : (k : Story) → Extends h k → IsAsSaid D k

-- The run of a document over a new store: its history begins with the submissions of the workflows in their order, and keeps the
-- pace; nothing is due at its end, nor at a later tick, but in these workflows, which are full. Each other workflow of the document
-- that is plain has the tree that follows from the planned outcomes alone.
pub record Ran (D : law.Document) (h : Story) (full : List (List ℕ)) : Type 0 where
  pub promised : Promised D h
  pub begins : Extends h (begun D D.workflows)
  pub paced : IsPaced D 0 h
  pub over : IsOver D h full
  pub plain : PlainTrees D h full

-- The same of a run that follows the schedule of the document: behind the submissions each call is the one that its hand makes
-- next, answered as the store stands then or as the hand's lag has it, and no more calls failed than the outage failed in this
-- run. Behind the schedule the history keeps the pace.
pub record RanBySchedule (D : Document) (h : Story) (before after : ℕ) (full : List (List ℕ)) : Type 0 where
  pub promised : Promised (law_of D) h
  pub begins : Extends h (begun (law_of D) (law_of D).workflows)
  pub end : Story
  pub followed : Followed (law_of D) D.schedule (begun (law_of D) (law_of D).workflows) before end after
  pub later : Extends h end
  pub paced : IsPaced (law_of D) (entries_in end) h
  pub over : IsOver (law_of D) h full
  pub plain : PlainTrees (law_of D) h full

-- what is said of a run in a mode, whose outage had failed so many calls before
abbrev pub RanIn : Mode → ℕ → Document → Kept → List (List ℕ) → Type 0
RanIn mode.Simulate before D k full = RanBySchedule D k.history before k.faults full
RanIn _ before D k full = Ran (law_of D) k.history full

-- how such a run ended, by its status
abbrev pub RunEnds : Mode → ℕ → Document → Shown → Kept → Status → List ℕ → Type 0
-- Nothing is due. The text shows the run.
RunEnds m before D s k Done text = RanIn m before D k [] × (text ≡ run_text s.summary s.history k.history)
-- Nothing is due but in these workflows. The text shows the run, and names them.
RunEnds m before D s k TooLarge text = (full : List (List ℕ)) × RanIn m before D k full × (full ≢ [])
    × (text ≡ run_text s.summary s.history k.history ++ too_large_text full)
-- Sixteen calls of the store in a row failed.
RunEnds m before D s k StoreFault text =
    Promised (law_of D) k.history × (k.row ≡ most_faults) × (text ≡ fixed_text StoreFault)
-- Memory was wanting.
RunEnds m before D s k Memory text = Promised (law_of D) k.history × (text ≡ fixed_text Memory)
RunEnds m before D s k _ text = ⊥

-- a store was made of the document that was to be run, and the run ended so
pub record HasRun (words : List (List ℕ)) (source : Edge) (before : ℕ) (k : Kept) (status : Status) (text : List ℕ) : Type 0 where
  pub runs_in : Mode
  pub document : Document
  pub shows : Shown
  pub runs : IsToRun words source runs_in document shows
  pub ends : RunEnds runs_in before document shows k status text

-- ---- ends without a store

abbrev pub EndsBefore : List (List ℕ) → Edge → Status → List ℕ → Type 0
-- 2: The words are not of the command. Nothing is read.
EndsBefore words source Usage text = (order_of words ≡ None) × IsUntouched source × (text ≡ fixed_text Usage)
-- 3: A read failed, behind so many bytes.
EndsBefore words source ReadFault text = (order : Order) × (input : List ℕ) × HasRead words source order input
    × (length input ≤ longest_input) × SomeFailed source × (text ≡ fixed_text ReadFault)
-- 10: One byte more was read than an input may have, and no read failed.
EndsBefore words source TooLong text = (order : Order) × (input : List ℕ) × HasRead words source order input
    × (length input ≡ longest_input + 1) × NoneFailed source × (text ≡ fixed_text TooLong)
-- 5, 6: All was read, and it is the text of no JSON value, or of a value that breaks a rule.
EndsBefore words source NotJson text = IsAnswered words source NotJson text
EndsBefore words source Refused text = IsAnswered words source Refused text
-- 0: All was read, and it is a document, of which the number of workflows is asked for; or nothing was read, and the text is
-- that of the document that is made by a number.
EndsBefore words source Done text =
    IsAnswered words source Done text
    ⊎ ((order : Order) × Generates words source order × (order.bundle ≡ true)
    × (text ≡ bundle_text order.seed order.size ++ 10 ∷ []))
-- 9: Memory was wanting, behind so many bytes, and no read failed.
EndsBefore words source Memory text = (input : List ℕ) × Consumes source.bytes_before source.bytes_after input
    × (length input ≤ longest_input) × NoneFailed source × (text ≡ fixed_text Memory)
EndsBefore words source _ text = ⊥

-- ---- what a run did

-- a run ends without a store, or as its store has run
abbrev pub Ends : List (List ℕ) → Edge → ℕ → Option Kept → Status → List ℕ → Type 0
Ends words source before None status text = EndsBefore words source status text
Ends words source before (Some k) status text = HasRun words source before k status text

-- What a run did that answers this status.
abbrev pub Did : Run → Status → Type 0
-- 4: It ended with another status, a write failed, and of its text only a start is written.
Did run WriteFault = (status : Status) × (text : List ℕ) × (count : ℕ)
    × Ends run.words run.source run.faults_before run.store status text × SomeFailed run.sink
    × StoppedAt run.sink.bytes_before run.sink.bytes_after text count
-- Else it ended with this status, its text is written whole, and no write failed.
Did run status = (text : List ℕ) × Ends run.words run.source run.faults_before run.store status text
    × NoneFailed run.sink × Appends run.sink.bytes_before run.sink.bytes_after text

-- ---- where nothing fails

-- no call failed, on a count that would show it
pub record IsUnfailed (edge : Edge) : Type 0 where
  pub none : NoneFailed edge
  pub shows : edge.faults_before < 2 ^ 64 - 1

-- no read failed and no write did
pub record NoTransferFailed (run : Run) : Type 0 where
  pub source : IsUnfailed run.source
  pub sink : IsUnfailed run.sink

-- a status that speaks of no read and no write that failed
abbrev pub NamesNoFailedTransfer : Status → Type 0
NamesNoFailedTransfer ReadFault = ⊥
NamesNoFailedTransfer WriteFault = ⊥
NamesNoFailedTransfer status = Unit {0}
