-- How a run ends that has read its input, or that reads none.
use Rattle.std.proofs.Common.{◌≡◌, ◌≢◌, inl, ℕ, ◌+◌, ◌≤◌, List, [], length, refl, sym, subst, arith}
use Rattle.std.specs.Io.KnownBytes.{Consumes}
use Rattle.std.specs.declared.option.Option.{Option}
use Rattle.std.specs.declared.option.Option.TheVariants.{Some, None}
use Rattle.std.specs.declared.result.Result.{Result}
use Rattle.std.specs.declared.result.Result.TheVariants.{Ok, Err}
use Rattle.io_edge.specs.Transfer.{Took}
use Rattle.command_words.specs.declared.order.Mode.{Mode}
use Rattle.command_words.specs.declared.order.Mode.TheVariants as mode
use Rattle.command_words.specs.declared.order.Order.{Order}
use Rattle.run_texts.specs.declared.shown.Shown.{Shown}
use Rattle.wf_bundle.specs.declared.document.Document.{Document}
use Rattle.wf_program.specs.declared.asked.Asked.{Asked}
use Rattle.wf_program.specs.declared.asked.Asked.TheVariants as asked
use Rattle.wf_program.specs.declared.status.Status.{Status}
use Rattle.wf_program.specs.declared.status.Status.TheVariants.{Done, Usage, ReadFault, WriteFault, NotJson, Refused, StoreFault, TooLarge, Memory, TooLong}
use Rattle.wf_program.specs.Statuses.{fixed_text}
use Rattle.wf_program.specs.Answers.{IsDocument, Answers}
use Rattle.wf_program.specs.Runs.{Edge, Kept, HasReadAll, IsAnswered, IsUntouched, shown, IsRead, IsToRun, EndsBefore, Ends}
use Rattle.wf_program.specs.Inside.Ends.{AsksOf, Asks, RunsInput, RunLeaves}

-- what was given is all that was taken, and not too much
pub all_taken : {E : Type 0} (old new : Option (List ℕ)) (most : ℕ) (refusal : E) (given bytes : List ℕ) → Took old new most refusal (let r : Result (List ℕ) E = Ok given in r) bytes → Consumes old new given × (length given ≤ most)
all_taken old new most refusal given bytes took =
    let whole : bytes ≡ given = sym took.given in
    let short : length bytes ≢ most + 1 = λ long. cc (took.one_more.1 long) in
    let bound : length bytes ≤ most = omega (arith, took.bound, short) in
    let P : List ℕ → Type 0 = λ l. Consumes old new l × (length l ≤ most) in
    subst P whole (took.consumed, bound)

-- a source of which nothing is read
none_taken : (bytes : Option (List ℕ)) → Consumes bytes bytes []
none_taken (Some bytes) = refl
none_taken None = tt

untouched_gives : (source : Edge) → IsUntouched source → Consumes source.bytes_before source.bytes_after []
untouched_gives source untouched =
    let P : Option (List ℕ) → Type 0 = λ after. Consumes source.bytes_before after [] in
    subst P (sym untouched.0) (none_taken source.bytes_before)

-- want of memory behind nothing
forgotten : (words : List (List ℕ)) (source : Edge) → IsUntouched source → EndsBefore words source Memory (fixed_text Memory)
forgotten words source untouched = ([], untouched_gives source untouched, omega arith, untouched.1, refl)

-- ---- all was read

module _ (words : List (List ℕ)) (source : Edge) (order : Order) (input : List ℕ) (all : HasReadAll words source order input) where
  answered : (status : Status) (text : List ℕ) → Answers order input status text → IsAnswered words source status text
  answered status text is = record { order = order; input = input; read = all; answers = is }

  answered_ends : (status : Status) (text : List ℕ) → Answers order input status text → EndsBefore words source status text
  answered_ends NotJson text is = answered NotJson text is
  answered_ends Refused text is = answered Refused text is
  answered_ends Done text is = inl (answered Done text is)
  answered_ends Memory text is = (input, all.read.consumed, all.bound, all.unfailed, is)
  answered_ends Usage text is = absurd is
  answered_ends ReadFault text is = absurd is
  answered_ends WriteFault text is = absurd is
  answered_ends StoreFault text is = absurd is
  answered_ends TooLarge text is = absurd is
  answered_ends TooLong text is = absurd is

  read_in : (m : Mode) (D : Document) (s : Shown) → IsDocument input D → order.mode ≡ m → s ≡ shown order.summary order.history → IsRead words source m D s
  read_in m D s is mode shows = record { order = order; input = input; read = all; mode = mode; document = is; shows = shows }

  to_run : (m : Mode) (D : Document) (s : Shown) → IsDocument input D → order.mode ≡ m → RunsInput m → s ≡ shown order.summary order.history → IsToRun words source m D s
  to_run mode.Run D s is same runs shows = read_in mode.Run D s is same shows
  to_run mode.Simulate D s is same runs shows = read_in mode.Simulate D s is same shows
  to_run mode.Check D s is same runs shows = absurd runs
  to_run mode.Generate D s is same runs shows = absurd runs

  pub asks_of_source : (result : Result Asked Status) → AsksOf order input result → Asks words source result
  asks_of_source (Ok (asked.Told made)) is = answered_ends made.status made.text is
  asks_of_source (Ok (asked.Run m D s)) is = (to_run m D s is.0 is.1 is.2 is.3, is.4)
  asks_of_source (Err status) is = answered_ends status (fixed_text status) is

-- ---- a document was run

module _ (words : List (List ℕ)) (source : Edge) (D : Document) (s : Shown) where
  lost_read : (m : Mode) → IsRead words source m D s → EndsBefore words source Memory (fixed_text Memory)
  lost_read m r = (r.input, r.read.read.consumed, r.read.bound, r.read.unfailed, refl)

  lost : (m : Mode) → IsToRun words source m D s → EndsBefore words source Memory (fixed_text Memory)
  lost mode.Run r = lost_read mode.Run r
  lost mode.Simulate r = lost_read mode.Simulate r
  lost mode.Generate m = forgotten words source m.generates.untouched
  lost mode.Check r = absurd r

  pub run_ends : (m : Mode) (before : ℕ) → IsToRun words source m D s → (kept : Option Kept) (status : Status) (text : List ℕ) → RunLeaves m before D s kept status text → Ends words source before kept status text
  run_ends m before runs (Some k) status text ends = record { runs_in = m; document = D; shows = s; runs = runs; ends = ends }
  run_ends m before runs None status text ends =
      let P : Status → Type 0 = λ x. EndsBefore words source x text in
      let Q : List ℕ → Type 0 = λ x. EndsBefore words source Memory x in
      subst P (sym ends.0) (subst Q (sym ends.1) (lost m runs))
