-- What is known of a workflow beside its manifest: an answer for each place that asks something.
use Rattle.std.specs.Prelude.{ℕ, List, [], ◌∷◌, Bool, Option, Some, None, if◌then◌else◌}
use Rattle.tree_types.specs.declared.path.Sel.{Sel}
use Rattle.tree_types.specs.declared.path.Path.{Path}
use Rattle.tree_types.specs.declared.node.Note.{Note}
use Rattle.tree_types.specs.declared.node.Note.TheVariants as note
use Rattle.tree_types.specs.declared.outcome.Outcome.{Outcome}
use Rattle.tree_types.specs.declared.outcome.Outputs.{Outputs}
use Rattle.tree_types.specs.declared.fact.Fact.{Fact}
use Rattle.tree_types.specs.declared.fact.Fact.TheVariants.{Started, Settled, Carried, Granted, Memo, Armed, Due, Resumed, Begun}
use Rattle.tree_types.specs.Places.{sels_eq}
use Rattle.tree_types.specs.Journals.{knows}
use Rattle.meaning.specs.declared.lines.Place.{Place}

abbrev pub Sels : Type 0
Sels = List Sel

-- a journal, seen as its facts
abbrev pub Facts : Type 0
Facts = List Fact

abbrev pub path : Sels → Path
path p = record { sels = p }

-- an answer of a cache that is recorded: the kept outputs, or that it has none
abbrev pub MemoAnswer : Type 0
MemoAnswer = Option Outputs

-- what is answered, and where nothing is answered yet
pub record Answers : Type 0 where
  pub started : Bool
  pub outcome : Place → Option (Note × Outcome)
  pub granted : Sels → Bool
  pub memo : Sels → Option MemoAnswer
  pub armed : Sels → Option ℕ
  pub due : Sels → Bool
  pub resumed : Sels → Bool
  pub begun : Sels → Bool

-- ---- the answers of a journal

abbrev pub first_or : {A : Type 0} → Option A → Option A → Option A
first_or (Some x) rest = Some x
first_or None rest = rest

-- the first that a reading of the facts gives
abbrev pub first_of : {A : Type 0} → (Fact → Option A) → Facts → Option A
first_of read [] = None
first_of read (f ∷ fs) = first_or (read f) (first_of read fs)

abbrev pub settled_in : Sels → Fact → Option Outcome
settled_in p (Settled q o) = if sels_eq q.sels p then Some o else None
settled_in p _ = None

abbrev pub carried_in : Sels → Fact → Option Outcome
carried_in p (Carried q o) = if sels_eq q.sels p then Some o else None
carried_in p _ = None

abbrev pub memo_in : Sels → Fact → Option MemoAnswer
memo_in p (Memo q answer) = if sels_eq q.sels p then Some answer else None
memo_in p _ = None

abbrev pub armed_in : Sels → Fact → Option ℕ
armed_in p (Armed q tick) = if sels_eq q.sels p then Some tick else None
armed_in p _ = None

-- what was settled, else what was carried over, with the note of the pod's node
abbrev pub outcome_of : Option Outcome → Option Outcome → Option (Note × Outcome)
outcome_of (Some o) carried = Some (note.None, o)
outcome_of None (Some o) = Some (note.Carried, o)
outcome_of None None = None

abbrev pub outcome_at : Facts → Sels → Option (Note × Outcome)
outcome_at J p = outcome_of (first_of (settled_in p) J) (first_of (carried_in p) J)

-- the answers that a journal gives
abbrev pub answers : Facts → Answers
answers J = record {
  started = knows J Started;
  outcome = λ place. outcome_at J place.sels;
  granted = λ p. knows J (Granted (path p));
  memo = λ p. first_of (memo_in p) J;
  armed = λ p. first_of (armed_in p) J;
  due = λ p. knows J (Due (path p));
  resumed = λ p. knows J (Resumed (path p));
  begun = λ p. knows J (Begun (path p));
}
