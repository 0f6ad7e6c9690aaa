-- What is lent of a workflow's records, as the meaning has it.
use Rattle.std.specs.Prelude.{Bool, true, false, Option, option_map, option_copied}
use Rattle.std.specs.Borrow.{Bor}
use Rattle.tree_types.specs.declared.node.Note.{Note}
use Rattle.tree_types.specs.declared.node.Note.TheVariants as note
use Rattle.tree_types.specs.declared.outcome.Outcome.{Outcome}
use Rattle.tree_types.specs.declared.outcome.Outputs.{Outputs}
use Rattle.meaning.specs.Answers.{MemoAnswer}
use Rattle.recorded.specs.declared.ended.Ended.{Ended}

-- the note of the pod's node
abbrev pub note_if : Bool → Note
note_if false = note.None
note_if true = note.Carried

-- the outcome whose texts are lent
abbrev pub outcome_of : Ended → Outcome
outcome_of e = record {
  phase = e.phase;
  result = e.result.now;
  params = e.params.now;
  transient = e.transient;
  begin = e.begin;
  finish = e.finish;
  ended = e.ended;
}

abbrev pub end_of : Ended → Note × Outcome
end_of e = (note_if e.carried, outcome_of e)

abbrev pub answered : Option Ended → Option (Note × Outcome)
answered ended = option_map end_of ended

-- the answer of a cache whose kept outputs are lent
abbrev pub memo_answered : Option (Option (Bor Outputs)) → Option MemoAnswer
memo_answered answer = option_map option_copied answer
