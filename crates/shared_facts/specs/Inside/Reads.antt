-- What a fact of a kind says.
use Rattle.std.specs.Prelude.{ℕ, Option, Some, None}
use Rattle.tree_types.specs.declared.outcome.Outcome.{Outcome}
use Rattle.tree_types.specs.declared.fact.Fact.{Fact}
use Rattle.tree_types.specs.declared.fact.Fact.TheVariants.{Settled, Carried, Memo, Armed}
use Rattle.meaning.specs.Answers.{MemoAnswer}

abbrev pub settled : Fact → Option Outcome
settled (Settled p o) = Some o
settled _ = None

abbrev pub carried : Fact → Option Outcome
carried (Carried p o) = Some o
carried _ = None

abbrev pub memo : Fact → Option MemoAnswer
memo (Memo p answer) = Some answer
memo _ = None

abbrev pub armed : Fact → Option ℕ
armed (Armed p tick) = Some tick
armed _ = None
