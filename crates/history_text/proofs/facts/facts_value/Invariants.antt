use Rattle.std.proofs.Common.{◌≡◌, take, map}
use Rattle.history_text.specs.Inside.Parts.{parts_of}
use Rattle.history_text.specs.Lines.{fact_data}
use Rattle.history_text.proofs.facts.facts_value.Given as goal

abbrev pub invariant-loop-fact : goal.invariant-loop-fact
invariant-loop-fact l = parts_of l.items ≡ map fact_data (take l.fact-index l.facts)
