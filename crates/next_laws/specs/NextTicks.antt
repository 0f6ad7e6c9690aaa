-- The least of the ticks above the clock is the next at which something is due.
use Rattle.law.specs.Documents.{Document}
use Rattle.law.specs.Contents.{Story}
use Rattle.law.specs.Justified.{IsLawful}
use Rattle.law.specs.Due.{IsNext}
use Rattle.next_step.specs.Ticks.{next_tick}

abbrev pub NextTickIsNext : Type 0
NextTickIsNext = (D : Document) (h : Story) → IsLawful D h → IsNext D h (next_tick D h)
