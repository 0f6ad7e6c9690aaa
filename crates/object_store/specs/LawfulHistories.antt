-- When a history of contents is lawful: it begins as the law allows, and each entry is justified.
use Rattle.std.specs.Prelude.{List}
use Rattle.tree_types.specs.declared.entry.Key.{Key}
use Rattle.history.specs.History.{History, Event, Lawful}

pub record IsLawful
    {L C : Type 0} (begins : L → List (Key × C) → Type 0) (justified : L → History C → Event C → Type 0)
    (law : L) (h : History C) : Type 0 where
  pub start : begins law h.start
  pub each : Lawful (justified law) h
