-- Entries whose ranks are by their keys are readable.
use Rattle.std.proofs.Common.{List, [], ◌∷◌}
use Rattle.std.specs.List.{AllByRecursion}
use Rattle.tree_types.specs.declared.entry.Entry.{Entry}
use Rattle.history_text.specs.Readable.{FitsEntry, RanksByKey, AreReadable}

pub both : (entries : List Entry) → AllByRecursion FitsEntry entries → AllByRecursion RanksByKey entries → AreReadable entries
both [] fit ranked = tt
both (entry ∷ entries) fit ranked = ((fit.0, ranked.0), both entries fit.1 ranked.1)
