-- What is to be saved, and what of it is left.
use Rattle.std.specs.Prelude.{Bool, false, not, List, Option}
use Rattle.tree_types.specs.declared.want.Want.{Want}
use Rattle.tree_types.specs.declared.want.Want.TheVariants as want
use Rattle.tree_state.specs.declared.kinds.WantKind.TheVariants as kind
use Rattle.saves.specs.declared.Saved.{Saved}
use Rattle.saves.specs.Saves.{has_saved}
use Rattle.law.specs.Documents.{Text}
use Rattle.law.specs.Contents.{Flow}
use Rattle.law.specs.Justified.{key}
use Rattle.next_step.specs.Views.{Seen}
use Rattle.worker_job.specs.Inside.Left.{LeftFits}

-- something is to be saved by a path that saved nothing
abbrev pub is_left : Text → List Saved → Want → Bool
is_left w ss (want.Save p cache entry o) = not (has_saved (key w p) ss)
is_left w ss _ = false

-- what is left of a workflow by the saves, where both were read
abbrev pub SavingFits : Option (List Want) → Text → Option (Seen Flow) → Option (Seen (List Saved)) → Type 0
SavingFits ahead w flow saves = LeftFits kind.Save (is_left w) ahead flow saves
