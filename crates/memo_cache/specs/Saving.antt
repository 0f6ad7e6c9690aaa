-- A save of its parts.
use Rattle.std.specs.Prelude.{ℕ, List}
use Rattle.tree_types.specs.declared.path.Path.{Path}
use Rattle.tree_types.specs.declared.entry.HolderKey.{HolderKey}
use Rattle.tree_types.specs.declared.outcome.Outputs.{Outputs}
use Rattle.saves.specs.declared.Saved.{Saved}

abbrev pub save_of : List ℕ → List ℕ → HolderKey → Outputs → ℕ → Saved
save_of cache key writer outputs tick = record { cache = cache; key = key; writer = writer; outputs = outputs; tick = tick }

abbrev pub writer : List ℕ → Path → HolderKey
writer workflow path = record { workflow = workflow; path = path }
