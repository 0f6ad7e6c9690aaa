-- Endings, as code keeps them.
use Rattle.std.specs.Prelude.{ℕ, List, Option}
use Rattle.tree_types.specs.declared.outcome.Param.{Param}
use Rattle.tree_types.specs.declared.outcome.Outputs.{Outputs}
use Rattle.meaning.specs.Outputs.{Ending as Ended}
use Rattle.call_nodes.specs.declared.endings.Ending.{Ending}

-- an ending, as the meaning has it
abbrev pub ending : Ending → Ended
ending e = record { outputs = e.outputs; lack = e.lack }

-- what a pod gave
abbrev pub given : Option (List ℕ) → List Param → Outputs
given result params = record { result = result; params = params }
