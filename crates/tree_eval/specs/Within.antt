-- Trees that are not too large.
use Rattle.std.specs.Prelude.{List, Result, Ok, Err, nat_le, length, if◌then◌else◌}
use Rattle.base_types.specs.Limits.{most_nodes}
use Rattle.tree_types.specs.declared.node.Node.{Node}
use Rattle.tree_state.specs.declared.refused.TreeRefused.{TreeRefused}
use Rattle.tree_state.specs.declared.refused.TreeRefused.TheVariants.{TooLarge}

-- of at most 10,000 nodes there is a tree
abbrev pub within : {A : Type 0} → List Node → A → Result A TreeRefused
within nodes whole = if nat_le (length nodes) most_nodes then Ok whole else Err TooLarge
