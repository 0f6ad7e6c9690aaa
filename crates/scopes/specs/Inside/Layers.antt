-- What a contract sees of a layer of a scope.
use Rattle.std.specs.Prelude.{ℕ, suc, ◌+◌, ◌≤◌, List, [], Option, Some, None}
use Rattle.std.specs.declared.sync.Arc.{Arc}
use Rattle.std.specs.declared.alloc.Global.{Global}
use Rattle.std.proofs.Common.{arith}
use Rattle.scopes.specs.Substitution.{Scope}

-- tags and their values, and on how many layers they stand
pub record Layered : Type 0 where
  pub tags : Scope
  pub height : ℕ

abbrev pub outer_tags : Option (Arc Layered Global) → Scope
outer_tags None = []
outer_tags (Some a) = a.value.tags

abbrev pub outer_height : Option (Arc Layered Global) → ℕ
outer_height None = 0
outer_height (Some a) = a.value.height
