-- A layer is higher than those it stands on.
use Rattle.std.proofs.Common.{ℕ, suc, ◌≤◌, Option, Some, None, arith}
use Rattle.std.specs.declared.sync.Arc.{Arc}
use Rattle.std.specs.declared.alloc.Global.{Global}
use Rattle.scopes.specs.declared.scope.Layer.TheInside.{Inside}
use Rattle.scopes.specs.declared.scope.Layer.TheDeep.{deep-Layer}
use Rattle.scopes.specs.Substitution.{Scope}
use Rattle.scopes.specs.Inside.Layers.{Layered, outer_height}

lower : (t : Scope) (o : Option (Arc Layered Global)) → deep-Layer (record { tags = t; outer = o }) ≤ suc (outer_height o)
lower t None = omega arith
lower t (Some o) = omega arith

pub outer_is_lower : (a : Inside) → deep-Layer a ≤ suc (outer_height a.outer)
outer_is_lower a = lower a.tags a.outer
