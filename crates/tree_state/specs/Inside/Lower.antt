-- What stands below a node is smaller than the whole.
use Rattle.std.proofs.Common.{◌≡◌, ◌+◌, ◌*◌, ◌≤◌, List, [], ◌∷◌, Option, Some, None, refl, arith}
use denote.Param.Weighed.{most}
use Rattle.std.specs.declared.sync.Arc.{Arc}
use Rattle.std.specs.declared.alloc.Global.{Global}
use Rattle.meaning.specs.Lines.{Parts, Made}
use Rattle.tree_state.specs.declared.state.Line.{Line}
use Rattle.tree_state.specs.declared.state.Line.TheVariants.{MayBegin, Asks}
use Rattle.tree_state.specs.declared.state.Kid.{Kid}
use Rattle.tree_state.specs.declared.below.Below.TheDeep.{deep-Kid}
use Rattle.tree_state.specs.Counting.{count_below}
use Rattle.tree_state.specs.Inside.Kids.{own_line, line_then, state_then, parts_of}

-- a line has no node
pub line_alone : (l : Line) (more : Parts) → count_below (own_line l more) ≡ count_below more
line_alone (MayBegin p) more = refl
line_alone (Asks w) more = refl

kid_lower : (l : Option (Arc Line Global)) (s : Option (Arc Made Global)) (more : Parts) →
    deep-Kid (record { line = l; state = s }) ≤ 6 * count_below (line_then l (state_then s more)) + 2
kid_lower None None more = omega arith
kid_lower None (Some s) more = omega arith
kid_lower (Some l) None more = omega arith
kid_lower (Some l) (Some s) more = omega (arith, line_alone l.value (state_then (Some s) more))

rest_lower : (l : Option (Arc Line Global)) (s : Option (Arc Made Global)) (more : Parts) → count_below more ≤ count_below (line_then l (state_then s more))
rest_lower None None more = omega arith
rest_lower None (Some s) more = omega arith
rest_lower (Some l) None more = omega (arith, line_alone l.value more)
rest_lower (Some l) (Some s) more = omega (arith, line_alone l.value (state_then (Some s) more))

pub kids_are_lower : (kids : List Kid) → most (λ k. deep-Kid k) kids ≤ 6 * count_below (parts_of kids) + 2
kids_are_lower [] = omega arith
kids_are_lower (k ∷ ks) =
    omega (arith, kid_lower k.line k.state (parts_of ks), rest_lower k.line k.state (parts_of ks), kids_are_lower ks)
