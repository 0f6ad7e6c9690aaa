-- Rows of calls, and how many nodes stand in them.
use Rattle.std.proofs.Common.{◌≡◌, ◌+◌, List, [], ◌∷◌, ◌++◌, refl, ap, ◌∙◌, arith}
use Rattle.tree_types.specs.declared.want.Want.{Want}
use Rattle.meaning.specs.Lines.{Parts, nothing, call, may_begin, asks, Made, row_of, asked, then_parts}
use Rattle.tree_state.specs.Counting.{count_below}
use Rattle.tree_state.proofs.Counts.{count_then}

-- a row, and more calls behind it
pub row_append : (ms ns : List Made) → row_of (ms ++ ns) ≡ then_parts (row_of ms) (row_of ns)
row_append [] ns = refl
row_append (x ∷ ms) ns = ap (λ (p : Parts). call x.own x.parts p) (row_append ms ns)

pub row_then : (ms : List Made) (m : Made) → row_of (ms ++ m ∷ []) ≡ then_parts (row_of ms) (row_of (m ∷ []))
row_then ms m = row_append ms (m ∷ [])

-- nothing behind it
pub then_nothing : (p : Parts) → then_parts p nothing ≡ p
then_nothing nothing = refl
then_nothing (call own inner rest) = ap (λ (q : Parts). call own inner q) (then_nothing rest)
then_nothing (may_begin path rest) = ap (λ (q : Parts). may_begin path q) (then_nothing rest)
then_nothing (asks want rest) = ap (λ (q : Parts). asks want q) (then_nothing rest)

-- ---- nodes

pub count_append : (ms ns : List Made) → count_below (row_of (ms ++ ns)) ≡ count_below (row_of ms) + count_below (row_of ns)
count_append ms ns = ap count_below (row_append ms ns) ∙ count_then (row_of ms) (row_of ns)

-- what is asked for is no node
count_asked : (ws : List Want) → count_below (asked ws) ≡ 0
count_asked [] = refl
count_asked (w ∷ ws) = count_asked ws

pub count_asking : (p : Parts) (ws : List Want) → count_below (then_parts p (asked ws)) ≡ count_below p
count_asking p ws = omega (arith, count_then p (asked ws), count_asked ws)
