-- The nodes that are counted are those of the lines.
use Rattle.std.proofs.Common.{◌≡◌, suc, ◌+◌, List, [], ◌∷◌, ◌++◌, length, length-append, refl, ap, ◌∙◌, arith}
use Rattle.std.specs.Prelude.{map}
use Rattle.tree_types.specs.declared.node.Node.{Node}
use Rattle.tree_types.specs.declared.want.Want.{Want}
use Rattle.meaning.specs.declared.lines.Line.{Line}
use Rattle.meaning.specs.declared.lines.Line.TheVariants.{Asks}
use Rattle.meaning.specs.Lines.{Parts, nothing, call, may_begin, asks, Made, then_parts, lines_over, lines_below, lines_in}
use Rattle.meaning.specs.Trees.{node_in, nodes_in}
use Rattle.tree_state.specs.Counting.{count_below, count}
use Rattle.tree_state.proofs.Tellings.{filter_append}

pub no_nodes : (ws : List Want) (ls : List Line) → nodes_in (map Asks ws ++ ls) ≡ nodes_in ls
no_nodes [] ls = refl
no_nodes (w ∷ ws) ls = no_nodes ws ls

counted_over : (n : Node) (ws : List Want) (ls : List Line) → length (nodes_in (lines_over n ws ls)) ≡ suc (length (nodes_in ls))
counted_over n ws ls = ap (λ (ns : List Node). suc (length ns)) (no_nodes ws ls)

pub counted_below : (p : Parts) → length (nodes_in (lines_below p)) ≡ count_below p
counted_below nothing = refl
counted_below (call own inner rest) =
    let here = lines_over own.node own.wants (lines_below inner) in
    let both : length (nodes_in (here ++ lines_below rest)) ≡ length (nodes_in here) + length (nodes_in (lines_below rest)) =
    ap (λ (ns : List Node). length ns) (filter_append node_in here (lines_below rest)) ∙ length-append (nodes_in here) (nodes_in (lines_below rest)) in
    omega (arith, both, counted_over own.node own.wants (lines_below inner), counted_below inner, counted_below rest)
counted_below (may_begin p rest) = counted_below rest
counted_below (asks w rest) = counted_below rest

pub counted : (m : Made) → length (nodes_in (lines_in m)) ≡ count m
counted m = counted_over m.own.node m.own.wants (lines_below m.parts) ∙ ap suc (counted_below m.parts)

-- parts behind others
pub count_then : (p q : Parts) → count_below (then_parts p q) ≡ count_below p + count_below q
count_then nothing q = omega arith
count_then (call own inner rest) q = omega (arith, count_then rest q)
count_then (may_begin p rest) q = count_then rest q
count_then (asks w rest) q = count_then rest q
