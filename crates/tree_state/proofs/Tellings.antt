-- Lines, told one after the other.
use Rattle.std.proofs.Common.{◌≡◌, ℕ, ◌+◌, ◌<◌, length, get_or, drop, List, [], ◌∷◌, ◌++◌, append_assoc, Option, Some, None, refl, sym, ap, ◌∙◌}
use Rattle.std.proofs.lemmas.List.{append-nil}
use Rattle.std.specs.Prelude.{filter_map}
use Rattle.std.specs.List.{cons_option}
use Rattle.std.specs.declared.sync.Arc.{Arc}
use Rattle.std.specs.declared.alloc.Global.{Global}
use Rattle.tree_types.specs.declared.node.Node.{Node}
use Rattle.tree_types.specs.declared.path.Path.{Path}
use Rattle.tree_types.specs.declared.want.Want.{Want}
use Rattle.meaning.specs.declared.lines.Line.{Line}
use Rattle.meaning.specs.Trees.{node_in, want_in, beginning_in, nodes_in, wants_in, beginnings_in}
use Rattle.meaning.specs.Lines.{Parts, nothing, Made, lines_below}
use Rattle.meaning.proofs.Flattening.{lines_then}
use Rattle.tree_state.specs.declared.state.Line.{Line as Line'}
use Rattle.tree_state.specs.declared.state.Kid.{Kid}
use Rattle.tree_state.specs.Inside.Kids.{line_then, state_then, parts_of}
use Rattle.tree_state.proofs.Kids.{kid_then, from_here}
use Rattle.tree_state.specs.declared.told.Told.{Told}
use Rattle.tree_state.specs.Telling.{told_with}

cons_append : {A : Type 0} (o : Option A) (xs ys : List A) → cons_option o (xs ++ ys) ≡ cons_option o xs ++ ys
cons_append None xs ys = refl
cons_append (Some x) xs ys = refl

pub filter_append : {A B : Type 0} (f : A → Option B) (xs ys : List A) → filter_map f (xs ++ ys) ≡ filter_map f xs ++ filter_map f ys
filter_append f [] ys = refl
filter_append f (x ∷ xs) ys = ap (λ zs. cons_option (f x) zs) (filter_append f xs ys) ∙ cons_append (f x) (filter_map f xs) (filter_map f ys)

-- lines behind others
pub told_then : (t : Told) (a b : List Line) → told_with (told_with t a) b ≡ told_with t (a ++ b)
told_then t a b = λ i. record {
  nodes = (append_assoc t.nodes (nodes_in a) (nodes_in b) ∙ ap (λ (ns : List Node). t.nodes ++ ns) (sym (filter_append node_in a b))) i;
  wants = (append_assoc t.wants (wants_in a) (wants_in b) ∙ ap (λ (ns : List Want). t.wants ++ ns) (sym (filter_append want_in a b))) i;
  beginnings = (append_assoc t.beginnings (beginnings_in a) (beginnings_in b) ∙ ap (λ (ns : List Path). t.beginnings ++ ns) (sym (filter_append beginning_in a b))) i;
}

-- no lines
pub told_none : (t : Told) → told_with t [] ≡ t
told_none t = λ i. record { nodes = append-nil t.nodes i; wants = append-nil t.wants i; beginnings = append-nil t.beginnings i }

-- one kid's lines, and those of the kids behind it
pub kid_lines : (l : Option (Arc Line' Global)) (s : Option (Arc Made Global)) (more : Parts) →
    lines_below (line_then l (state_then s more)) ≡ lines_below (line_then l (state_then s nothing)) ++ lines_below more
kid_lines l s more = sym (ap lines_below (kid_then l s nothing more)) ∙ lines_then (line_then l (state_then s nothing)) more

pub kid_told : (t : Told) (kids : List Kid) (i : ℕ) (k : Kid) → i < length kids → k ≡ get_or kids i k →
    told_with (told_with t (lines_below (line_then k.line (state_then k.state nothing)))) (lines_below (parts_of (drop (i + 1) kids)))
    ≡ told_with t (lines_below (parts_of (drop i kids)))
kid_told t kids i k lt is =
    told_then t (lines_below (line_then k.line (state_then k.state nothing))) (lines_below (parts_of (drop (i + 1) kids)))
    ∙ ap (λ ls. told_with t ls) (sym (kid_lines k.line k.state (parts_of (drop (i + 1) kids))))
    ∙ ap (λ ks. told_with t (lines_below (parts_of ks))) (sym (from_here kids i k lt is))
