-- The wants of a kind among lines, counted.
use Rattle.std.proofs.Common.{◌≡◌, ℕ, ◌+◌, ◌<◌, length, length-append, get_or, drop, List, [], ◌∷◌, ◌++◌, Option, Some, None, ap, ◌∙◌, arith}
use Rattle.std.specs.List.{filter}
use Rattle.std.proofs.lemmas.List.{append-nil}
use Rattle.std.proofs.lemmas.List.Elements.{filter-append}
use Rattle.std.specs.declared.sync.Arc.{Arc}
use Rattle.std.specs.declared.alloc.Global.{Global}
use Rattle.tree_types.specs.declared.want.Want.{Want}
use Rattle.meaning.specs.declared.lines.Line.{Line}
use Rattle.meaning.specs.Lines.{nothing, Made, lines_below, lines_in}
use Rattle.meaning.specs.Trees.{want_in, wants_in}
use Rattle.tree_state.specs.declared.kinds.WantKind.{WantKind}
use Rattle.tree_state.specs.declared.state.Line.{Line as Line'}
use Rattle.tree_state.specs.Asking.{is_of}
use Rattle.tree_state.specs.Inside.Kids.{line_then, state_then}
use Rattle.tree_state.proofs.Firsts.{asked_first}
use Rattle.tree_state.proofs.Kids.{from_here}
use Rattle.tree_state.proofs.Tellings.{filter_append, kid_lines}

abbrev pub among : WantKind → List Line → List Want
among k ls = filter (is_of k) (wants_in ls)

-- both together are counted
pub both_counted : (ws a b : List Want) (m n : ℕ) → ws ≡ a ++ b → m ≡ length a → n ≡ length b → m + n ≡ length ws
both_counted ws a b m n is first second = omega (arith, ap (λ (vs : List Want). length vs) is, length-append a b, first, second)

module _ (k : WantKind) where
  -- those of some wants, and of those behind them
  more : (a b : List Want) → filter (is_of k) (a ++ b) ≡ filter (is_of k) a ++ filter (is_of k) b
  more a b = filter-append (is_of k) a b

  -- the same of lines
  pub kind_then : (a b : List Line) → among k (a ++ b) ≡ among k a ++ among k b
  kind_then a b = ap (λ (ws : List Want). filter (is_of k) ws) (filter_append want_in a b) ∙ more (wants_in a) (wants_in b)

  -- one want of a list, and those behind it
  pub kind_from : (ws : List Want) (i : ℕ) (w : Want) → i < length ws → w ≡ get_or ws i w → filter (is_of k) (drop i ws) ≡ filter (is_of k) (w ∷ []) ++ filter (is_of k) (drop (i + 1) ws)
  kind_from ws i w lt is = ap (λ (vs : List Want). filter (is_of k) vs) (from_here ws i w lt is) ∙ more (w ∷ []) (drop (i + 1) ws)

  -- those of a node, and those below it
  pub kind_over : (m : Made) → among k (lines_in m) ≡ filter (is_of k) m.own.wants ++ among k (lines_below m.parts)
  kind_over m = ap (λ (ws : List Want). filter (is_of k) ws) (asked_first m.own.wants (lines_below m.parts)) ∙ more m.own.wants (wants_in (lines_below m.parts))

  -- that of a kid's own line, and those of its call
  pub kind_of_kid : (l : Option (Arc Line' Global)) (s : Option (Arc Made Global)) →
      among k (lines_below (line_then l (state_then s nothing))) ≡ among k (lines_below (line_then l nothing)) ++ among k (lines_below (state_then s nothing))
  kind_of_kid l s = ap (among k) (kid_lines l None (state_then s nothing)) ∙ kind_then (lines_below (line_then l nothing)) (lines_below (state_then s nothing))

  pub kind_of_call : (s : Arc Made Global) → among k (lines_below (state_then (Some s) nothing)) ≡ among k (lines_in s.value)
  kind_of_call s = ap (among k) (append-nil (lines_in s.value))
