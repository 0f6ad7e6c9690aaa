-- Wants of a kind, listed one after the other.
use Rattle.std.proofs.Common.{◌≡◌, ℕ, ◌+◌, ◌<◌, length, get_or, drop, List, [], ◌∷◌, ◌++◌, append_assoc, Bool, true, false, cond, refl, sym, ap, ◌∙◌}
use Rattle.std.specs.Prelude.{◌||◌}
use Rattle.std.specs.List.{filter, list_any}
use Rattle.std.proofs.lemmas.List.{append-nil}
use Rattle.std.specs.declared.sync.Arc.{Arc}
use Rattle.std.specs.declared.alloc.Global.{Global}
use Rattle.tree_types.specs.declared.want.Want.{Want}
use Rattle.meaning.specs.declared.lines.Line.{Line}
use Rattle.meaning.specs.Lines.{Parts, Made, then_parts, lines_below, lines_in}
use Rattle.meaning.specs.Trees.{wants_in}
use Rattle.tree_state.specs.declared.kinds.WantKind.{WantKind}
use Rattle.tree_state.specs.declared.kinds.Asks.{Asks as Kinds}
use Rattle.tree_state.specs.declared.state.Kid.{Kid}
use Rattle.tree_state.specs.Asking.{is_of}
use Rattle.tree_state.specs.Inside.Kids.{kid_parts, parts_of}
use Rattle.tree_state.specs.Inside.Chunks.{all_of}
use Rattle.tree_state.specs.Inside.Sums.{asks_in, asks_of}
use Rattle.tree_state.proofs.Chunks.{chunks_read}
use Rattle.tree_state.proofs.Firsts.{kids_read, asks_none}
use Rattle.tree_state.proofs.OfKind.{among, kind_then, kind_over}

-- some more are listed
pub lists_next : (was now own rest all : List Want) → now ≡ was ++ own → was ++ (own ++ rest) ≡ all → now ++ rest ≡ all
lists_next was now own rest all given is = ap (λ (ws : List Want). ws ++ rest) given ∙ append_assoc was own rest ∙ is

module _ (k : WantKind) where
  none_by : (w : Want) (ws : List Want) → filter (is_of k) ws ≡ [] → (b : Bool) → is_of k w ≡ b → (b || list_any (is_of k) ws) ≡ false → filter (is_of k) (w ∷ ws) ≡ []
  none_by w ws rest true is off = absurd (cc)
  none_by w ws rest false is off = ap (λ (b : Bool). cond b (w ∷ filter (is_of k) ws) (filter (is_of k) ws)) is ∙ rest

  rest_off : (b c : Bool) → (b || c) ≡ false → c ≡ false
  rest_off true c off = absurd (cc)
  rest_off false c off = off

  none_kept : (ws : List Want) → list_any (is_of k) ws ≡ false → filter (is_of k) ws ≡ []
  none_kept [] off = refl
  none_kept (w ∷ ws) off = none_by w ws (none_kept ws (rest_off (is_of k w) (list_any (is_of k) ws) off)) (is_of k w) refl off

  -- no want is of the kind
  pub lists_none : (was : List Want) (ls : List Line) (a : Kinds) (b : Bool) → a ≡ asks_in ls → b ≡ asks_of k a → b ≡ false → was ≡ was ++ among k ls
  lists_none was ls a b all is off =
      sym (ap (λ (ws : List Want). was ++ ws) (none_kept (wants_in ls) (asks_none k ls a b all is off)) ∙ append-nil was)

  -- one kid more
  pub kid_listed : (kids : List Kid) (i : ℕ) (x : Kid) (was now all : List Want) → i < length kids → x ≡ get_or kids i x → now ≡ was ++ among k (lines_below (kid_parts x)) →
      was ++ among k (lines_below (parts_of (drop i kids))) ≡ all → now ++ among k (lines_below (parts_of (drop (i + 1) kids))) ≡ all
  kid_listed kids i x was now all lt is given had =
      lists_next was now (among k (lines_below (kid_parts x))) (among k (lines_below (parts_of (drop (i + 1) kids)))) all given
      (ap (λ (ws : List Want). was ++ ws) (sym (kids_read (λ (a b : List Want). a ++ b) (among k) (kind_then k) kids i x lt is)) ∙ had)

  -- one chunk more
  pub chunk_listed : (cs : List (Arc Parts Global)) (last : Parts) (i : ℕ) (c : Arc Parts Global) (was now all : List Want) → i < length cs → c ≡ get_or cs i c → now ≡ was ++ among k (lines_below c.value) →
      was ++ among k (lines_below (then_parts (all_of (drop i cs)) last)) ≡ all → now ++ among k (lines_below (then_parts (all_of (drop (i + 1) cs)) last)) ≡ all
  chunk_listed cs last i c was now all lt is given had =
      lists_next was now (among k (lines_below c.value)) (among k (lines_below (then_parts (all_of (drop (i + 1) cs)) last))) all given
      (ap (λ (ws : List Want). was ++ ws) (sym (chunks_read (λ (a b : List Want). a ++ b) (among k) (kind_then k) cs last i c lt is)) ∙ had)

  -- those of a node, and those below it
  pub node_listed : (m : Made) (was own now : List Want) → own ≡ was ++ filter (is_of k) m.own.wants → now ≡ own ++ among k (lines_below m.parts) → now ≡ was ++ among k (lines_in m)
  node_listed m was own now first given =
      given ∙ lists_next was own (filter (is_of k) m.own.wants) (among k (lines_below m.parts)) (was ++ among k (lines_in m)) first (ap (λ (ws : List Want). was ++ ws) (sym (kind_over k m)))
